use Rattle.std.proofs.Common.{ap, ◌∙◌, sym}
use Rattle.vol_spec.specs.SegBlocks.{raw_len}
use Rattle.vol_spec.specs.SegFaults.{seg_fault}
use Rattle.vol_spec.specs.SegShapes.{sizes_of}
use Rattle.segment_cells.specs.Decoding.{HoldsValues}
use Rattle.segment_cells.proofs.CellSteps.{fault-seg, on_ok, values_at}
use Rattle.segment_cells.proofs.SegSteps.{raw_same}
use Rattle.segment_cells.proofs.chunks.decode_cell.Goals as goal

pub decode-requires : goal.decode-requires
decode-requires c = record { raw = c.requires.len ∙ sym (raw_same c.args.scale.now c.args.cell c.args.block c.requires.block) ∙ ap raw_len (sym c.shape_of.ensures) }

pub returns-clause-fault : goal.returns-clause-fault
returns-clause-fault c = c.decode.ensures.fault ∙ ap (seg_fault c.args.bytes.now) c.shape_of.ensures ∙ sym (fault-seg c.args.scale.now c.args.cell c.args.block c.requires.block c.args.bytes.now)

pub returns-clause-values : goal.returns-clause-values
returns-clause-values c =
    on_ok c.decode.result _ (HoldsValues c.args.scale.now c.args.cell c.args.bytes.now c.decode.new.raw)
    (values_at c.args.scale.now c.args.cell c.args.block c.requires.block c.args.bytes.now c.decode.new.raw (sizes_of c.shape_of.result) c.shape_of.ensures) c.decode.ensures.read
