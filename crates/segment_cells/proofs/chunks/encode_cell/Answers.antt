use Rattle.std.proofs.Common.{arith, ap, subst, ◌∙◌, sym}
use Rattle.vol_spec.specs.SegBlocks.{raw_len}
use Rattle.vol_spec.specs.SegShapes.{sizes_of}
use Rattle.vol_spec.specs.SegSizes.{SegSizes, encoded_limit, padded_in}
use Rattle.vol_spec.specs.SegWritten.{seg_bytes}
use Rattle.segment_blocks.specs.Reserved.{sizes_for}
use Rattle.segment_blocks.specs.Rooms.{Serves}
use Rattle.vol_spec.specs.Encodings.{sizes_in}
use Rattle.segment_cells.proofs.CellSteps.{encoded-seg, seg_first, seg_small}
use Rattle.segment_cells.proofs.SegSteps.{padded_in_cell, raw_same}
use Rattle.segment_cells.proofs.chunks.encode_cell.Goals as goal

pub encode-requires-clause-limit : goal.encode-requires-clause-limit
encode-requires-clause-limit c =
    let e = ap padded_in c.shape_of.ensures in
    let p = padded_in_cell c.args.scale.now c.args.cell c.args.block c.requires.block in
    omega (arith, e, p, c.requires.writable)

pub encode-requires-clause-scratch : goal.encode-requires-clause-scratch
encode-requires-clause-scratch c = subst (λ (t : SegSizes). Serves (sizes_for c.args.scratch.now) t) (sym c.shape_of.ensures) (c.requires.scratch c.args.cell c.requires.cell)

pub encode-requires-clause-raw : goal.encode-requires-clause-raw
encode-requires-clause-raw c = c.requires.len ∙ sym (raw_same c.args.scale.now c.args.cell c.args.block c.requires.block) ∙ ap raw_len (sym c.shape_of.ensures)

pub encode-requires-clause-out : goal.encode-requires-clause-out
encode-requires-clause-out c =
    let first = seg_first c.args.scale.now c.args.cell c.args.block c.requires.block (encoded_limit (sizes_of c.shape_of.result)) (ap encoded_limit c.shape_of.ensures) in
    omega (arith, first, c.requires.room)

pub returns-clause-bytes : goal.returns-clause-bytes
returns-clause-bytes c =
    c.encode.ensures.bytes ∙ ap (λ t. seg_bytes t c.args.values.now) c.shape_of.ensures ∙ sym (encoded-seg c.args.scale.now c.args.cell c.args.block c.requires.block c.args.values.now)

pub returns-clause-within : goal.returns-clause-within
returns-clause-within c =
    let first = seg_first c.args.scale.now c.args.cell c.args.block c.requires.block (encoded_limit (sizes_of c.shape_of.result)) (ap encoded_limit c.shape_of.ensures) in
    omega (arith, first, c.requires.room, c.encode.ensures.len, c.encode.auto.out)

pub returns-clause-small : goal.returns-clause-small
returns-clause-small c =
    let e = ap encoded_limit c.shape_of.ensures in
    seg_small c.args.scale.now c.args.cell c.args.block c.requires.block c.encode.result (omega (arith, e, c.encode.ensures.len)) c.requires.writable

pub returns-clause-scratch : goal.returns-clause-scratch
returns-clause-scratch c = λ cell is. subst (λ (t : SegSizes). Serves t (sizes_in c.args.scale.now cell)) (sym c.encode.ensures.scratch) (c.requires.scratch cell is)
