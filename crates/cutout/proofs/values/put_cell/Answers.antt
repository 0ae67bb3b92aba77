use Rattle.std.proofs.Common.{subst, sym}
use Rattle.segment_cells.specs.Decoding.{HoldsValues}
use Rattle.cutout.proofs.ReadSteps.{part_small}
use Rattle.cutout.proofs.TakeSteps.{holds_raw}
use Rattle.cutout.proofs.values.put_cell.Goals as goal

pub check_len-requires : goal.check_len-requires
check_len-requires c = part_small c.args.scale.now c.args.home.now.cell c.args.home.now.own c.requires.home.box

pub returns-in_ok-check_len-in-Raw-clause-held : goal.returns-in_ok-check_len-in-Raw-clause-held
returns-in_ok-check_len-in-Raw-clause-held c =
    subst (λ out. HoldsValues c.args.scale.now c.args.home.now.cell c.args.bytes.now out) (sym c.copy_from_slice.ensures.after) (holds_raw c.args.scale.now c.args.home.now.cell c.args.bytes.now c.in-Raw.is)
