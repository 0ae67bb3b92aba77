use Rattle.std.proofs.Common.{List, ℕ, ap, subst, length}
use Rattle.voxel_raw.specs.Copies.{HasValues}
use Rattle.write_plan.specs.WriteLists.{write_in}
use Rattle.write_plan.proofs.FillSteps.{applied_by, holds_part}
use Rattle.write_plan.proofs.fills.apply.Goals as goal

pub copy_box-requires-clause-source : goal.copy_box-requires-clause-source
copy_box-requires-clause-source c =
    holds_part c.args.write.now.part c.common_part-common.result c.args.channels c.args.width _ _ (ap length c.deref.ensures.value) c.requires.source (λ p cov. ((c.common_part-common.ensures.both p).0 cov).0)

pub copy_box-requires-clause-target : goal.copy_box-requires-clause-target
copy_box-requires-clause-target c = record { within = λ p cov. ((c.common_part-common.ensures.both p).0 cov).1; len = c.requires.target.len; limit = c.requires.target.limit }

pub returns : goal.returns
returns c =
    applied_by (write_in c.args.write.now) c.args.cell.now c.common_part-common.result c.args.channels c.args.width c.args.raw.now c.copy_box.new.to c.common_part-common.ensures
    (subst (λ (bytes : List ℕ). HasValues c.args.write.now.part c.args.cell.now c.common_part-common.result c.args.channels c.args.width bytes c.copy_box.new.to) c.deref.ensures.value c.copy_box.ensures.values)
    c.copy_box.ensures.rest
