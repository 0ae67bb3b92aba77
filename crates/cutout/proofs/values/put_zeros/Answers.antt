use Rattle.std.proofs.Common.{subst}
use Rattle.voxel_raw.specs.Common.{IsCommon}
use Rattle.cutout.proofs.TakeSteps.{took_zeros}
use Rattle.cutout.proofs.values.put_zeros.Goals as goal

pub fill_box-requires : goal.fill_box-requires
fill_box-requires c = record { within = λ p cov. ((c.common_part-common.ensures.both p).0 cov).1; len = c.requires.target.len; limit = c.requires.target.limit }

pub returns : goal.returns
returns c =
    took_zeros c.args.scale.now c.args.home.now.cell c.args.part.now c.common_part-common.result c.args.channels c.args.out.now c.fill_box.new.to
    (subst (λ b. IsCommon b c.args.part.now c.common_part-common.result) c.requires.home.box c.common_part-common.ensures)
    c.fill_box.ensures.zeros c.fill_box.ensures.rest
