use Rattle.std.proofs.Common.{◌∙◌, ap, arith, subst}
use Rattle.vol_base.specs.Boxes.{num, value}
use Rattle.vol_spec.specs.Grid.{cell_box}
use Rattle.voxel_raw.specs.Common.{IsCommon}
use Rattle.voxel_raw.specs.Copies.{HasValues}
use Rattle.cutout.proofs.PickSteps.{picked_len, picked_value}
use Rattle.cutout.proofs.ReadSteps.{cell_small}
use Rattle.cutout.proofs.TakeSteps.{puts_values}
use Rattle.cutout.proofs.values.put_values.Goals as goal

pub copy_box-requires-clause-source : goal.copy_box-requires-clause-source
copy_box-requires-clause-source c =
    let small = cell_small c.args.scale.now c.args.home.now.cell in
    let len = picked_len (cell_box c.args.scale.now c.args.home.now.cell) c.args.scale.now.channels c.args.scale.now.width c.args.channels c.args.values.now c.pick-picked.result.now c.requires.target.channels c.requires.values c.pick-picked.ensures in
    record { within = λ p cov. ((c.common_part-common.ensures.both p).0 cov).0; len = rw c.requires.home.box len.0; limit = omega (arith, len.1, c.requires.values, small) }

pub copy_box-requires-clause-target : goal.copy_box-requires-clause-target
copy_box-requires-clause-target c = record { within = λ p cov. ((c.common_part-common.ensures.both p).0 cov).1; len = c.requires.target.len; limit = c.requires.target.limit }

pub returns : goal.returns
returns c =
    puts_values c.args.scale.now c.args.home.now.cell c.args.part.now c.common_part-common.result c.args.channels c.args.values.now c.pick-picked.result.now c.args.out.now c.copy_box.new.to
    (subst (λ b. IsCommon b c.args.part.now c.common_part-common.result) c.requires.home.box c.common_part-common.ensures)
    (subst (λ b. HasValues b c.args.part.now c.common_part-common.result c.args.channels.count c.args.scale.now.width c.pick-picked.result.now c.copy_box.new.to) c.requires.home.box c.copy_box.ensures.values) c.copy_box.ensures.rest
    (λ p n covered low.
    ap (λ xs. value c.args.scale.now.width xs (num (cell_box c.args.scale.now c.args.home.now.cell) p n)) c.pick-picked.ensures
    ∙ picked_value (cell_box c.args.scale.now c.args.home.now.cell) c.args.scale.now.width c.args.channels.first c.args.channels.count c.args.values.now p n covered low)
