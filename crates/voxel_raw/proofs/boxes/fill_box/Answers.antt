use Rattle.std.proofs.Common.{◌∙◌, arith}
use Rattle.vol_base.specs.Boxes.{num}
use Rattle.vol_spec.proofs.RawSteps.{voxel_fits}
use Rattle.voxel_raw.proofs.Voxels.{zero_value}
use Rattle.voxel_raw.proofs.boxes.fill_box.Goals as goal

pub returns-clause-zeros : goal.returns-clause-zeros
returns-clause-zeros c = λ p ch cov lc.
    let fits = voxel_fits c.args.to_box.now c.args.channels c.args.width p ch (c.requires.within p cov) lc in
    c.put_box.ensures.values p ch cov lc ∙ zero_value c.args.width (num c.args.to_box.now p ch) _ (omega (arith, fits, c.requires.len))
