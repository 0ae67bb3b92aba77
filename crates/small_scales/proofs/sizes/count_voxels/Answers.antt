use Rattle.std.proofs.Common.{arith, lit<}
use Rattle.small_scales.proofs.VoxelSteps.{volume_fits}
use Rattle.small_scales.proofs.sizes.count_voxels.Goals as goal

pub overflow_mul-result-2 : goal.overflow_mul-result-2
overflow_mul-result-2 c =
    let x = c.requires.size 0 (lit< tt) in
    let y = c.requires.size 1 (lit< tt) in
    let z = c.requires.size 2 (lit< tt) in
    let all = volume_fits c.from-x.result c.from-y.result c.from-z.result (omega (arith, x)) (omega (arith, y)) (omega (arith, z)) in
    omega (arith, all)
