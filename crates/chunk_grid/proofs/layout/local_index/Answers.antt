use Rattle.std.proofs.Common.{arith}
use Rattle.vol_base.specs.Boxes.{size}
use Rattle.chunk_grid.proofs.LayoutSteps.{num_fits}
use Rattle.chunk_grid.proofs.layout.local_index.Goals as goal

pub overflow_mul-result : goal.overflow_mul-result
overflow_mul-result c =
    let fits = num_fits c.place_on-x.result c.place_on-y.result c.place_on-z.result (size c.args.part.now 0) (size c.args.part.now 1) (size c.args.part.now 2) c.args.c c.place_on-x.ensures.below c.place_on-y.ensures.below c.place_on-z.ensures.below c.requires.channel c.requires.small in
    omega (arith, fits.channel)

pub overflow_add-result : goal.overflow_add-result
overflow_add-result c =
    let fits = num_fits c.place_on-x.result c.place_on-y.result c.place_on-z.result (size c.args.part.now 0) (size c.args.part.now 1) (size c.args.part.now 2) c.args.c c.place_on-x.ensures.below c.place_on-y.ensures.below c.place_on-z.ensures.below c.requires.channel c.requires.small in
    omega (arith, fits.plane)

pub overflow_mul-result-2 : goal.overflow_mul-result-2
overflow_mul-result-2 c =
    let fits = num_fits c.place_on-x.result c.place_on-y.result c.place_on-z.result (size c.args.part.now 0) (size c.args.part.now 1) (size c.args.part.now 2) c.args.c c.place_on-x.ensures.below c.place_on-y.ensures.below c.place_on-z.ensures.below c.requires.channel c.requires.small in
    omega (arith, fits.rows)

pub overflow_add-result-2 : goal.overflow_add-result-2
overflow_add-result-2 c =
    let fits = num_fits c.place_on-x.result c.place_on-y.result c.place_on-z.result (size c.args.part.now 0) (size c.args.part.now 1) (size c.args.part.now 2) c.args.c c.place_on-x.ensures.below c.place_on-y.ensures.below c.place_on-z.ensures.below c.requires.channel c.requires.small in
    omega (arith, fits.row)

pub overflow_mul-result-3 : goal.overflow_mul-result-3
overflow_mul-result-3 c =
    let fits = num_fits c.place_on-x.result c.place_on-y.result c.place_on-z.result (size c.args.part.now 0) (size c.args.part.now 1) (size c.args.part.now 2) c.args.c c.place_on-x.ensures.below c.place_on-y.ensures.below c.place_on-z.ensures.below c.requires.channel c.requires.small in
    omega (arith, fits.voxels)

pub overflow_add-result-3 : goal.overflow_add-result-3
overflow_add-result-3 c =
    let fits = num_fits c.place_on-x.result c.place_on-y.result c.place_on-z.result (size c.args.part.now 0) (size c.args.part.now 1) (size c.args.part.now 2) c.args.c c.place_on-x.ensures.below c.place_on-y.ensures.below c.place_on-z.ensures.below c.requires.channel c.requires.small in
    omega (arith, fits.voxel)
