use Rattle.std.proofs.Common.{arith}
use Rattle.vol_spec.specs.SegShapes.{sizes_of}
use Rattle.segment_blocks.proofs.Shapes.{limits, facts, spots, plane_fits}
use Rattle.segment_blocks.proofs.locate.find_block.Goals as goal

pub overflow_mul-x : goal.overflow_mul-x
overflow_mul-x c =
    let p = spots (sizes_of c.args.shape.now) c.args.k (limits c.args.shape.now) c.requires.block in
    rw (c.count_on-count_x.ensures, c.get_block-block_x.ensures) (omega (arith, p.x, (limits c.args.shape.now).size_0))

pub overflow_mul-y : goal.overflow_mul-y
overflow_mul-y c =
    let p = spots (sizes_of c.args.shape.now) c.args.k (limits c.args.shape.now) c.requires.block in
    rw (c.count_on-count_x.ensures, c.count_on-count_y.ensures, c.get_block-block_y.ensures) (omega (arith, p.y, (limits c.args.shape.now).size_1))

pub overflow_mul-z : goal.overflow_mul-z
overflow_mul-z c =
    let p = spots (sizes_of c.args.shape.now) c.args.k (limits c.args.shape.now) c.requires.block in
    let f = facts (sizes_of c.args.shape.now) (limits c.args.shape.now) in
    rw (c.count_on-count_x.ensures, c.count_on-count_y.ensures, c.get_block-block_z.ensures) (omega (arith, p.z, (limits c.args.shape.now).size_2))

pub overflow_mul-result : goal.overflow_mul-result
overflow_mul-result c =
    let p = spots (sizes_of c.args.shape.now) c.args.k (limits c.args.shape.now) c.requires.block in
    let f = facts (sizes_of c.args.shape.now) (limits c.args.shape.now) in
    let q = plane_fits c.args.c c.args.shape.now.channels _ _ c.requires.channel p.z in
    rw (c.get_size-size_z.ensures) (omega (arith, q, f.planes))

pub overflow_add-result : goal.overflow_add-result
overflow_add-result c =
    let p = spots (sizes_of c.args.shape.now) c.args.k (limits c.args.shape.now) c.requires.block in
    let f = facts (sizes_of c.args.shape.now) (limits c.args.shape.now) in
    let q = plane_fits c.args.c c.args.shape.now.channels _ _ c.requires.channel p.z in
    rw (c.count_on-count_x.ensures, c.count_on-count_y.ensures, c.get_block-block_z.ensures, c.get_size-size_z.ensures) (omega (arith, q, f.planes))

pub overflow_sub-size_x : goal.overflow_sub-size_x
overflow_sub-size_x c =
    let p = spots (sizes_of c.args.shape.now) c.args.k (limits c.args.shape.now) c.requires.block in
    let f = facts (sizes_of c.args.shape.now) (limits c.args.shape.now) in
    rw (c.count_on-count_x.ensures, c.get_block-block_x.ensures, c.get_size-size_x.ensures) (omega (arith, p.x))

pub overflow_sub-size_y : goal.overflow_sub-size_y
overflow_sub-size_y c =
    let p = spots (sizes_of c.args.shape.now) c.args.k (limits c.args.shape.now) c.requires.block in
    let f = facts (sizes_of c.args.shape.now) (limits c.args.shape.now) in
    rw (c.count_on-count_x.ensures, c.count_on-count_y.ensures, c.get_block-block_y.ensures, c.get_size-size_y.ensures) (omega (arith, p.y))

pub overflow_sub-size_z : goal.overflow_sub-size_z
overflow_sub-size_z c =
    let p = spots (sizes_of c.args.shape.now) c.args.k (limits c.args.shape.now) c.requires.block in
    let f = facts (sizes_of c.args.shape.now) (limits c.args.shape.now) in
    rw (c.count_on-count_x.ensures, c.count_on-count_y.ensures, c.get_block-block_z.ensures, c.get_size-size_z.ensures) (omega (arith, p.z))

pub overflow_mul-result-3 : goal.overflow_mul-result-3
overflow_mul-result-3 c =
    let p = spots (sizes_of c.args.shape.now) c.args.k (limits c.args.shape.now) c.requires.block in
    let f = facts (sizes_of c.args.shape.now) (limits c.args.shape.now) in
    rw (c.get_block-block_x.ensures, c.get_block-block_y.ensures, c.get_block-block_z.ensures) (omega (arith, f.voxels))
