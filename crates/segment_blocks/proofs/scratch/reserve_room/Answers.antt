use Rattle.std.proofs.Common.{arith}
use Rattle.vol_spec.specs.SegShapes.{sizes_of}
use Rattle.segment_blocks.proofs.Shapes.{facts, limits, some_count}
use Rattle.segment_blocks.proofs.scratch.reserve_room.Goals as goal

pub overflow_mul-heads : goal.overflow_mul-heads
overflow_mul-heads c =
    let f = facts (sizes_of c.args.shape.now) (limits c.args.shape.now) in
    omega (arith, c.count_blocks-blocks.ensures, f.blocks)

pub returns : goal.returns
returns c =
    let s = sizes_of c.args.shape.now in
    let h = limits c.args.shape.now in
    let f = facts s h in
    let n = some_count s h in
    record {
      voxels = omega (arith, c.in_ok-vec.ensures.len, c.count_voxels-voxels.ensures);
      table = omega (arith, c.in_ok-vec-2.ensures.len, c.count_voxels-voxels.ensures);
      some_heads = omega (arith, c.in_ok-vec-3.ensures.len, c.count_blocks-blocks.ensures, n);
      few_heads = omega (arith, c.in_ok-vec-3.ensures.len, c.count_blocks-blocks.ensures, f.blocks);
      next = omega (arith, c.in_ok-vec-4.ensures.len, c.count_blocks-blocks.ensures);
      at = omega (arith, c.in_ok-vec-5.ensures.len, c.count_blocks-blocks.ensures);
      lens = omega (arith, c.in_ok-vec-6.ensures.len, c.count_blocks-blocks.ensures);
      headers = omega (arith, c.in_ok-vec-7.ensures.len, c.count_blocks-blocks.ensures);
    }
