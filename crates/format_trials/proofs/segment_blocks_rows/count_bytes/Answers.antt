use Rattle.std.proofs.Common.{arith, ◌*◌, ◌≤◌}
use Rattle.std.proofs.Math.Nat.{le-mul_of_pos_right}
use Rattle.vol_spec.specs.SegBlocks.{size}
use Rattle.vol_spec.specs.SegShapes.{sizes_of}
use Rattle.segment_blocks.proofs.Shapes.{facts, limits}
use Rattle.format_trials.proofs.segment_blocks_rows.count_bytes.Goals as goal

pub overflow_mul-result : goal.overflow_mul-result
overflow_mul-result c =
    let s = sizes_of c.args.shape.now in
    let h = limits c.args.shape.now in
    let f = facts s h in
    let a : size s 0 * size s 1 ≤ size s 0 * size s 1 * size s 2 = le-mul_of_pos_right (size s 0 * size s 1) h.size_2.0 in
    let b : size s 0 * size s 1 * size s 2 ≤ size s 0 * size s 1 * size s 2 * s.channels = le-mul_of_pos_right (size s 0 * size s 1 * size s 2) h.some_channels in
    omega (arith, a, b, f.values)
