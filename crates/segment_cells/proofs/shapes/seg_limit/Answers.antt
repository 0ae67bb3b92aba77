use Rattle.std.proofs.Common.{◌*◌, ◌≤◌, arith}
use Rattle.std.proofs.Math.Nat.{le-mul_of_pos_right}
use Rattle.segment_blocks.proofs.Shapes.{facts, limits}
use Rattle.vol_spec.specs.Limits.{rounded}
use Rattle.vol_spec.specs.SegBlocks.{block, blocks_on, size}
use Rattle.vol_spec.specs.SegShapes.{sizes_of}
use Rattle.segment_cells.proofs.shapes.seg_limit.Goals as goal

pub overflow_mul-result-2 : goal.overflow_mul-result-2
overflow_mul-result-2 c =
    let s = sizes_of c.args.shape.now in
    let h = limits c.args.shape.now in
    let f = facts s h in
    let some : blocks_on s 2 ≤ rounded (size s 2) (block s 2) = le-mul_of_pos_right (blocks_on s 2) h.block_2.0 in
    let xy = rounded (size s 0) (block s 0) * rounded (size s 1) (block s 1) in
    let a : xy ≤ xy * rounded (size s 2) (block s 2) = le-mul_of_pos_right xy (omega (arith, some, f.on_2)) in
    let b : xy * rounded (size s 2) (block s 2) ≤ xy * rounded (size s 2) (block s 2) * s.channels = le-mul_of_pos_right (xy * rounded (size s 2) (block s 2)) h.some_channels in
    rw (c.round_up-x.ensures, c.round_up-y.ensures) (omega (arith, a, b, h.reading))

pub overflow_mul-result-3 : goal.overflow_mul-result-3
overflow_mul-result-3 c =
    let s = sizes_of c.args.shape.now in
    let h = limits c.args.shape.now in
    let xyz = rounded (size s 0) (block s 0) * rounded (size s 1) (block s 1) * rounded (size s 2) (block s 2) in
    let b : xyz ≤ xyz * s.channels = le-mul_of_pos_right xyz h.some_channels in
    rw (c.round_up-x.ensures, c.round_up-y.ensures, c.round_up-z.ensures) (omega (arith, b, h.reading))
