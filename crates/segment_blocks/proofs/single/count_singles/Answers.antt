use Rattle.std.proofs.Common.{arith}
use Rattle.vol_spec.specs.SegShapes.{sizes_of}
use Rattle.segment_blocks.proofs.Shapes.{facts, limits}
use Rattle.segment_blocks.proofs.single.count_singles.Goals as goal

pub returns-then-test_single-clause-few : goal.returns-then-test_single-clause-few
returns-then-test_single-clause-few c =
    let f = facts (sizes_of c.args.shape.now) (limits c.args.shape.now) in
    omega (arith, f.blocks, c.count_blocks.ensures)
