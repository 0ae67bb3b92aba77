use Rattle.std.proofs.Common.{arith, ◌∙◌}
use Rattle.vol_spec.specs.SegShapes.{sizes_of}
use Rattle.segment_blocks.proofs.OwnMarks.{counts_inside}
use Rattle.segment_blocks.proofs.Shapes.{limits}
use Rattle.segment_blocks.proofs.own.test_inside.Goals as goal

pub returns : goal.returns
returns c = c.test_counts.ensures ∙ counts_inside (sizes_of c.args._shape.now) c.args._c c.args._k c.args.n c.args.b.now (limits c.args._shape.now) c.requires.block c.requires.is c.requires.n

pub test_counts-requires-clause-x : goal.test_counts-requires-clause-x
test_counts-requires-clause-x c = let h = limits c.args._shape.now in omega (arith, c.requires.is.block_x, h.block_0)

pub test_counts-requires-clause-y : goal.test_counts-requires-clause-y
test_counts-requires-clause-y c = let h = limits c.args._shape.now in omega (arith, c.requires.is.block_y, h.block_1)
