use Rattle.std.proofs.Common.{arith}
use Rattle.vol_spec.specs.SegShapes.{sizes_of}
use Rattle.segment_blocks.proofs.Shapes.{limits, some_voxels}
use Rattle.segment_blocks.proofs.writing.write_block.Goals as goal

pub write_one-requires-clause-table : goal.write_one-requires-clause-table
write_one-requires-clause-table c = omega (arith, c.requires.table, some_voxels (sizes_of c.args.shape.now) (limits c.args.shape.now))
