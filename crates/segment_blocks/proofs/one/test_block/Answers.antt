use Rattle.std.proofs.Common.{rules}
use Rattle.vol_spec.specs.SegSizes.{width_of}
use Rattle.segment_blocks.proofs.Ones.{planes_more}
use Rattle.segment_blocks.proofs.one.test_block.Goals as goal

pub loop-z-preserved : goal.loop-z-preserved
loop-z-preserved c = planes_more c.args.b.now c.args.raw.now (width_of c.args.wide) c.args.value c.loop-z.z c.loop-z.invariant (c.test_plane.ensures.0 (search rules))
