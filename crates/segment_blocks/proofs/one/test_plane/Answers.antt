use Rattle.std.proofs.Common.{rules}
use Rattle.vol_spec.specs.SegSizes.{width_of}
use Rattle.segment_blocks.proofs.Ones.{rows_more}
use Rattle.segment_blocks.proofs.one.test_plane.Goals as goal

pub loop-y-preserved : goal.loop-y-preserved
loop-y-preserved c = rows_more c.args.b.now c.args.raw.now (width_of c.args.wide) c.args.value c.loop-y.y c.args.z c.loop-y.invariant (c.test_row.ensures.0 (search rules))
