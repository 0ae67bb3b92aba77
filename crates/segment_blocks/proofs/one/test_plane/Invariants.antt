use Rattle.vol_spec.specs.SegSizes.{width_of}
use Rattle.segment_blocks.specs.Filled.{HaveOne, InRows}
use Rattle.segment_blocks.proofs.one.test_plane.Given as goal

abbrev pub invariant-loop-y : goal.invariant-loop-y
invariant-loop-y l = HaveOne (InRows l.b l.y l.z) l.b l.raw (width_of l.wide) l.value
