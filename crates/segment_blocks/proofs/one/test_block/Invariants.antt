use Rattle.vol_spec.specs.SegSizes.{width_of}
use Rattle.segment_blocks.specs.Filled.{HaveOne, InPlanes}
use Rattle.segment_blocks.proofs.one.test_block.Given as goal

abbrev pub invariant-loop-z : goal.invariant-loop-z
invariant-loop-z l = HaveOne (InPlanes l.b l.z) l.b l.raw (width_of l.wide) l.value
