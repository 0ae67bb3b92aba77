use Rattle.segment_blocks.specs.Filled.{Done, InPlanes}
use Rattle.vol_spec.specs.SegSizes.{width_of}
use Rattle.segment_blocks.proofs.block.fill_block.Given as goal

abbrev pub invariant-loop-z : goal.invariant-loop-z
invariant-loop-z l = Done (InPlanes l.b l.z) l.b l.values l.table (width_of l.wide) l.bits l.initial.raw l.raw
