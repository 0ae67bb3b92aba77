use Rattle.segment_blocks.specs.Filled.{Done, InRows}
use Rattle.vol_spec.specs.SegSizes.{width_of}
use Rattle.segment_blocks.proofs.block.fill_plane.Given as goal

abbrev pub invariant-loop-y : goal.invariant-loop-y
invariant-loop-y l = Done (InRows l.b l.y l.z) l.b l.values l.table (width_of l.wide) l.bits l.initial.raw l.raw
