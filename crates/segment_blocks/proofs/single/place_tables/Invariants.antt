use Rattle.vol_spec.specs.SegShapes.{sizes_of}
use Rattle.segment_blocks.proofs.Spots.{IsPlacing}
use Rattle.segment_blocks.proofs.single.place_tables.Given as goal

abbrev pub invariant-loop-k : goal.invariant-loop-k
invariant-loop-k l = IsPlacing (sizes_of l.shape) l._raw l._c l.spots l.next l.k
