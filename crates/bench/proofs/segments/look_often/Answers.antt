use Rattle.vol_spec.specs.SegShapes.{sizes_of}
use Rattle.segment_blocks.specs.Reserved.{sizes_for}
use Rattle.segment_blocks.proofs.Reserves.{serves_self}
use Rattle.bench.proofs.segments.look_often.Goals as goal

pub is_own_spelling-requires-clause-scratch : goal.is_own_spelling-requires-clause-scratch
is_own_spelling-requires-clause-scratch c = serves_self (sizes_for c.loop.scratch) (sizes_of c.args.shape.now) c.loop.invariant
