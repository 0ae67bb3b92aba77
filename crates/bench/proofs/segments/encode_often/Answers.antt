use Rattle.vol_spec.specs.SegShapes.{sizes_of}
use Rattle.segment_blocks.specs.Reserved.{sizes_for}
use Rattle.segment_blocks.proofs.Reserves.{serves_self}
use Rattle.bench.proofs.segments.encode_often.Goals as goal

pub encode-len-requires-clause-scratch : goal.encode-len-requires-clause-scratch
encode-len-requires-clause-scratch c = serves_self (sizes_for c.loop.scratch) (sizes_of c.args.shape.now) c.loop.invariant.0
