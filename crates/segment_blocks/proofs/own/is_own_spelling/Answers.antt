use Rattle.std.proofs.Common.{arith}
use Rattle.vol_spec.specs.SegShapes.{sizes_of}
use Rattle.segment_blocks.specs.Reserved.{sizes_for}
use Rattle.segment_blocks.specs.Said.{said}
use Rattle.segment_blocks.proofs.Reserves.{serves_room}
use Rattle.segment_blocks.proofs.SaidSteps.{said_bytes, said_len}
use Rattle.segment_blocks.proofs.Shapes.{limits, padded_is}
use Rattle.segment_blocks.proofs.own.is_own_spelling.Goals as goal

pub walk_channels-requires-clause-room : goal.walk_channels-requires-clause-room
walk_channels-requires-clause-room c = serves_room (sizes_for c.args.scratch.now) (sizes_of c.args.shape.now) c.args.scratch.now.room (limits c.args.shape.now) c.requires.scratch c.args.scratch.now.room_ok

pub walk_channels-requires-clause-limit : goal.walk_channels-requires-clause-limit
walk_channels-requires-clause-limit c = let e = padded_is (sizes_of c.args.shape.now) in omega (arith, e, c.requires.limit)

pub returns-clause-own : goal.returns-clause-own
returns-clause-own c = λ t.
    let s = sizes_of c.args.shape.now in
    record { raw = said s c.args.chunk.now; len = said_len s c.args.chunk.now; bytes = said_bytes s c.args.chunk.now; is = c.walk_channels.ensures.own t }
