use Rattle.std.proofs.Common.{◌≡◌, ◌*◌}
use Rattle.vol_spec.specs.SegShapes.{sizes_of}
use Rattle.vol_spec.specs.SegWritten.{values_place}
use Rattle.segment_blocks.specs.Rooms.{SameRoom}
use Rattle.segment_blocks.specs.Said.{said}
use Rattle.segment_blocks.specs.Walked.{IsWalked}
use Rattle.segment_blocks.proofs.own.walk_channel.Given as goal

abbrev pub invariant-loop-k : goal.invariant-loop-k
invariant-loop-k l = (l.at ≡ 4 * values_place (sizes_of l.shape) (said (sizes_of l.shape) l.chunk) l.c l.k)
    × IsWalked (sizes_of l.shape) (said (sizes_of l.shape) l.chunk) l.c l.channel l.room l.k × SameRoom l.fn.room l.room
