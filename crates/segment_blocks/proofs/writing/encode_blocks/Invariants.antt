use Rattle.std.proofs.Common.{◌≡◌, ◌*◌}
use Rattle.vol_spec.specs.SegShapes.{sizes_of}
use Rattle.vol_spec.specs.SegWritten.{values_place}
use Rattle.segment_blocks.specs.Rooms.{SameRoom}
use Rattle.segment_blocks.specs.Stored.{IsBegun}
use Rattle.segment_blocks.proofs.writing.encode_blocks.Given as goal

abbrev pub invariant-loop-k : goal.invariant-loop-k
invariant-loop-k l = (l.at ≡ 4 * values_place (sizes_of l.shape) l.raw l.c l.k) × IsBegun (sizes_of l.shape) l.raw l.c l.out l.room l.k × SameRoom l.fn.room l.room
