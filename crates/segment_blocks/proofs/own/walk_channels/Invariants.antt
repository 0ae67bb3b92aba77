use Rattle.std.proofs.Common.{◌≡◌, ◌*◌, take, drop}
use Rattle.std.specs.Prelude.{flat_map}
use Rattle.std.specs.List.{range_with_len}
use Rattle.vol_spec.specs.BoxValues.{bytes_of}
use Rattle.vol_spec.specs.SegShapes.{sizes_of}
use Rattle.vol_spec.specs.SegWritten.{channel_bytes, channel_start}
use Rattle.segment_blocks.specs.Rooms.{SameRoom}
use Rattle.segment_blocks.specs.Said.{said}
use Rattle.segment_blocks.proofs.own.walk_channels.Given as goal

abbrev pub invariant-loop-c : goal.invariant-loop-c
invariant-loop-c l = (l.at ≡ 4 * channel_start (sizes_of l.shape) (said (sizes_of l.shape) l.chunk) l.c)
    × (take (4 * l.c) l.chunk ≡ flat_map (λ d. bytes_of 4 (channel_start (sizes_of l.shape) (said (sizes_of l.shape) l.chunk) d)) (range_with_len 0 l.c))
    × (drop (4 * l.shape.channels) (take l.at l.chunk) ≡ flat_map (channel_bytes (sizes_of l.shape) (said (sizes_of l.shape) l.chunk)) (range_with_len 0 l.c))
    × SameRoom l.fn.room l.room
