use Rattle.std.proofs.Common.{◌≡◌, ◌*◌, ◌<◌, ℕ, slice_index, take, drop}
use Rattle.std.specs.Prelude.{flat_map}
use Rattle.std.specs.List.{range_with_len}
use Rattle.vol_spec.specs.SegShapes.{sizes_of}
use Rattle.vol_spec.specs.SegWritten.{channel_bytes, channel_start}
use Rattle.segment_blocks.specs.Rooms.{SameRoom}
use Rattle.segment_blocks.specs.Singles.{SameSingles}
use Rattle.segment_blocks.proofs.writing.encode_channels.Given as goal

abbrev pub invariant-loop-c : goal.invariant-loop-c
invariant-loop-c l = (l.at ≡ 4 * channel_start (sizes_of l.shape) l.raw l.c)
    × (drop (4 * l.shape.channels) (take l.at l.out) ≡ flat_map (channel_bytes (sizes_of l.shape) l.raw) (range_with_len 0 l.c))
    × ((d : ℕ) → d < l.c → slice_index l.starts d ≡ channel_start (sizes_of l.shape) l.raw d)
    × SameRoom l.fn.room l.room
    × SameSingles l.fn.singles l.singles
