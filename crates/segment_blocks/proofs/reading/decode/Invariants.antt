use Rattle.std.proofs.Common.{◌≡◌, ◌<◌, ℕ, None}
use Rattle.vol_spec.specs.BoxValues.{first_some}
use Rattle.vol_spec.specs.SegFaults.{channel_faults}
use Rattle.vol_spec.specs.SegShapes.{sizes_of}
use Rattle.segment_blocks.specs.Filled.{Filled}
use Rattle.vol_spec.specs.SegBlocks.{width}
use Rattle.segment_blocks.specs.Whole.{OfChannels, place_of, entry_of}
use Rattle.segment_blocks.proofs.reading.decode.Given as goal

abbrev pub invariant-loop-c : goal.invariant-loop-c
invariant-loop-c l = ((j : ℕ) → j < l.c → first_some (channel_faults l.bytes (sizes_of l.shape) j) ≡ None)
    × Filled (OfChannels (sizes_of l.shape) l.c) (place_of (sizes_of l.shape)) (entry_of l.bytes (sizes_of l.shape)) (width (sizes_of l.shape)) l.initial.raw l.raw
