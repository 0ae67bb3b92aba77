use Rattle.std.proofs.Common.{◌≡◌, ◌<◌, ℕ, None}
use Rattle.vol_spec.specs.BoxValues.{first_some}
use Rattle.vol_spec.specs.SegFaults.{block_faults}
use Rattle.vol_spec.specs.SegShapes.{sizes_of}
use Rattle.segment_blocks.specs.Filled.{Filled}
use Rattle.vol_spec.specs.SegBlocks.{width}
use Rattle.segment_blocks.specs.Whole.{OfBlocks, place_of, entry_of}
use Rattle.segment_blocks.proofs.reading.decode_channel.Given as goal

abbrev pub invariant-loop-k : goal.invariant-loop-k
invariant-loop-k l = ((j : ℕ) → j < l.k → first_some (block_faults l.bytes (sizes_of l.shape) l.c j) ≡ None)
    × Filled (OfBlocks (sizes_of l.shape) l.c l.k) (place_of (sizes_of l.shape)) (entry_of l.bytes (sizes_of l.shape)) (width (sizes_of l.shape)) l.initial.raw l.raw
