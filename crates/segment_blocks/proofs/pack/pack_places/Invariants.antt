use Rattle.std.proofs.Common.{◌≡◌, ◌<◌, ℕ, length, slice_index, take}
use Rattle.std.specs.Prelude.{map}
use Rattle.vol_spec.specs.Raw.{number}
use Rattle.vol_spec.specs.SegWritten.{packed}
use Rattle.segment_blocks.specs.Voxels.{place_in}
use Rattle.segment_blocks.proofs.pack.pack_places.Given as goal

abbrev pub invariant-loop-n : goal.invariant-loop-n
invariant-loop-n l = (number l.values ≡ packed l.bits (map (place_in l.table) (take l.n l.voxels)))
    × (0 < length l.table → (s : ℕ) → s < 64 → slice_index l.guesses s < length l.table)
