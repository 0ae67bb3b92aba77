-- Blocks of one voxel (this project's).
use Rattle.std.specs.Prelude.{◌≡◌, ◌==◌, ◌*◌, ℕ, ◌<◌, ◌≤◌, Bool, IsTrue, List, find, length, slice_index}
use Rattle.std.specs.List.{range_with_len}
use Rattle.equal_values.specs.Earlier.{coded}
use Rattle.equal_values.specs.Reserved.{most_of}
use Rattle.vol_spec.specs.SegBlocks.{block_count, block_voxels}
use Rattle.vol_spec.specs.SegSizes.{SegSizes}
use Rattle.vol_spec.specs.SegWritten.{same, table, table_place}
use Rattle.segment_blocks.specs.declared.single.Singles.{Singles}

abbrev pub is_single : SegSizes → Bool
is_single s = block_voxels s == 1

-- the first block before block k with an equal table, and 1; or 0
abbrev pub numbered : SegSizes → List ℕ → ℕ → ℕ → ℕ
numbered s raw c k = coded (find (λ j. same (table s raw c j) (table s raw c k)) (range_with_len 0 k))

abbrev pub HasEarlier : SegSizes → List ℕ → ℕ → List ℕ → Type 0
HasEarlier s raw c earlier = (k : ℕ) → k < block_count s → slice_index earlier k ≡ numbered s raw c k

-- for each block where its table is, in bytes from the channel's start
abbrev pub HasSpots : SegSizes → List ℕ → ℕ → List ℕ → Type 0
HasSpots s raw c spots = (k : ℕ) → k < block_count s → slice_index spots k ≡ 4 * table_place s raw c k

-- there is room for the blocks of a channel, where they have one voxel each
pub record HasPlaces (s : SegSizes) (singles : Singles) : Type 0 where
  pub values : block_count s ≤ length singles.values.items
  pub spots : block_count s ≤ length singles.spots.items
  pub finder : block_count s ≤ most_of singles.finder

abbrev pub IsSingles : SegSizes → Singles → Type 0
IsSingles s singles = IsTrue (is_single s) → HasPlaces s singles

-- as much room as before
pub record SameSingles (old new : Singles) : Type 0 where
  pub values : length new.values.items ≡ length old.values.items
  pub spots : length new.spots.items ≡ length old.spots.items
  pub finder : most_of new.finder ≡ most_of old.finder

-- what is known of the tables, where blocks have one voxel each
abbrev pub KnowsSpots : SegSizes → List ℕ → ℕ → List ℕ → Type 0
KnowsSpots s raw c spots = IsTrue (is_single s) → (block_count s ≤ length spots) × HasSpots s raw c spots
