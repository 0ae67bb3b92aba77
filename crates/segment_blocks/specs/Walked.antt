-- What is known of a chunk's blocks while it is walked (this project's words for proofs).
use Rattle.std.specs.Prelude.{◌≡◌, ◌≢◌, ◌+◌, ◌*◌, ◌<◌, ◌≤◌, ℕ, Bool, false, IsTrue, List, length, slice_index, take, drop, flat_map}
use Rattle.std.specs.List.{range_with_len}
use Rattle.vol_spec.specs.SegBlocks.{block_voxels, in_chunk, packed_words}
use Rattle.vol_spec.specs.SegSizes.{SegSizes}
use Rattle.vol_spec.specs.SegWritten.{header, packed_bytes, packed_len}
use Rattle.segment_blocks.specs.Row.{index_in}
use Rattle.segment_blocks.specs.Stored.{Candidate, HasBodies, HasTables}
use Rattle.segment_blocks.specs.declared.room.Room.{Room}

-- of the first voxels of a block: an index of a voxel in the chunk has a place, that of padding is 0, and the places that
-- are marked are those of voxels in the chunk
pub record Noted (inside : ℕ → Bool) (index : ℕ → ℕ) (marks : List ℕ) (m : ℕ) : Type 0 where
  pub below : (n : ℕ) → n < m → IsTrue (inside n) → index n < length marks
  pub padding : (n : ℕ) → n < m → inside n ≡ false → index n ≡ 0
  pub from : (i : ℕ) → slice_index marks i ≢ 0 → (n : ℕ) × (n < m) × IsTrue (inside n) × (index n ≡ i)

-- the indices of a block are those of a table of n entries, each of which is used, and what is behind them is 0
pub record HasIndices (s : SegSizes) (k bits n : ℕ) (values : List ℕ) : Type 0 where
  pub below : (m : ℕ) → m < block_voxels s → IsTrue (in_chunk s k m) → index_in values bits m < n
  pub padding : (m : ℕ) → m < block_voxels s → in_chunk s k m ≡ false → index_in values bits m ≡ 0
  pub used : (i : ℕ) → i < n → (m : ℕ) × (m < block_voxels s) × IsTrue (in_chunk s k m)
      × (index_in values bits m ≡ i)
  pub rest : (m : ℕ) → block_voxels s ≤ m → m * bits < 32 * packed_words bits (block_voxels s) →
      index_in values bits m ≡ 0

-- block k stands in the channel as it is written, its indices from a byte on and its table of n entries from another on
pub record IsSpelled (s : SegSizes) (raw : List ℕ) (c : ℕ) (channel : List ℕ) (k a t n : ℕ) : Type 0 where
  pub candidate : Candidate s raw c channel k t n
  pub packed : take (4 * packed_len s raw c k) (drop a channel) ≡ packed_bytes s raw c k
  pub within : a + 4 * packed_len s raw c k ≤ length channel

-- the headers of the first blocks stand in front of the channel
abbrev pub HasFront : SegSizes → List ℕ → ℕ → List ℕ → ℕ → Type 0
HasFront s raw c channel k = take (8 * k) channel ≡ flat_map (header s raw c) (range_with_len 0 k)

-- the first blocks of a channel are as they are written
pub record IsWalked (s : SegSizes) (raw : List ℕ) (c : ℕ) (channel : List ℕ) (room : Room) (k : ℕ) : Type 0 where
  pub tables : HasTables s raw c channel room.at.items room.lens.items room.heads.items room.next.items k
  pub headers : HasFront s raw c channel k
  pub bodies : HasBodies s raw c channel k
