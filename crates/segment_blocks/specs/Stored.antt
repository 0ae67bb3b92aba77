-- The tables of a channel's first blocks, where their bytes are (this project's).
use Rattle.std.specs.Prelude.{◌≡◌, ◌&&◌, not, Bool, ℕ, ◌+◌, ◌*◌, ◌<◌, ◌≤◌, ◌^◌, ◌++◌, List, length, slice_index, take, drop, flat_map}
use Rattle.vol_spec.specs.BoxValues.{bytes_of}
use Rattle.vol_spec.specs.SegSizes.{SegSizes}
use Rattle.vol_spec.specs.SegSizes.{width_of}
use Rattle.vol_spec.specs.SegBlocks.{block_count}
use Rattle.vol_spec.specs.SegWritten.{block_bits, packed_bytes, places, table, table_bytes, table_place, values_place}
use Rattle.segment_blocks.specs.declared.room.Room.{Room}
use Rattle.equal_values.specs.Chains.{IsIndex}
use Rattle.segment_blocks.specs.Singles.{is_single}
use Rattle.std.specs.List.{range_with_len}
use Rattle.segment_blocks.specs.Hashes.{hash_of}

-- the hash of a block's table
abbrev pub hash_at : SegSizes → List ℕ → ℕ → ℕ → ℕ → ℕ
hash_at s raw c n j = hash_of (table s raw c j) n

pub record AreStored (s : SegSizes) (raw : List ℕ) (c : ℕ) (bytes at lens : List ℕ) (k : ℕ) : Type 0 where
  pub len : (j : ℕ) → j < k → slice_index lens j ≡ length (table s raw c j)
  pub fits : (j : ℕ) → j < k → slice_index at j + width_of s.wide * slice_index lens j ≤ length bytes
  pub here : (j : ℕ) → j < k → take (width_of s.wide * slice_index lens j) (drop (slice_index at j) bytes)
      ≡ flat_map (bytes_of (width_of s.wide)) (table s raw c j)
  pub narrow : (j : ℕ) → j < k → (i : ℕ) → i < length (table s raw c j) →
      slice_index (table s raw c j) i < 256 ^ width_of s.wide

-- what is known of the table of block k
pub record Candidate (s : SegSizes) (raw : List ℕ) (c : ℕ) (out : List ℕ) (k a n : ℕ) : Type 0 where
  pub len : n ≡ length (table s raw c k)
  pub fits : a + width_of s.wide * n ≤ length out
  pub here : take (width_of s.wide * n) (drop a out) ≡ flat_map (bytes_of (width_of s.wide)) (table s raw c k)
  pub narrow : (i : ℕ) → i < length (table s raw c k) →
      slice_index (table s raw c k) i < 256 ^ width_of s.wide

-- a block's table is in the index where no earlier block has it and blocks have more than one voxel
abbrev pub indexed : SegSizes → List ℕ → ℕ → ℕ → Bool
indexed s raw c j = not (is_single s) && places s raw c j

-- the tables of a channel's first blocks: their bytes, before those of block k; where they are; and the index of those that it has
pub record HasTables (s : SegSizes) (raw : List ℕ) (c : ℕ) (out at lens heads next : List ℕ)
    (k : ℕ) : Type 0 where
  pub stored : AreStored s raw c out at lens k
  pub low : (j : ℕ) → j < k → slice_index at j + width_of s.wide * slice_index lens j
      ≤ 4 * values_place s raw c k
  pub spots : (j : ℕ) → j < k → slice_index at j ≡ 4 * table_place s raw c j
  pub index : IsIndex (hash_at s raw c (length heads)) (indexed s raw c) heads next k

-- the words of the headers of the first blocks
pub record HasHeaders (s : SegSizes) (raw : List ℕ) (c : ℕ) (headers : List ℕ) (k : ℕ) : Type 0 where
  pub first : (j : ℕ) → j < k → slice_index headers (2 * j) ≡ table_place s raw c j
      + 2 ^ 24 * block_bits s raw c j
  pub second : (j : ℕ) → j < k → slice_index headers (2 * j + 1) ≡ values_place s raw c j

-- what stands behind the headers: the indices and the tables of the first blocks
abbrev pub body : SegSizes → List ℕ → ℕ → ℕ → List ℕ
body s raw c k = packed_bytes s raw c k ++ table_bytes s raw c k

abbrev pub HasBodies : SegSizes → List ℕ → ℕ → List ℕ → ℕ → Type 0
HasBodies s raw c out k = drop (8 * block_count s) (take (4 * values_place s raw c k) out)
    ≡ flat_map (body s raw c) (range_with_len 0 k)

-- how far a channel is written, with room for lists
pub record IsBegun (s : SegSizes) (raw : List ℕ) (c : ℕ) (out : List ℕ) (room : Room) (k : ℕ) : Type 0 where
  pub tables : HasTables s raw c out room.at.items room.lens.items room.heads.items room.next.items k
  pub headers : HasHeaders s raw c room.headers.items k
  pub bodies : HasBodies s raw c out k
