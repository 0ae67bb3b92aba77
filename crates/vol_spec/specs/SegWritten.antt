-- The bytes that this writer stores for a segmentation chunk. The layout is that of the precomputed volume format
-- (compressed_segmentation encoding); that tables ascend, are shared within a channel and stand behind the indices is this project's
-- profile.
use Rattle.std.specs.Prelude.{ℕ, ◌+◌, ◌*◌, ◌^◌, Bool, true, false, ◌&&◌, nat_lt, nat_le, ◌==◌, List, [], ◌∷◌, ◌++◌, length, map, flat_map, find, position, unwrap_or, sum_by, if◌then◌else◌}
use Rattle.std.specs.List.{range_with_len}
use Rattle.vol_spec.specs.BoxValues.{bytes_of}
use Rattle.vol_spec.specs.Raw.{digit}
use Rattle.vol_spec.specs.SegBlocks.{block_count, block_voxels, entry_words, width, packed_words, voxels_in, in_chunk, x_of, y_of, z_of, num}
use Rattle.vol_spec.specs.SegSizes.{SegSizes}
use Rattle.vol_spec.specs.Types.{Bytes}

-- an ascending list of distinct values, with one more
abbrev pub with_value : ℕ → List ℕ → List ℕ
with_value v [] = v ∷ []
with_value v (u ∷ us) = if nat_lt v u then v ∷ u ∷ us else (if v == u then u ∷ us else u ∷ with_value v us)

abbrev pub distinct : List ℕ → List ℕ
distinct [] = []
distinct (v ∷ vs) = with_value v (distinct vs)

-- whether two tables have the same values
abbrev pub same : List ℕ → List ℕ → Bool
same [] [] = true
same [] (b ∷ bs) = false
same (a ∷ rest) [] = false
same (a ∷ rest) (b ∷ bs) = a == b && same rest bs

-- the value of the voxel n of block k
abbrev pub raw_value : SegSizes → Bytes → ℕ → ℕ → ℕ → ℕ
raw_value s raw c k n = digit raw (width s) (num s (x_of s k n) (y_of s k n) (z_of s k n) c)

-- the distinct values of block k, ascending
unfoldable pub table : SegSizes → Bytes → ℕ → ℕ → List ℕ
table s raw c k = distinct (map (raw_value s raw c k) (voxels_in s k))

-- the first block with the same table as block k
unfoldable pub owner : SegSizes → Bytes → ℕ → ℕ → ℕ
owner s raw c k = unwrap_or (find (λ j. same (table s raw c j) (table s raw c k)) (range_with_len 0 k)) k

-- no earlier block has
abbrev pub places : SegSizes → Bytes → ℕ → ℕ → Bool
places s raw c k = owner s raw c k == k

-- the least allowed number of bits that can tell so many entries apart
abbrev pub bits_for : ℕ → ℕ
bits_for entries = unwrap_or (find (λ b. nat_le entries (2 ^ b)) (0 ∷ 1 ∷ 2 ∷ 4 ∷ 8 ∷ 16 ∷ [])) 32

abbrev pub block_bits : SegSizes → Bytes → ℕ → ℕ → ℕ
block_bits s raw c k = bits_for (length (table s raw c k))

-- the index of the voxel n; of padding 0
abbrev pub index_of : SegSizes → Bytes → ℕ → ℕ → ℕ → ℕ
index_of s raw c k n = if in_chunk s k n then unwrap_or
    (position (λ v. v == raw_value s raw c k n) (table s raw c k)) 0 else 0

-- the number of indices of so many bits side by side, the first lowest
abbrev pub packed : ℕ → List ℕ → ℕ
packed bits [] = 0
packed bits (i ∷ rest) = i + 2 ^ bits * packed bits rest

abbrev pub packed_len : SegSizes → Bytes → ℕ → ℕ → ℕ
packed_len s raw c k = packed_words (block_bits s raw c k) (block_voxels s)

abbrev pub packed_bytes : SegSizes → Bytes → ℕ → ℕ → Bytes
packed_bytes s raw c k = bytes_of (4 * packed_len s raw c k)
    (packed (block_bits s raw c k) (map (index_of s raw c k) (range_with_len 0 (block_voxels s))))

-- the words of a table that is written
abbrev pub table_len : SegSizes → Bytes → ℕ → ℕ → ℕ
table_len s raw c k = if places s raw c k then entry_words s * length (table s raw c k) else 0

abbrev pub table_bytes : SegSizes → Bytes → ℕ → ℕ → Bytes
table_bytes s raw c k = if places s raw c k then flat_map (bytes_of (width s)) (table s raw c k) else []

-- where the indices of block k stand, and its table, in words from the channel's start
unfoldable pub values_place : SegSizes → Bytes → ℕ → ℕ → ℕ
values_place s raw c k = 2 * block_count s + sum_by (λ j.
    packed_len s raw c j + table_len s raw c j) (range_with_len 0 k)

abbrev pub table_place : SegSizes → Bytes → ℕ → ℕ → ℕ
table_place s raw c k = let j = owner s raw c k in values_place s raw c j + packed_len s raw c j

abbrev pub header : SegSizes → Bytes → ℕ → ℕ → Bytes
header s raw c k = bytes_of 4 (table_place s raw c k + 2 ^ 24 * block_bits s raw c k)
    ++ bytes_of 4 (values_place s raw c k)

abbrev pub channel_bytes : SegSizes → Bytes → ℕ → Bytes
channel_bytes s raw c = flat_map (header s raw c) (range_with_len 0 (block_count s))
    ++ flat_map (λ k. packed_bytes s raw c k ++ table_bytes s raw c k) (range_with_len 0 (block_count s))

-- where channel c starts: after the channels' words and the channels before it
unfoldable pub channel_start : SegSizes → Bytes → ℕ → ℕ
channel_start s raw c = s.channels + sum_by (λ d. values_place s raw d (block_count s)) (range_with_len 0 c)

unfoldable pub seg_bytes : SegSizes → Bytes → Bytes
seg_bytes s raw = flat_map (λ c. bytes_of 4 (channel_start s raw c)) (range_with_len 0 s.channels)
    ++ flat_map (channel_bytes s raw) (range_with_len 0 s.channels)
