-- What can be wrong with the bytes of a segmentation chunk. Each fault is a statement about one channel, block or voxel alone; the order
-- in which they are judged is this project's profile.
use Rattle.std.specs.Prelude.{ℕ, ◌+◌, ◌*◌, ◌%◌, Bool, ◌&&◌, ◌||◌, ◌==◌, not, nat_lt, List, [], ◌∷◌, length, map, flat_map, Option, Some, None, if◌then◌else◌}
use Rattle.std.specs.List.{range_with_len, list_any}
use Rattle.vol_base.specs.declared.faults.ChunkFault.{ChunkFault}
use Rattle.vol_base.specs.declared.faults.ChunkFault.TheVariants.{SegLength, SegChannel, SegBits, SegValues, SegTable}
use Rattle.vol_spec.specs.BoxValues.{first_some}
use Rattle.vol_spec.specs.SegBlocks.{block_count, block_voxels, packed_words, voxels_in}
use Rattle.vol_spec.specs.SegChunks.{words, start, bits, values_at, index, entry_at}
use Rattle.vol_spec.specs.SegSizes.{SegSizes}
use Rattle.vol_spec.specs.Types.{Bytes}

-- the counts of bits that an index may have
abbrev pub is_allowed : ℕ → Bool
is_allowed b = list_any (λ a. a == b) (0 ∷ 1 ∷ 2 ∷ 4 ∷ 8 ∷ 16 ∷ 32 ∷ [])

abbrev pub when : Bool → ChunkFault → Option ChunkFault
when holds fault = if holds then Some fault else None

-- the bytes are no whole words, or too few for the words of the channels
abbrev pub length_fault : Bytes → SegSizes → Option ChunkFault
length_fault bytes s = when (not (length bytes % 4 == 0) || nat_lt (length bytes) (4 * s.channels))
    (SegLength (length bytes))

-- the headers of channel c pass the end
abbrev pub channel_fault : Bytes → SegSizes → ℕ → Option ChunkFault
channel_fault bytes s c = when (nat_lt (words bytes) (start bytes c + 2 * block_count s)) (SegChannel c)

abbrev pub bits_fault : Bytes → ℕ → ℕ → Option ChunkFault
bits_fault bytes c k = when (not (is_allowed (bits bytes c k))) (SegBits c k (bits bytes c k))

-- the indices of block k pass the end; where there are no bits there are none
abbrev pub values_fault : Bytes → SegSizes → ℕ → ℕ → Option ChunkFault
values_fault bytes s c k = when (not (bits bytes c k == 0) && nat_lt (words bytes)
    (start bytes c + values_at bytes c k + packed_words (bits bytes c k) (block_voxels s))) (SegValues c k)

-- the table entry of the voxel n of block k passes the end
abbrev pub table_fault : Bytes → SegSizes → ℕ → ℕ → ℕ → Option ChunkFault
table_fault bytes s c k n = when (nat_lt (words bytes) (entry_at bytes s c k (index bytes c k n + 1)))
    (SegTable c k n)

-- all of them in order: by channel, then by block, then by voxel; padding isn't judged
abbrev pub block_faults : Bytes → SegSizes → ℕ → ℕ → List (Option ChunkFault)
block_faults bytes s c k = bits_fault bytes c k ∷ values_fault bytes s c k
    ∷ map (table_fault bytes s c k) (voxels_in s k)

abbrev pub channel_faults : Bytes → SegSizes → ℕ → List (Option ChunkFault)
channel_faults bytes s c = channel_fault bytes s c
    ∷ flat_map (block_faults bytes s c) (range_with_len 0 (block_count s))

abbrev pub all_faults : Bytes → SegSizes → List (Option ChunkFault)
all_faults bytes s = length_fault bytes s ∷ flat_map (channel_faults bytes s) (range_with_len 0 s.channels)

-- the first that there is
unfoldable pub seg_fault : Bytes → SegSizes → Option ChunkFault
seg_fault bytes s = first_some (all_faults bytes s)
