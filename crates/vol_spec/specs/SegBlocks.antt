-- The blocks of a segmentation chunk, and the numbers of its voxels (precomputed volume format, compressed_segmentation encoding).
-- Axes count from the chunk's begin. Blocks at the far ends are cut off by the chunk; their other voxels are padding.
use Rattle.std.specs.Prelude.{ℕ, ◌+◌, ◌-◌, ◌*◌, ◌/◌, ◌%◌, ◌<◌, Bool, ◌&&◌, nat_lt, List, slice_index, filter, if◌then◌else◌}
use Rattle.std.specs.List.{range_with_len}
use Rattle.vol_spec.specs.SegSizes.{SegSizes, width_of}

abbrev pub size : SegSizes → ℕ → ℕ
size s axis = slice_index s.size axis

abbrev pub block : SegSizes → ℕ → ℕ
block s axis = slice_index s.block axis

-- how many blocks lie on an axis: ceil(size / block)
abbrev pub blocks_on : SegSizes → ℕ → ℕ
blocks_on s axis = (size s axis + block s axis - 1) / block s axis

abbrev pub block_count : SegSizes → ℕ
block_count s = blocks_on s 0 * blocks_on s 1 * blocks_on s 2

-- a block's voxels, padding included
abbrev pub block_voxels : SegSizes → ℕ
block_voxels s = block s 0 * block s 1 * block s 2

-- the bytes and the words of a value
abbrev pub width : SegSizes → ℕ
width s = width_of s.wide

abbrev pub entry_words : SegSizes → ℕ
entry_words s = if s.wide then 2 else 1

-- the number of the block of a voxel, x fastest
abbrev pub block_of : SegSizes → ℕ → ℕ → ℕ → ℕ
block_of s x y z = x / block s 0 + blocks_on s 0 * (y / block s 1 + blocks_on s 1 * (z / block s 2))

-- the number of a voxel in its block, by the full sizes of a block
abbrev pub number_in : SegSizes → ℕ → ℕ → ℕ → ℕ
number_in s x y z = x % block s 0 + block s 0 * (y % block s 1 + block s 1 * (z % block s 2))

-- where the voxel n of block k lies
abbrev pub x_of : SegSizes → ℕ → ℕ → ℕ
x_of s k n = k % blocks_on s 0 * block s 0 + n % block s 0

abbrev pub y_of : SegSizes → ℕ → ℕ → ℕ
y_of s k n = k / blocks_on s 0 % blocks_on s 1 * block s 1 + n / block s 0 % block s 1

abbrev pub z_of : SegSizes → ℕ → ℕ → ℕ
z_of s k n = k / blocks_on s 0 / blocks_on s 1 * block s 2 + n / block s 0 / block s 1

-- whether it lies in the chunk, and so isn't padding
unfoldable pub in_chunk : SegSizes → ℕ → ℕ → Bool
in_chunk s k n = nat_lt (x_of s k n) (size s 0) && nat_lt (y_of s k n) (size s 1) && nat_lt (z_of s k n)
    (size s 2)

-- the numbers of the voxels of block k that lie in the chunk, ascending
abbrev pub voxels_in : SegSizes → ℕ → List ℕ
voxels_in s k = filter (in_chunk s k) (range_with_len 0 (block_voxels s))

-- the number of a voxel's value among the chunk's values: x fastest, then y, then z, then the channel
abbrev pub num : SegSizes → ℕ → ℕ → ℕ → ℕ → ℕ
num s x y z c = x + size s 0 * (y + size s 1 * (z + size s 2 * c))

-- how many bytes the chunk's values have
abbrev pub raw_len : SegSizes → ℕ
raw_len s = size s 0 * size s 1 * size s 2 * s.channels * width s

-- the words of n packed indices of so many bits
abbrev pub packed_words : ℕ → ℕ → ℕ
packed_words bits n = (bits * n + 31) / 32

-- a voxel of the chunk
pub record InChunk (s : SegSizes) (x y z : ℕ) : Type 0 where
  pub on_x : x < size s 0
  pub on_y : y < size s 1
  pub on_z : z < size s 2
