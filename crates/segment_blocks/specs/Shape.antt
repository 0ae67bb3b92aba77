-- The limits of a shape's sizes, axis by axis, and the places of values in raw bytes (this project's).
use Rattle.std.specs.Prelude.{ℕ, ◌*◌, ◌^◌, ◌<◌, ◌≤◌, IsTrue}
use Rattle.vol_spec.specs.SegSizes.{SegSizes}
use Rattle.vol_spec.specs.SegBlocks.{size, block, blocks_on, block_voxels, in_chunk, num, raw_len, x_of, y_of, z_of}

-- the chunk's voxels with each axis rounded up to the block
abbrev pub padded : SegSizes → ℕ
padded s = (blocks_on s 0 * block s 0) * ((blocks_on s 1 * block s 1) * (blocks_on s 2 * block s 2))

-- the limits of a shape that can be read
pub record IsShape (s : SegSizes) : Type 0 where
  pub size_0 : (0 < size s 0) × (size s 0 ≤ 2 ^ 40)
  pub size_1 : (0 < size s 1) × (size s 1 ≤ 2 ^ 40)
  pub size_2 : (0 < size s 2) × (size s 2 ≤ 2 ^ 40)
  pub block_0 : (0 < block s 0) × (block s 0 ≤ 2 ^ 24)
  pub block_1 : (0 < block s 1) × (block s 1 ≤ 2 ^ 24)
  pub block_2 : (0 < block s 2) × (block s 2 ≤ 2 ^ 24)
  pub some_channels : 0 < s.channels
  pub few_channels : s.channels ≤ 1024
  pub reading : padded s * s.channels ≤ 2 ^ 24
  pub raw : raw_len s ≤ 2 ^ 27

-- where the voxel n of block k has its value
abbrev pub place : SegSizes → ℕ → ℕ → ℕ → ℕ
place s c k n = num s (x_of s k n) (y_of s k n) (z_of s k n) c

-- it is a voxel of the block, and of the chunk
pub record InBlock (s : SegSizes) (k n : ℕ) : Type 0 where
  pub below : n < block_voxels s
  pub inside : IsTrue (in_chunk s k n)
