-- A block's numbers, as the code has them (this project's).
use Rattle.std.specs.Prelude.{◌≡◌, ℕ, ◌+◌, ◌-◌, ◌*◌, ◌/◌, ◌%◌, min}
use Rattle.vol_spec.specs.SegSizes.{SegSizes}
use Rattle.segment_blocks.specs.declared.block.Block.{Block}
use Rattle.vol_spec.specs.SegBlocks.{size, block, blocks_on, block_voxels}

pub record IsBlock (s : SegSizes) (c k : ℕ) (b : Block) : Type 0 where
  pub x : b.x ≡ k % blocks_on s 0 * block s 0
  pub y : b.y ≡ k / blocks_on s 0 % blocks_on s 1 * block s 1
  pub z : b.z ≡ c * size s 2 + k / blocks_on s 0 / blocks_on s 1 * block s 2
  pub count_x : b.count_x ≡ min (block s 0) (size s 0 - b.x)
  pub count_y : b.count_y ≡ min (block s 1) (size s 1 - b.y)
  pub count_z : b.count_z ≡ min (block s 2) (size s 2 - k / blocks_on s 0 / blocks_on s 1 * block s 2)
  pub block_x : b.block_x ≡ block s 0
  pub block_y : b.block_y ≡ block s 1
  pub size_x : b.size_x ≡ size s 0
  pub size_y : b.size_y ≡ size s 1
  pub indices : b.indices ≡ block_voxels s
