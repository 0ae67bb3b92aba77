-- The room for writing (this project's).
use Rattle.std.specs.Prelude.{◌≡◌, ℕ, ◌*◌, ◌^◌, ◌<◌, ◌≤◌, length}
use Rattle.vol_spec.specs.SegSizes.{SegSizes}
use Rattle.vol_spec.specs.SegBlocks.{block_count, block_voxels, size}
use Rattle.segment_blocks.specs.declared.room.Room.{Room}

-- it is enough for chunks of these sizes
pub record IsRoom (s : SegSizes) (room : Room) : Type 0 where
  pub voxels : length room.voxels.items ≡ block_voxels s
  pub table : length room.table.items ≡ block_voxels s
  pub some_heads : 0 < length room.heads.items
  pub few_heads : length room.heads.items < 2 ^ 32
  pub next : block_count s ≤ length room.next.items
  pub at : block_count s ≤ length room.at.items
  pub lens : block_count s ≤ length room.lens.items
  pub headers : 2 * block_count s ≤ length room.headers.items

-- its lists are as long as they were
pub record SameRoom (old new : Room) : Type 0 where
  pub voxels : length new.voxels.items ≡ length old.voxels.items
  pub table : length new.table.items ≡ length old.table.items
  pub heads : length new.heads.items ≡ length old.heads.items
  pub next : length new.next.items ≡ length old.next.items
  pub at : length new.at.items ≡ length old.at.items
  pub lens : length new.lens.items ≡ length old.lens.items
  pub headers : length new.headers.items ≡ length old.headers.items

-- what is reserved for the one sizes serves chunks of the other: no larger ones, in the same blocks
pub record Serves (reserved s : SegSizes) : Type 0 where
  pub block : s.block ≡ reserved.block
  pub channels : s.channels ≡ reserved.channels
  pub wide : s.wide ≡ reserved.wide
  pub size : (axis : ℕ) → axis < 3 → size s axis ≤ size reserved axis
