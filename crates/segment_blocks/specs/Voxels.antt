-- The values of a block's voxels (this project's words for proofs).
use Rattle.std.specs.Prelude.{ℕ, ◌+◌, ◌*◌, ◌&&◌, nat_lt, List, map, position, unwrap_or, ◌==◌, if◌then◌else◌}
use Rattle.std.specs.List.{range_with_len}
use Rattle.vol_spec.specs.SegSizes.{SegSizes}
use Rattle.vol_spec.specs.SegBlocks.{block_voxels, in_chunk}
use Rattle.vol_spec.specs.SegWritten.{raw_value}
use Rattle.segment_blocks.specs.declared.block.Block.{Block}
use Rattle.segment_blocks.specs.declared.voxels.Row.{Row}

-- the value of the voxel n of block k, and of padding another
abbrev pub voxel_of : SegSizes → List ℕ → ℕ → ℕ → ℕ → ℕ → ℕ
voxel_of s raw c k padding n = if in_chunk s k n then raw_value s raw c k n else padding

-- those of all voxels of the block
abbrev pub voxels_of : SegSizes → List ℕ → ℕ → ℕ → ℕ → List ℕ
voxels_of s raw c k padding = map (voxel_of s raw c k padding) (range_with_len 0 (block_voxels s))

-- the place of a value in a table
abbrev pub place_in : List ℕ → ℕ → ℕ
place_in table x = unwrap_or (position (λ v. v == x) table) 0

-- where a row of a block begins in the raw values, and how many of its voxels lie in the chunk
abbrev pub row_of : Block → ℕ → ℕ → Row
row_of b y z =
    if nat_lt y b.count_y && nat_lt z b.count_z then record {
      at =
          ((b.z + z) * b.size_y + (b.y + y)) * b.size_x + b.x;
      count = b.count_x;
    }
    else record { at = 0; count = 0 }
