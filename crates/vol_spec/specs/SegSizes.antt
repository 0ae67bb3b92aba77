-- The sizes that a segmentation chunk is read and written by (precomputed volume format, compressed_segmentation encoding).
use Rattle.std.specs.Prelude.{ℕ, ◌+◌, ◌*◌, Bool, List, if◌then◌else◌}
use Rattle.vol_spec.specs.Limits.{padded_voxels}

-- the chunk's voxels on each axis, those of a block, the channels, and whether values are wide
pub record SegSizes : Type 0 where
  pub size : List ℕ
  pub block : List ℕ
  pub channels : ℕ
  pub wide : Bool

-- the bytes of a value: of uint64 where it is wide, else of uint32
abbrev pub width_of : Bool → ℕ
width_of wide = if wide then 8 else 4

-- the chunk's voxels with each size rounded up to whole blocks, times the channels
abbrev pub padded_in : SegSizes → ℕ
padded_in s = padded_voxels s.block s.channels s.size s.size

-- how many bytes the chunk has at most as this writer spells it (this project's limit)
abbrev pub encoded_limit : SegSizes → ℕ
encoded_limit s = 4 * s.channels + 16 * padded_in s
