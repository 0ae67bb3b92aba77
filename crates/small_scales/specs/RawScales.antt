-- Raw scales without sharding (this project's).
use Rattle.std.specs.Prelude.{◌≤◌, ◌^◌, ℕ, ℤ, List, length}
use Rattle.vol_base.specs.Grids.{AreSizes}
use Rattle.vol_spec.specs.Limits.{IsWidth, AreOffsets, first_bytes}

-- these are the parts of a raw scale: they keep the limits of scales
pub record AreParts (key : List ℕ) (width channels : ℕ) (size : List ℕ) (offset : List ℤ)
    (chunk : List ℕ) : Type 0 where
  pub key_ok : length key ≤ 200
  pub width_ok : IsWidth width
  pub some_channels : 1 ≤ channels
  pub channels_ok : channels ≤ 1024
  pub size_ok : AreSizes size
  pub offset_ok : AreOffsets offset
  pub chunk_ok : AreSizes chunk
  pub first_ok : first_bytes width channels size chunk ≤ 2 ^ 27
