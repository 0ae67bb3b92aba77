-- The values of a chunk, side by side (this project's).
use Rattle.std.specs.Prelude.{◌≡◌, ℕ, ◌<◌}
use Rattle.vol_base.specs.Boxes.{Covers}
use Rattle.vol_spec.specs.Encodings.{value_at}
use Rattle.vol_spec.specs.Grid.{cell_box}
use Rattle.vol_spec.specs.Raw.{raw_at}
use Rattle.vol_spec.specs.Types.{Bytes, Cell, Position}
use Rattle.vol_spec.specs.declared.scale.Scale.{Scale}

-- raw values are those that the bytes of a cell's chunk give its voxels and channels
abbrev pub HoldsValues : Scale → Cell → Bytes → Bytes → Type 0
HoldsValues s cell bytes values = (p : Position) (c : ℕ) → Covers (cell_box s cell) p → c < s.channels
    → raw_at (cell_box s cell) s.width values p c ≡ value_at s cell bytes p c
