-- Compressed Morton codes (precomputed volume format, sharded format, chunk ids). A cell has three coordinates, x first.
use Rattle.std.specs.Prelude.{◌≡◌, ℕ, ◌+◌, ◌*◌, ◌/◌, ◌%◌, ◌^◌, ◌<◌, List, [], ◌∷◌, length, map, slice_index}
use Rattle.vol_base.specs.Grids.{pairs}
use Rattle.vol_spec.specs.Types.{Cell}

-- a cell of a grid of this size: each coordinate is below the size on its axis
pub record IsInGrid (size : List ℕ) (cell : Cell) : Type 0 where
  pub axes : length cell ≡ 3
  pub below : (axis : ℕ) → axis < 3 → slice_index cell axis < slice_index size axis

-- the coordinate's bit, by its number and the axis
abbrev pub bit_of : Cell → ℕ × ℕ → ℕ
bit_of cell p = slice_index cell p.1 / 2 ^ p.0 % 2

-- a number from its bits, the lowest first
abbrev pub number : List ℕ → ℕ
number [] = 0
number (b ∷ bs) = b + 2 * number bs

-- bit j of the code is the coordinate's bit that pair j names
abbrev pub code_of : List ℕ → Cell → ℕ
code_of size cell = number (map (bit_of cell) (pairs size))
