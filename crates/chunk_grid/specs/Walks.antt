-- The cells of a block of cells, in order: x fastest, then y, then z (this project's profile). Lists over the
-- axes have x first.
use Rattle.std.specs.Prelude.{ℕ, ◌+◌, ◌-◌, ◌*◌, ◌/◌, ◌%◌, ◌^◌, ◌<◌, ◌≤◌, ℤ, pos, ◌-ℤ◌, List, [], ◌∷◌, map, slice_index}
use Rattle.std.specs.List.{range_with_len}
use Rattle.vol_base.specs.declared.boxes.Box3.{Box3}
use Rattle.vol_base.specs.Boxes.{end, on_axes}

-- the n-th cell of a block that begins at a first cell and has so many on each axis
abbrev pub cell_by_number : List ℕ → List ℕ → ℕ → List ℕ
cell_by_number first count n =
    (slice_index first 0 + n % slice_index count 0)
    ∷ (slice_index first 1 + n / slice_index count 0 % slice_index count 1)
    ∷ (slice_index first 2 + n / slice_index count 0 / slice_index count 1)
    ∷ []

-- how many cells the block has
abbrev pub total : List ℕ → ℕ
total count = slice_index count 0 * slice_index count 1 * slice_index count 2

-- the cells from the n-th on
abbrev pub cells_from : List ℕ → List ℕ → ℕ → List (List ℕ)
cells_from first count n = map (cell_by_number first count) (range_with_len n (total count - n))

-- the block has a cell, at most 2^40 on an axis, and ends within 2^40
pub record IsBlock (first count : List ℕ) : Type 0 where
  pub some : (axis : ℕ) → axis < 3 → 0 < slice_index count axis
  pub fits : (axis : ℕ) → axis < 3 → slice_index first axis + slice_index count axis ≤ 2 ^ 40

-- so many cells of the block were walked over
pub record IsWalk (first count : List ℕ) (walked : ℕ) : Type 0 where
  pub block : IsBlock first count
  pub within : walked ≤ total count

-- a first cell and a last one, which isn't before it on any axis
pub record AreEnds (first last : List ℕ) : Type 0 where
  pub ordered : (axis : ℕ) → axis < 3 → slice_index first axis ≤ slice_index last axis
  pub small : (axis : ℕ) → axis < 3 → slice_index last axis < 2 ^ 40

-- the last position of a box
abbrev pub last_position : Box3 → List ℤ
last_position b = on_axes (λ axis. end b axis -ℤ pos 1)

-- how many cells there are on each axis from a first to a last one
abbrev pub counts_between : List ℕ → List ℕ → List ℕ
counts_between first last = on_axes (λ axis. slice_index last axis - slice_index first axis + 1)
