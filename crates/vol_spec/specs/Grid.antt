-- The grid of a scale's cells (precomputed volume format, chunk storage). A cell is a list of three numbers, x first. Edge cells are
-- clipped to the scale, in sharded scales too (this project's profile).
use Rattle.std.specs.Prelude.{◌≡◌, ℕ, ◌-◌, ◌*◌, ◌/◌, ◌<◌, min, Bool, pos, ◌+ℤ◌, int_lt, List, [], ◌∷◌, length, map, filter, flat_map, slice_index}
use Rattle.std.specs.Int.{int_max, int_min}
use Rattle.std.specs.List.{list_all, range_with_len}
use Rattle.vol_base.specs.declared.boxes.Box3.{Box3}
use Rattle.vol_base.specs.Boxes.{at, end, on_axes, from_begin, Covers, Within, IsSome}
use Rattle.vol_spec.specs.Limits.{cell_counts}
use Rattle.vol_spec.specs.Types.{Cell, Position}
use Rattle.vol_spec.specs.declared.scale.Scale.{Scale}

-- the box of all positions of a scale
abbrev pub whole : Scale → Box3
whole s = record { begin = s.offset; size = s.size }

-- no axis of the box is empty, and the scale has each of its positions
pub record Inside (s : Scale) (b : Box3) : Type 0 where
  pub some : IsSome b
  pub within : Within b (whole s)

-- how many cells the grid has on an axis: ceil(size / chunk)
abbrev pub cells_on : Scale → ℕ → ℕ
cells_on s axis = slice_index (cell_counts s.size s.chunk) axis

-- a cell of the grid
pub record IsCell (s : Scale) (cell : Cell) : Type 0 where
  pub axes : length cell ≡ 3
  pub below : (axis : ℕ) → axis < 3 → slice_index cell axis < cells_on s axis

-- on an axis a cell begins at its number times the chunk size, counted from the scale's begin,
abbrev pub cell_begin : Scale → Cell → ℕ → ℕ
cell_begin s cell axis = slice_index cell axis * slice_index s.chunk axis

-- and ends a chunk size further, or where the scale ends
abbrev pub cell_size : Scale → Cell → ℕ → ℕ
cell_size s cell axis = min (slice_index s.chunk axis) (slice_index s.size axis - cell_begin s cell axis)

-- the positions of a cell
abbrev pub cell_box : Scale → Cell → Box3
cell_box s cell = record {
  begin = on_axes (λ axis. at s.offset axis +ℤ pos (cell_begin s cell axis));
  size = on_axes (cell_size s cell);
}

-- the cell of a position
abbrev pub cell_at : Scale → Position → Cell
cell_at s p = on_axes (λ axis. from_begin (whole s) p axis / slice_index s.chunk axis)

-- some position is one of both
abbrev pub Meets : Scale → Cell → Box3 → Type 0
Meets s cell b = (p : Position) × Covers (cell_box s cell) p × Covers b p

-- the same as a test: on each axis the later begin is before the earlier end
abbrev pub meets_on : Box3 → Box3 → ℕ → Bool
meets_on a b axis = int_lt (int_max (at a.begin axis) (at b.begin axis)) (int_min (end a axis) (end b axis))

abbrev pub meets : Scale → Box3 → Cell → Bool
meets s b cell = list_all (meets_on (cell_box s cell) b) (0 ∷ 1 ∷ 2 ∷ [])

-- so many numbers on each axis, in order: x fastest, then y, then z
abbrev pub numbers_on : (ℕ → ℕ) → List Cell
numbers_on count =
    flat_map (λ z. flat_map (λ y. map (λ x. x ∷ y ∷ z ∷ []) (range_with_len 0 (count 0)))
    (range_with_len 0 (count 1))) (range_with_len 0 (count 2))

-- the cells that meet a box, in order
abbrev pub cells_in : Scale → Box3 → List Cell
cells_in s b = filter (meets s b) (numbers_on (cells_on s))
