-- Marks for the cells of a scale, by their numbers in the grid (this project's).
use Rattle.std.specs.Prelude.{◌≡◌, Bool, false, ◌||◌, List, slice_index_or}
use Rattle.vol_spec.specs.Grid.{IsCell}
use Rattle.vol_spec.specs.StoredCells.{cell_number}
use Rattle.vol_spec.specs.Types.{Cell}
use Rattle.vol_spec.specs.declared.scale.Scale.{Scale}

-- whether a cell is marked
abbrev pub marked : Scale → List Bool → Cell → Bool
marked s marks cell = slice_index_or marks (cell_number s cell) false

-- the cells that pass a test got their marks, and no other one's changed
abbrev pub AddsMarks : Scale → (Cell → Bool) → List Bool → List Bool → Type 0
AddsMarks s test old new = (cell : Cell) → IsCell s cell →
    marked s new cell ≡ (marked s old cell || test cell)

-- the cells that pass a test are marked, and no others
abbrev pub AreMarked : Scale → (Cell → Bool) → List Bool → Type 0
AreMarked s test marks = (cell : Cell) → IsCell s cell → marked s marks cell ≡ test cell
