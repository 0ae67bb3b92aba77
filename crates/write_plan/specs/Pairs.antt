-- Pairs of a cell's number in the grid and the number of a write that meets it (this project's).
use Rattle.std.specs.Prelude.{◌≡◌, ℕ, ◌+◌, ◌*◌, ◌<◌, ◌==◌, List, [], ◌∷◌, ◌++◌, length, map, filter, slice_index_or}
use Rattle.std.specs.List.{All, Contains}
use Rattle.std.specs.List.Sorted.{IsNonDecreasingBy}
use Rattle.vol_base.specs.declared.boxes.Box3.{Box3}
use Rattle.vol_spec.specs.Grid.{IsCell, cells_in, cells_on, meets}
use Rattle.vol_spec.specs.StoredCells.{AreInOrder, cell_number, met_cells}
use Rattle.vol_spec.specs.StoredLists.{in_key_order}
use Rattle.vol_spec.specs.Types.{Cell}
use Rattle.vol_spec.specs.declared.scale.Scale.{Scale}
use Rattle.write_plan.specs.Jobs.{jobs_of}
use Rattle.write_plan.specs.WriteLists.{BoxWrite, IsWriteOf}
use Rattle.write_plan.specs.declared.jobs.Job.{Job}
use Rattle.write_plan.specs.declared.pairs.Pair.{Pair}

-- how many cells the grid has
abbrev pub cell_count : Scale → ℕ
cell_count s = cells_on s 0 * cells_on s 1 * cells_on s 2

abbrev pub pair_of : Scale → ℕ → List ℕ → Pair
pair_of s write cell = record { number = cell_number s cell; write = write }

-- of a write: each cell that its box meets
abbrev pub pairs_of : Scale → ℕ → Box3 → List Pair
pairs_of s write part = map (pair_of s write) (cells_in s part)

-- of writes that are numbered from a first number on
abbrev pub pairs_from : Scale → ℕ → List BoxWrite → List Pair
pairs_from s first [] = []
pairs_from s first (w ∷ ws) = pairs_of s first w.0 ++ pairs_from s (first + 1) ws

-- the pairs of a cell, by its number
abbrev pub run_of : List Pair → ℕ → List Pair
run_of ps number = filter (λ pair. pair.number == number) ps

-- the writes of pairs, whose numbers are places in a list of writes
abbrev pub writes_of_run : List BoxWrite → BoxWrite → List Pair → List BoxWrite
writes_of_run writes d ps = map (λ pair. slice_index_or writes pair.write d) ps

-- pairs in the order of the grid, of which those of each cell are the writes that meet it, in order
pub record ArePairs (s : Scale) (writes : List BoxWrite) (ps : List Pair) : Type 0 where
  pub within : All (λ pair. pair.write < length writes) ps
  pub below : All (λ pair. pair.number < cell_count s) ps
  pub ordered : IsNonDecreasingBy (λ pair. pair.number) ps
  pub runs : (cell : List ℕ) (d : BoxWrite) → IsCell s cell →
      writes_of_run writes d (run_of ps (cell_number s cell)) ≡ filter (λ w. meets s w.0 cell) writes

-- distinct cells in the order of the grid, which are those of the pairs' numbers
pub record AreRead (s : Scale) (ps : List Pair) (cells : List Cell) : Type 0 where
  pub order : AreInOrder s cells
  pub from : All (λ cell. Contains (map (λ (pair : Pair). pair.number) ps) (cell_number s cell)) cells
  pub to : All (λ (pair : Pair). Contains (map (cell_number s) cells) pair.number) ps

-- what a plan keeps: its writes are those of its scale, and its jobs are the cells that they meet, in the order of their keys
pub record IsPlan (s : Scale) (writes : List BoxWrite) (jobs : List Job) (ps : List Pair) : Type 0 where
  pub fits : All (IsWriteOf s) writes
  pub ready : ArePairs s writes ps
  pub jobs_are : jobs ≡ jobs_of s (in_key_order s (met_cells s writes))
