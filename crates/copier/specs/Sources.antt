-- Which cells of the source the jobs of a copier are read from (this project's).
use Rattle.std.specs.Prelude.{ℕ, ◌+◌, ◌≤◌, List, Option, None, Some, flat_map, map}
use Rattle.std.specs.List.{range_with_len}
use Rattle.vol_base.specs.Outside.{Objects}
use Rattle.vol_spec.specs.Grid.{cell_box, cells_in}
use Rattle.vol_spec.specs.StoredCells.{cell_of}
use Rattle.vol_spec.specs.Types.{Cell, Name}
use Rattle.vol_spec.specs.declared.scale.Scale.{Scale}
use Rattle.cutout.specs.Runs.{HasRun, run_cost}
use Rattle.shard_reader.specs.declared.reader.ShardReader.{ShardReader}
use Rattle.copier.specs.Held.{Held, cells_of}

-- the source's cells that meet the box of a cell of the target
abbrev pub cells_under : Scale → Scale → Cell → List Cell
cells_under from to cell = cells_in from (cell_box to cell)

-- those of so many jobs, from a number on, one job after the other
abbrev pub sources : Scale → Scale → List Cell → ℕ → ℕ → List Cell
sources from to cells first count = flat_map (cells_under from to)
    (map (cell_of cells) (range_with_len first count))

-- how many bytes preparing so many jobs asks for at most: of each cell of the source its entry and its chunk, and the rows of its
-- index unless it stands behind the cell before it in the same one
abbrev pub window_cost : Held → Objects → ℕ → ℕ → ℕ
window_cost h m first count = run_cost m h.dataset h.from (sources h.from h.to (cells_of h) first count)

-- cells were read one after the other, for no more than they cost, and no row that a reader is past is asked for again
abbrev pub HasReadBy : Option ShardReader → Objects → Name → Scale → List Cell → ℕ → ℕ → Type 0
HasReadBy None m dataset from done begin asked = asked ≤ begin + run_cost m dataset from done
HasReadBy (Some shards) m dataset from done begin asked = HasRun m dataset from done begin asked shards

-- so many jobs were prepared, from a number on, in one call or in several: together they asked for no more than one call does
abbrev pub HasPrepared : Held → Objects → ℕ → ℕ → ℕ → ℕ → Type 0
HasPrepared h m first count begin asked = HasReadBy h.shards m h.dataset h.from
    (sources h.from h.to (cells_of h) first count) begin asked
