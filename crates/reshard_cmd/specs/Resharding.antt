-- What copying a scale into another layout answers, and what stands after it (this project's).
use Rattle.std.specs.Prelude.{◌≡◌, ◌≢◌, map, Option, None, Contains, IfSome}
use Rattle.std.specs.FinMap as fin
use Rattle.vol_base.specs.Outside.{Objects}
use Rattle.vol_base.specs.declared.faults.Fault.{Fault}
use Rattle.vol_spec.specs.BoxValues.{first_some}
use Rattle.vol_spec.specs.Copies.{copied_cells, copy}
use Rattle.vol_spec.specs.Cut.{first_fault}
use Rattle.vol_spec.specs.Grid.{cell_box}
use Rattle.vol_spec.specs.StoredBytes.{object_of}
use Rattle.vol_spec.specs.StoredLists.{in_key_order, stored_list}
use Rattle.vol_spec.specs.Types.{Cell, Listed, Name}
use Rattle.vol_spec.specs.declared.scale.Scale.{Scale}
use Rattle.shard_writer.specs.Writing.{PutsFront}

-- the objects that the copy is stored as
abbrev pub copy_list : Objects → Name → Scale → Name → Scale → Listed
copy_list m from_dataset from to_dataset to = stored_list to_dataset to (copy m from_dataset from to)

-- the first fault of the source on the way: the cells that are copied are made in the order of their keys, and of each its box is read, x
-- fastest
abbrev pub copy_fault : Objects → Name → Scale → Scale → Option (Cell × Fault)
copy_fault m dataset from to = first_some (map (λ cell.
    first_fault m dataset from (cell_box to cell)) (in_key_order to (copied_cells m dataset from to)))

-- the object of each copied cell in whose box a cell of the source has a fault is as before: what has no value isn't stored
abbrev pub SparesFaulty : Objects → Option Objects → Name → Scale → Name → Scale → Type 0
SparesFaulty m now from_dataset from to_dataset to = IfSome now (λ n. (cell : Cell) →
    Contains (copied_cells m from_dataset from to) cell →
    first_fault m from_dataset from (cell_box to cell) ≢ None →
    fin.get n (object_of to_dataset to cell) ≡ fin.get m (object_of to_dataset to cell))

-- a front of the copy's objects was put in, none of them with a cell in whose box the source has a fault
abbrev pub PutsCopyFront : Objects → Option Objects → Name → Scale → Name → Scale → Type 0
PutsCopyFront m now from_dataset from to_dataset to =
    PutsFront (copy_list m from_dataset from to_dataset to) m now
    × SparesFaulty m now from_dataset from to_dataset to
