-- What reducing a scale into the next one answers, and what stands after it (this project's).
use Rattle.std.specs.Prelude.{◌≡◌, ◌≢◌, map, Option, None, Contains, IfSome}
use Rattle.std.specs.FinMap as fin
use Rattle.vol_base.specs.Outside.{Objects}
use Rattle.vol_base.specs.declared.faults.Fault.{Fault}
use Rattle.vol_spec.specs.BoxValues.{first_some}
use Rattle.vol_spec.specs.Cut.{first_fault}
use Rattle.vol_spec.specs.StoredBytes.{object_of}
use Rattle.vol_spec.specs.StoredLists.{in_key_order, stored_list}
use Rattle.vol_spec.specs.Types.{Cell, Listed, Name}
use Rattle.vol_spec.specs.declared.scale.Scale.{Scale}
use Rattle.reduce_laws.specs.Reduced.{reduced_cells, reduced_chunks, source_box}
use Rattle.reduce_laws.specs.declared.method.Method.{Method}
use Rattle.shard_writer.specs.Writing.{PutsFront}

-- the objects that the reduced scale is stored as
abbrev pub reduced_list : Method → Objects → Name → Scale → Scale → Listed
reduced_list method m dataset from to = stored_list dataset to (reduced_chunks method m dataset from to)

-- the first fault of the source on the way: the cells that are reduced are made in the order of their keys, and of each the source's box under it
-- is read, x fastest
abbrev pub source_fault : Objects → Name → Scale → Scale → Option (Cell × Fault)
source_fault m dataset from to = first_some (map (λ cell.
    first_fault m dataset from (source_box from to cell)) (in_key_order to (reduced_cells m dataset from to)))

-- the object of each reduced cell over a cell of the source that has a fault is as before: what has no value isn't stored
abbrev pub SparesFaulty : Objects → Option Objects → Name → Scale → Scale → Type 0
SparesFaulty m now dataset from to = IfSome now (λ n. (cell : Cell) →
    Contains (reduced_cells m dataset from to) cell →
    first_fault m dataset from (source_box from to cell) ≢ None →
    fin.get n (object_of dataset to cell) ≡ fin.get m (object_of dataset to cell))

-- a front of the reduced scale's objects was put in, none of them with a cell over a faulty one of the source
abbrev pub PutsReducedFront : Method → Objects → Option Objects → Name → Scale → Scale → Type 0
PutsReducedFront method m now dataset from to =
    PutsFront (reduced_list method m dataset from to) m now × SparesFaulty m now dataset from to
