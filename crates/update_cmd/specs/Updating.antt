-- What writing over a scale answers, and what stands after it (this project's).
use Rattle.std.specs.Prelude.{◌≡◌, ◌≢◌, ◌⊎◌, ◌≤◌, ◌<◌, ◌^◌, ℕ, map, length, All, Option, Some, None, Contains, IfSome}
use Rattle.std.specs.FinMap as fin
use Rattle.vol_base.specs.Outside.{Objects}
use Rattle.vol_base.specs.declared.faults.Fault.{Fault}
use Rattle.vol_spec.specs.BoxValues.{first_some}
use Rattle.vol_spec.specs.Chunks.{fault_in}
use Rattle.vol_spec.specs.Cut.{faulty}
use Rattle.vol_spec.specs.StoredBytes.{object_of}
use Rattle.vol_spec.specs.StoredLists.{in_key_order, stored_list}
use Rattle.vol_spec.specs.Types.{Cell, Listed, Name, Writes}
use Rattle.vol_spec.specs.declared.scale.Scale.{Scale}
use Rattle.shard_writer.specs.Writing.{PutsFront, joint_len}
use Rattle.shard_writer.specs.declared.written.Written.{Written}
use Rattle.update_laws.specs.Judged.{refusal_in}
use Rattle.update_laws.specs.Judged.Refusal.{TooManyCells as TooManyOf}
use Rattle.update_laws.specs.Overlaid.{after, after_cells}
use Rattle.update_laws.specs.Updated.{AddsNoFault, HasUpdates, LeavesUntouched, updated_in}
use Rattle.write_plan.specs.Plans.{pairs}

-- the objects that the cells which are stored are stored as
abbrev pub update_list : Objects → Name → Scale → Writes → Listed
update_list m dataset s writes = stored_list dataset s (after m dataset s writes)

-- the first fault on the way: of the cells that are stored, in the order of their keys
abbrev pub update_fault : Objects → Name → Scale → Writes → Option (Cell × Fault)
update_fault m dataset s writes = first_some
    (map (faulty m dataset s) (in_key_order s (after_cells m dataset s writes)))

-- the object of each cell that is stored and has a fault is as before
abbrev pub SparesFaulty : Objects → Option Objects → Name → Scale → Writes → Type 0
SparesFaulty m now dataset s writes = IfSome now (λ n. (cell : Cell) →
    Contains (after_cells m dataset s writes) cell → fault_in m dataset s cell ≢ None →
    fin.get n (object_of dataset s cell) ≡ fin.get m (object_of dataset s cell))

-- a front of the objects was put in, none of them with a cell that has a fault
abbrev pub PutsUpdateFront : Objects → Option Objects → Name → Scale → Writes → Type 0
PutsUpdateFront m now dataset s writes = PutsFront (update_list m dataset s writes) m now
    × SparesFaulty m now dataset s writes

-- writes were put over what was there: the objects were put in and nothing else was changed, as many as are told; no cell that is stored
-- had a fault; each value is the last write, else the one before, where its cell had no fault; no cell has a fault that had none; and only
-- objects of cells that the writes meet have changed
pub record IsUpdated (m : Objects) (now : Option Objects) (dataset : Name) (s : Scale) (writes : Writes)
    (written : Written) : Type 0 where
  pub put : now ≡ Some (updated_in m dataset s writes)
  pub objects : written.objects ≡ length (update_list m dataset s writes)
  pub cells : written.cells ≡ length (after_cells m dataset s writes)
  pub bytes : written.bytes ≡ joint_len (update_list m dataset s writes)
  pub sound : All (λ cell. fault_in m dataset s cell ≡ None) (after_cells m dataset s writes)
  pub values : HasUpdates m (updated_in m dataset s writes) dataset s writes
  pub faultless : AddsNoFault m (updated_in m dataset s writes) dataset s
  pub untouched : LeavesUntouched m (updated_in m dataset s writes) dataset s writes

-- the shards that are written anew are sound and have few cells, and a front of the objects was put in
abbrev pub PutsJudgedFront : Objects → Option Objects → Name → Scale → Writes → Type 0
PutsJudgedFront m now dataset s writes = (refusal_in m dataset s writes ≡ None)
    × PutsUpdateFront m now dataset s writes

-- too many pairs of a write and a cell that it meets; or few, and once some shard is judged, too many cells that are met or were kept so far
abbrev pub HasTooMany : Objects → Name → Scale → Writes → ℕ → Type 0
HasTooMany m dataset s writes cells = ((2 ^ 22 < pairs s writes) × (cells ≡ pairs s writes)) ⊎
    ((pairs s writes ≤ 2 ^ 22) × (refusal_in m dataset s writes ≡ Some (TooManyOf cells)))
