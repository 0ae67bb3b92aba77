-- What putting the objects of an update answers, and what writing a plan over a scale does (this project's).
use Rattle.std.specs.Prelude.{◌≡◌, ◌⊎◌, ◌≤◌, ◌^◌, Option, Some, None, Result, Ok, Err, IfSome}
use Rattle.vol_base.specs.Outside.{Draft, Objects, OnlyReads}
use Rattle.vol_spec.specs.StoredLists.{in_key_order}
use Rattle.vol_spec.specs.Types.{Name, Writes}
use Rattle.vol_spec.specs.declared.scale.Scale.{Scale}
use Rattle.copier.specs.Held.{cells_of}
use Rattle.kept_cells.specs.declared.fault.KeepRefusal.{KeepRefusal}
use Rattle.kept_cells.specs.declared.fault.KeepRefusal.TheVariants as keeps
use Rattle.shard_writer.specs.Writing.{BeginsNext, Drops}
use Rattle.shard_writer.specs.declared.written.WriteFault.{WriteFault}
use Rattle.shard_writer.specs.declared.written.WriteFault.TheVariants as writes
use Rattle.shard_writer.specs.declared.written.Written.{Written}
use Rattle.update_laws.specs.Judged.{refusal_in}
use Rattle.update_laws.specs.Judged.Refusal.{BadShard as BadShardOf, TooManyCells as TooManyOf}
use Rattle.update_laws.specs.Overlaid.{after, after_cells}
use Rattle.updater.specs.Updates as updater
use Rattle.write_plan.specs.Plans.{pairs}
use Rattle.write_plan.specs.declared.plan.PlanRefusal.{PlanRefusal}
use Rattle.write_plan.specs.declared.plan.PlanRefusal.TheVariants as plans
use Rattle.update_cmd.specs.declared.fault.UpdateFault.{UpdateFault}
use Rattle.update_cmd.specs.declared.fault.UpdateFault.TheVariants.{TooManyCells, BadShard, StoreFault, Damaged, OutOfMemory}
use Rattle.update_cmd.specs.Updating.{update_list, update_fault, PutsUpdateFront, IsUpdated, PutsJudgedFront, HasTooMany}

-- an updater has a job for each cell that is stored
abbrev pub HasUpdateJobs : Objects → updater.Updates → Name → Scale → Type 0
HasUpdateJobs m u dataset s = cells_of u.held ≡ in_key_order s (after_cells m dataset s u.writes)

-- nothing is being written, or what was before, or the next of the objects, behind those that were put in
abbrev pub DropsOrUpdates : Option Objects → Option Objects → Name → Scale → Writes → Option Draft →
    Option Draft → Type 0
DropsOrUpdates old now dataset s writes before after = Drops before after ⊎
    IfSome old (λ m. BeginsNext (update_list m dataset s writes) m now after)

-- a fault that is found only once objects are put
abbrev pub IsLate : UpdateFault → Type 0
IsLate (Damaged cell fault) = Unit {0}
IsLate StoreFault = Unit {0}
IsLate OutOfMemory = Unit {0}
IsLate other = ⊥

-- what a fault of writing is
abbrev pub unwritten : WriteFault → UpdateFault
unwritten writes.StoreFault = StoreFault
unwritten (writes.Damaged cell fault) = Damaged cell fault
unwritten writes.OutOfMemory = OutOfMemory

-- what putting the objects answers over objects that are told
abbrev pub Updates : Result Written UpdateFault → Objects → Option Objects → Name → Scale → Writes → Type 0
Updates (Ok written) m now dataset s writes = IsUpdated m now dataset s writes written
Updates (Err (Damaged cell fault)) m now dataset s writes =
    (update_fault m dataset s writes ≡ Some (cell, fault)) × PutsUpdateFront m now dataset s writes
Updates (Err StoreFault) m now dataset s writes = PutsUpdateFront m now dataset s writes
Updates (Err OutOfMemory) m now dataset s writes = PutsUpdateFront m now dataset s writes
Updates (Err other) m now dataset s writes = ⊥

-- a refusal of the writes as a whole
abbrev pub not_planned : PlanRefusal → UpdateFault
not_planned (plans.TooManyCells cells) = TooManyCells cells
not_planned plans.OutOfMemory = OutOfMemory

-- a refusal of the shards that are written anew
abbrev pub refused : KeepRefusal → UpdateFault
refused keeps.NotRead = StoreFault
refused keeps.OutOfMemory = OutOfMemory
refused (keeps.BadShard shard minishard fault) = BadShard shard minishard fault
refused (keeps.TooManyCells cells) = TooManyCells cells

-- what writing a plan over a scale answers, and what stands after it: the shards that are written anew are judged first, and nothing is put
-- where one of them is refused
abbrev pub UpdatesPlanned : Result Written UpdateFault → Objects → Option Objects → Name → Scale → Writes →
    Type 0
UpdatesPlanned (Ok written) m now dataset s writes = (refusal_in m dataset s writes ≡ None)
    × IsUpdated m now dataset s writes written
UpdatesPlanned (Err (Damaged cell fault)) m now dataset s writes =
    (update_fault m dataset s writes ≡ Some (cell, fault)) × PutsJudgedFront m now dataset s writes
UpdatesPlanned (Err StoreFault) m now dataset s writes = (now ≡ Some m) ⊎
    PutsJudgedFront m now dataset s writes
UpdatesPlanned (Err OutOfMemory) m now dataset s writes = (now ≡ Some m) ⊎
    PutsJudgedFront m now dataset s writes
UpdatesPlanned (Err (TooManyCells cells)) m now dataset s writes = (now ≡ Some m)
    × (refusal_in m dataset s writes ≡ Some (TooManyOf cells))
UpdatesPlanned (Err (BadShard shard minishard fault)) m now dataset s writes = (now ≡ Some m)
    × (refusal_in m dataset s writes ≡ Some (BadShardOf shard minishard fault))

-- what writing over a scale answers, and what stands after it: the pairs are counted first
abbrev pub UpdatesScale : Result Written UpdateFault → Objects → Option Objects → Name → Scale → Writes →
    Type 0
UpdatesScale (Err (TooManyCells cells)) m now dataset s writes = (now ≡ Some m)
    × HasTooMany m dataset s writes cells
UpdatesScale (Err StoreFault) m now dataset s writes = (now ≡ Some m) ⊎
    ((pairs s writes ≤ 2 ^ 22) × PutsJudgedFront m now dataset s writes)
UpdatesScale (Err OutOfMemory) m now dataset s writes = (now ≡ Some m) ⊎
    ((pairs s writes ≤ 2 ^ 22) × PutsJudgedFront m now dataset s writes)
UpdatesScale result m now dataset s writes = (pairs s writes ≤ 2 ^ 22)
    × UpdatesPlanned result m now dataset s writes

-- what stands after a fault, also where nothing is told: the store is only read before the objects are put
abbrev pub KeepsStore : UpdateFault → Option Objects → Option Objects → Option Draft → Option Draft → Type 0
KeepsStore (TooManyCells cells) old now before after = OnlyReads old now before after
KeepsStore (BadShard shard minishard fault) old now before after = OnlyReads old now before after
KeepsStore other old now before after = Unit {0}
