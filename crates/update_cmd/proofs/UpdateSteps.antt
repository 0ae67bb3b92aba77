-- What `update` answers, from what its parts answer.
use Rattle.std.proofs.Common.{◌≡◌, ◌↔◌, ◌∙◌, ℕ, ◌^◌, ◌<◌, ◌≤◌, List, length, Option, Some, None, IfSome, refl, ap, sym, subst, arith, inl, inr}
use Rattle.std.specs.Prelude.{IfErr, Result, Ok, Err}
use Rattle.vol_base.specs.Outside.{Draft, Objects, OnlyReads}
use Rattle.vol_spec.specs.StoredLists.{in_key_order}
use Rattle.vol_spec.specs.Types.{Name, Writes}
use Rattle.vol_spec.specs.declared.scale.Scale.{Scale}
use Rattle.cell_lists.proofs.ListSteps.{Lists-order}
use Rattle.cell_lists.specs.Lists.{AreDistinct, Lists}
use Rattle.copier.specs.Held.{cells_of}
use Rattle.kept_cells.specs.Gathered.{Gathers}
use Rattle.kept_cells.specs.declared.fault.KeepRefusal.{KeepRefusal}
use Rattle.kept_cells.specs.declared.fault.KeepRefusal.TheVariants as keeps
use Rattle.shard_writer.specs.declared.written.Written.{Written}
use Rattle.update_laws.specs.Judged.{refusal_in}
use Rattle.update_laws.specs.Overlaid.{after_cells, is_after}
use Rattle.updater.specs.Updates as updater
use Rattle.write_plan.proofs.KeySteps.{length-in_key_order}
use Rattle.write_plan.specs.Plans.{Planned, pairs}
use Rattle.write_plan.specs.declared.plan.PlanRefusal.{PlanRefusal}
use Rattle.write_plan.specs.declared.plan.PlanRefusal.TheVariants as refusals
use Rattle.update_cmd.specs.Updating.{PutsUpdateFront}
use Rattle.update_cmd.specs.Putting.{HasUpdateJobs, IsLate, KeepsStore, Updates, UpdatesPlanned, UpdatesScale, not_planned, refused}
use Rattle.update_cmd.specs.declared.fault.UpdateFault.{UpdateFault}
use Rattle.update_cmd.specs.declared.fault.UpdateFault.TheVariants.{TooManyCells, BadShard, StoreFault, Damaged, OutOfMemory}

-- what is said of objects, of the same objects
pub told_in : (o p : Option Objects) (P : Objects → Type 0) → p ≡ o → IfSome o P → IfSome p P
told_in o p P same h = subst (λ x. IfSome x P) (sym same) h

-- an updater has few jobs
pub jobs_few : (s : Scale) (cells keyed : List (List ℕ)) → AreDistinct s cells → keyed ≡ in_key_order s cells → length cells ≤ 2 ^ 22 → length keyed ≤ 2 ^ 22
jobs_few s cells keyed distinct are few = let len = ap length are ∙ length-in_key_order s cells distinct.each distinct.distinct in omega (arith, len, few)

-- and one for each cell that is stored
jobs_one : (m : Objects) (u : updater.Updates) (dataset : Name) (s : Scale) (writes : Writes) (cells : List (List ℕ)) → u.writes ≡ writes → cells_of u.held ≡ in_key_order s cells → Lists s (is_after m dataset s writes) cells → HasUpdateJobs m u dataset s
unfolding after_cells
jobs_one m u dataset s writes cells same are lists =
    are ∙ Lists-order s (is_after m dataset s writes) cells lists ∙ ap (λ ws. in_key_order s (after_cells m dataset s ws)) (sym same)

pub jobs_told : (o : Option Objects) (u : updater.Updates) (dataset : Name) (s : Scale) (writes : Writes) (cells : List (List ℕ)) → u.writes ≡ writes → cells_of u.held ≡ in_key_order s cells → IfSome o (λ m. Lists s (is_after m dataset s writes) cells)
    → IfSome o (λ m. HasUpdateJobs m u dataset s)
jobs_told None u dataset s writes cells same are lists = tt
jobs_told (Some m) u dataset s writes cells same are lists = jobs_one m u dataset s writes cells same are lists

pub updates_as : (o now : Option Objects) (r : Result Written UpdateFault) (dataset : Name) (s : Scale) (own writes : Writes) → own ≡ writes → IfSome o (λ m. Updates r m now dataset s own) → IfSome o (λ m. Updates r m now dataset s writes)
updates_as o now r dataset s own writes same h = subst (λ ws. IfSome o (λ m. Updates r m now dataset s ws)) same h

module _ (dataset : Name) (s : Scale) (writes : Writes) where
  -- no object was put
  none_one : (m : Objects) → PutsUpdateFront m (Some m) dataset s writes
  none_one m = (record { count = 0; within = omega arith; put = refl }, λ cell listed bad. refl)

  pub none_put : (o : Option Objects) → IfSome o (λ m. Updates (Err OutOfMemory) m o dataset s writes)
  none_put None = tt
  none_put (Some m) = none_one m

  -- the objects of a plan
  planned_one : (r : Result Written UpdateFault) (m : Objects) (now : Option Objects) → refusal_in m dataset s writes ≡ None → Updates r m now dataset s writes → UpdatesPlanned r m now dataset s writes
  planned_one (Ok written) m now none h = (none, h)
  planned_one (Err (Damaged cell fault)) m now none h = (h.0, (none, h.1))
  planned_one (Err StoreFault) m now none h = inr (none, h)
  planned_one (Err OutOfMemory) m now none h = inr (none, h)
  planned_one (Err (TooManyCells cells)) m now none h = absurd h
  planned_one (Err (BadShard shard minishard fault)) m now none h = absurd h

  pub planned_told : (r : Result Written UpdateFault) (o same now : Option Objects) (Is : Objects → Type 0) → same ≡ o → IfSome o (λ m. (refusal_in m dataset s writes ≡ None) × Is m) → IfSome same (λ m. Updates r m now dataset s writes)
      → IfSome o (λ m. UpdatesPlanned r m now dataset s writes)
  planned_told r None same now Is kept none h = tt
  planned_told r (Some m) same now Is kept none h = planned_one r m now none.0 (subst (λ x. IfSome x (λ m. Updates r m now dataset s writes)) kept h)

  pub listed_told : (o same : Option Objects) (Is : Objects → Type 0) → same ≡ o → IfSome o (λ m. (refusal_in m dataset s writes ≡ None) × Is m) → IfSome same Is
  listed_told o same Is kept h = told_in o same Is kept (by o h)
    where
      by : (o : Option Objects) → IfSome o (λ m. (refusal_in m dataset s writes ≡ None) × Is m) → IfSome o Is
      by None h = tt
      by (Some m) h = h.1

  -- shards that are refused
  refused_one : {A : Type 0} (refusal : KeepRefusal) (m : Objects) (now : Option Objects) (Is : A → Type 0) → now ≡ Some m → Gathers {A = A} (Err refusal) Is m dataset s writes → UpdatesPlanned (Err (refused refusal)) m now dataset s writes
  refused_one keeps.NotRead m now Is same h = inl same
  refused_one keeps.OutOfMemory m now Is same h = inl same
  refused_one (keeps.BadShard shard minishard fault) m now Is same h = (same, h)
  refused_one (keeps.TooManyCells cells) m now Is same h = (same, h)

  pub refused_told : {A : Type 0} (o now : Option Objects) (refusal : KeepRefusal) (fault : UpdateFault) (Is : Objects → A → Type 0) → fault ≡ refused refusal → now ≡ o → IfSome o (λ m. Gathers {A = A} (Err refusal) (Is m) m dataset s writes)
      → IfSome o (λ m. UpdatesPlanned (Err fault) m now dataset s writes)
  refused_told None now refusal fault Is is same h = tt
  refused_told (Some m) now refusal fault Is is same h = subst (λ f. UpdatesPlanned (Err f) m now dataset s writes) (sym is) (refused_one refusal m now (Is m) same h)

  -- writes that are planned
  scale_one : (r : Result Written UpdateFault) (m : Objects) (now : Option Objects) → pairs s writes ≤ 2 ^ 22 → UpdatesPlanned r m now dataset s writes → UpdatesScale r m now dataset s writes
  scale_one (Ok written) m now few h = (few, h)
  scale_one (Err (Damaged cell fault)) m now few h = (few, h)
  scale_one (Err StoreFault) m now few (inl same) = inl same
  scale_one (Err StoreFault) m now few (inr h) = inr (few, h)
  scale_one (Err OutOfMemory) m now few (inl same) = inl same
  scale_one (Err OutOfMemory) m now few (inr h) = inr (few, h)
  scale_one (Err (TooManyCells cells)) m now few h = (h.0, inr (few, h.1))
  scale_one (Err (BadShard shard minishard fault)) m now few h = (few, h)

  pub scale_told : (r : Result Written UpdateFault) (o now : Option Objects) (own : Writes) → own ≡ writes → pairs s writes ≤ 2 ^ 22 → IfSome o (λ m. UpdatesPlanned r m now dataset s own) → IfSome o (λ m. UpdatesScale r m now dataset s writes)
  scale_told r None now own same few h = tt
  scale_told r (Some m) now own same few h = scale_one r m now few (subst (λ ws. UpdatesPlanned r m now dataset s ws) same h)

  -- and writes that aren't
  unplanned_one : (refusal : PlanRefusal) (m : Objects) → ((n : ℕ) → (let r : Result Planned PlanRefusal = Err refusal in r ≡ Err (refusals.TooManyCells n)) ↔ ((2 ^ 22 < pairs s writes) × (n ≡ pairs s writes)))
      → UpdatesScale (Err (not_planned refusal)) m (Some m) dataset s writes
  unplanned_one (refusals.TooManyCells cells) m exact = (refl, inl ((exact cells).0 refl))
  unplanned_one refusals.OutOfMemory m exact = inl refl

  pub unplanned_told : (refusal : PlanRefusal) (fault : UpdateFault) (o : Option Objects) → fault ≡ not_planned refusal
      → ((n : ℕ) → (let r : Result Planned PlanRefusal = Err refusal in r ≡ Err (refusals.TooManyCells n)) ↔ ((2 ^ 22 < pairs s writes) × (n ≡ pairs s writes))) → IfSome o (λ m. UpdatesScale (Err fault) m o dataset s writes)
  unplanned_told refusal fault None is exact = tt
  unplanned_told refusal fault (Some m) is exact = subst (λ f. UpdatesScale (Err f) m (Some m) dataset s writes) (sym is) (unplanned_one refusal m exact)

pub unplanned_kept : (refusal : PlanRefusal) (fault : UpdateFault) (o : Option Objects) (d : Option Draft) → fault ≡ not_planned refusal → KeepsStore fault o o d d
unplanned_kept refusal fault o d is = subst (λ f. KeepsStore f o o d d) (sym is) (by refusal)
  where
    by : (refusal : PlanRefusal) → KeepsStore (not_planned refusal) o o d d
    by (refusals.TooManyCells cells) = record { same_objects = refl; same_draft = refl }
    by refusals.OutOfMemory = tt

-- what a refusal leaves of the store
pub refused_kept : (refusal : KeepRefusal) (fault : UpdateFault) (o now : Option Objects) (d after : Option Draft) → fault ≡ refused refusal → OnlyReads o now d after → KeepsStore fault o now d after
refused_kept refusal fault o now d after is kept = subst (λ f. KeepsStore f o now d after) (sym is) (by refusal)
  where
    by : (refusal : KeepRefusal) → KeepsStore (refused refusal) o now d after
    by keeps.NotRead = tt
    by keeps.OutOfMemory = tt
    by (keeps.BadShard shard minishard fault) = kept
    by (keeps.TooManyCells cells) = kept

pub late_kept : (r : Result Written UpdateFault) (o now : Option Objects) (d after : Option Draft) → IfErr r IsLate → IfErr r (λ fault. KeepsStore fault o now d after)
late_kept (Ok written) o now d after late = tt
late_kept (Err StoreFault) o now d after late = tt
late_kept (Err (Damaged cell fault)) o now d after late = tt
late_kept (Err OutOfMemory) o now d after late = tt
late_kept (Err (TooManyCells cells)) o now d after late = absurd late
late_kept (Err (BadShard shard minishard fault)) o now d after late = absurd late
