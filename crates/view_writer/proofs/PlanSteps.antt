-- What a plan's objects are.
use Rattle.std.proofs.Common.{◌≡◌, ◌∙◌, ◌+◌, ◌^◌, ◌≤◌, List, [], ◌∷◌, Bool, true, false, length, map, sum, Option, Some, None, refl, ap, subst, arith}
use Rattle.std.specs.Prelude.{◌||◌, cond, filter}
use Rattle.std.specs.List.{list_any}
use Rattle.std.proofs.lemmas.List.Sums.{sum_by-cons}
use Rattle.vol_base.specs.Outside.{Objects}
use Rattle.vol_base.proofs.Moments.{passes_weaker}
use Rattle.vol_spec.specs.LastWrite.{zeros}
use Rattle.vol_spec.specs.Grid.{cells_on, meets, numbers_on}
use Rattle.vol_spec.specs.StoredCells.{chunks_of, met_cells, put_in}
use Rattle.vol_spec.specs.StoredLists.{stored_list}
use Rattle.vol_spec.specs.Types.{Listed, Name, Writes}
use Rattle.vol_spec.specs.declared.scale.Scale.{Scale}
use Rattle.shard_writer.proofs.PlannedSteps.{planned_len, planned_objects}
use Rattle.shard_writer.specs.Writing.{joint_len, PutsFront}
use Rattle.shard_writer.specs.Works.{job_objects, KnowsLens, PassesFronts, PutsJobs, PutsSome, told_objects}
use Rattle.shard_writer.specs.declared.written.Written.{Written}
use Rattle.write_plan.specs.Plans.{pairs, Planned, planned_cells, work_of}
use Rattle.view_writer.specs.Views.{IsFront, IsPut, of_view}

pub planned_count : (plan : Planned) (s : Scale) → plan.scale ≡ s → length (planned_cells plan) ≡ length (met_cells s plan.writes)
planned_count plan s e = planned_len plan ∙ ap (λ x. length (met_cells x plan.writes)) e

plan_objects : (plan : Planned) (m : Objects) (dataset : Name) (s : Scale) → plan.scale ≡ s → job_objects dataset (work_of plan) m ≡ of_view dataset s plan.writes
plan_objects plan m dataset s e =
    planned_objects dataset plan m ∙ ap (λ x. stored_list dataset x (chunks_of x zeros plan.writes)) e

first_or : {X : Type 0} (b c : Bool) (x : X) (xs ys zs : List X) → length xs ≤ length ys + length zs
    → length (cond (b || c) (x ∷ xs) xs) ≤ length (cond b (x ∷ ys) ys) + length (cond c (x ∷ zs) zs)
first_or true true x xs ys zs h = omega arith
first_or true false x xs ys zs h = omega arith
first_or false true x xs ys zs h = omega arith
first_or false false x xs ys zs h = h

filter_or : {X : Type 0} (p q : X → Bool) (xs : List X) → length (filter (λ x. p x || q x) xs) ≤ length (filter p xs) + length (filter q xs)
filter_or p q [] = omega arith
filter_or p q (x ∷ xs) = first_or (p x) (q x) x (filter (λ y. p y || q y) xs) (filter p xs) (filter q xs) (filter_or p q xs)

filter_none : {X : Type 0} (xs : List X) → length (filter (λ x. false) xs) ≡ 0
filter_none [] = refl
filter_none (x ∷ xs) = filter_none xs

any_few : {W X : Type 0} (p : W → X → Bool) (ws : List W) (xs : List X) → length (filter (λ x. list_any (λ w. p w x) ws) xs) ≤ sum (map (λ w. length (filter (p w) xs)) ws)
any_few p [] xs = let e = filter_none xs in omega (arith, e)
any_few p (w ∷ ws) xs =
    let both = filter_or (p w) (λ x. list_any (λ v. p v x) ws) xs in
    let rest = any_few p ws xs in
    let all : sum (map (λ v. length (filter (p v) xs)) (w ∷ ws)) ≡ length (filter (p w) xs) + sum (map (λ v. length (filter (p v) xs)) ws) = sum_by-cons (λ n. n) (length (filter (p w) xs)) (map (λ v. length (filter (p v) xs)) ws) in
    omega (arith, both, rest, all)

pub few_cells : (s : Scale) (ws : Writes) → length (met_cells s ws) ≤ pairs s ws
unfolding met_cells
few_cells s ws = any_few (λ w. meets s w.0) ws (numbers_on (cells_on s))

pub few_jobs : (plan : Planned) (s : Scale) → plan.scale ≡ s → pairs s plan.writes ≤ 2 ^ 22 → length (planned_cells plan) ≤ 2 ^ 22
few_jobs plan s e few =
    let cells = few_cells s plan.writes in
    let same = planned_count plan s e in
    omega (arith, cells, same, few)

-- what putting them answers
pub put_done : (written : Written) (o now : Option Objects) (plan : Planned) (dataset : Name) (s : Scale) → plan.scale ≡ s
    → written.objects ≡ length (told_objects dataset (work_of plan) o) → written.cells ≡ length (planned_cells plan)
    → (KnowsLens (work_of plan) o → written.bytes ≡ joint_len (told_objects dataset (work_of plan) o)) → PutsJobs dataset (work_of plan) o now
    → IsPut o now (of_view dataset s plan.writes) (length (met_cells s plan.writes)) written
put_done written None now plan dataset s e objects cells bytes put = tt
put_done written (Some m) now plan dataset s e objects cells bytes put = record {
  put = put ∙ ap (λ xs. Some (put_in m xs)) (plan_objects plan m dataset s e);
  objects_are = objects ∙ ap length (plan_objects plan m dataset s e);
  cells_are = cells ∙ planned_count plan s e;
  bytes_are = bytes tt ∙ ap joint_len (plan_objects plan m dataset s e);
}

pub front_done : (o now : Option Objects) (plan : Planned) (dataset : Name) (s : Scale) → plan.scale ≡ s → PutsSome dataset (work_of plan) o now → IsFront o now (of_view dataset s plan.writes)
front_done None now plan dataset s e front = tt
front_done (Some m) now plan dataset s e front = subst (λ xs. PutsFront xs m now) (plan_objects plan m dataset s e) front

-- and so it is at each moment
pub plan_passed : (o : Option Objects) (plan : Planned) (dataset : Name) (s : Scale) (was now : List Objects) → plan.scale ≡ s → PassesFronts (job_objects dataset (work_of plan)) o was now
    → PassesFronts (λ m. of_view dataset s plan.writes) o was now
plan_passed o plan dataset s was now e =
    passes_weaker (λ x. PutsSome dataset (work_of plan) o (Some x)) (λ x. IsFront o (Some x) (of_view dataset s plan.writes)) (λ x h. front_done o (Some x) plan dataset s e h) was now

-- nothing was put
pub front_none : (o : Option Objects) (list : Listed) → IsFront o o list
front_none None list = tt
front_none (Some m) list = record { count = 0; within = omega arith; put = refl }
