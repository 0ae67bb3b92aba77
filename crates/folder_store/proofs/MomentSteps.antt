-- Moments that pass, call by call.
use Rattle.std.proofs.Common.{◌≡◌, ℕ, List, [], ◌∷◌, ◌++◌, map as map_list, Option, Some, None, IfSome, refl, ap, sym, subst, ◌∙◌}
use Rattle.std.proofs.lemmas.List.{map-append}
use Rattle.std.specs.Option.{option_map}
use Rattle.std.specs.List.{AllByRecursion}
use Rattle.vol_base.proofs.Moments.{passes_none, passes_twice, passes_weaker}
use Rattle.vol_base.specs.Outside.{Passes, Turns}
use Rattle.folder_store.specs.Disks.{Disk, Moment, with_bytes, written, objects_of, objects_at, Stands, Touches}
use Rattle.folder_store.specs.Shown.{IsDraft, SparesTold, Keeps, TurnsAt}
use Rattle.folder_store.proofs.ObjectSteps.{spares_twice, spares_told}
use Rattle.folder_store.proofs.ToldSteps.{same_spares, written_spares}
use Rattle.folder_store.proofs.WriteSteps.{with_twice}

all_mapped : {X Y : Type 0} (P : X → Type 0) (Q : Y → Type 0) (f : X → Y) → ((x : X) → P x → Q (f x)) → (xs : List X) → AllByRecursion P xs → AllByRecursion Q (map_list f xs)
all_mapped P Q f t [] h = tt
all_mapped P Q f t (x ∷ xs) h = (t x h.0, all_mapped P Q f t xs h.1)

pub passes_mapped : {X Y : Type 0} (P : X → Type 0) (Q : Y → Type 0) (f : X → Y) → ((x : X) → P x → Q (f x)) → (a b : List X) → Passes P a b → Passes Q (map_list f a) (map_list f b)
passes_mapped P Q f t a b h = record {
  gained = map_list f h.gained;
  is = ap (map_list f) h.is ∙ map-append f a h.gained;
  each = all_mapped P Q f t h.gained h.each;
}

-- a call that changes nothing
pub keeps_same : (old new : Option Disk) (was now : List Moment) → new ≡ old → now ≡ was → Keeps old new was now
keeps_same old new was now e f = record { spares = same_spares old new e; passed = passes_none _ was now f }

-- a call that changes the disk at one moment
pub keeps_at_once : (old new : Option Disk) (was now : List Moment) → SparesTold old new → Passes (Stands new) was now → Keeps old new was now
keeps_at_once old new was now s h = record {
  spares = s;
  passed = passes_weaker (Stands new) (λ m. SparesTold old (Some m.disk)) (λ m e. subst (SparesTold old) e s) was now h;
}

-- one call after the other
pub keeps_joined : (a b c : Option Disk) (u v w : List Moment) → Keeps a b u v → Keeps b c v w → Keeps a c u w
keeps_joined a b c u v w h k = record {
  spares = spares_twice a b c h.spares k.spares;
  passed = passes_twice _ u v w h.passed (passes_weaker (λ m. SparesTold b (Some m.disk)) (λ m. SparesTold a (Some m.disk)) (λ m s. spares_twice a b (Some m.disk) h.spares s) v w k.passed);
}

-- a write into a draft's file
pub keeps_written : (old new : Option Disk) (was now : List Moment) (name path : List ℕ) (number k len : ℕ) → k ≡ number → IfSome old (λ d. IsDraft d name path number len) → ((bytes : List ℕ) × (new ≡ option_map (λ d. with_bytes d k bytes) old)) → Passes (Touches old k) was now → Keeps old new was now
keeps_written old new was now name path number k len same draft h p = record {
  spares = written_spares old new name path number k len same draft h;
  passed = passes_weaker (Touches old k) (λ m. SparesTold old (Some m.disk)) (λ m t. written_spares old (Some m.disk) name path number k len same draft (t.0, sym t.1)) was now p;
}

-- a write into a file that others came before
touches_after : (o p : Option Disk) (k at : ℕ) (piece : List ℕ) (m : Moment) → p ≡ option_map (λ x. written x k at piece) o → Touches p k m → Touches o k m
touches_after None p k at piece m e t = (t.0, sym (ap (option_map (λ x. with_bytes x k t.0)) e) ∙ t.1)
touches_after (Some x) p k at piece m e t = (t.0, ap Some (sym (with_twice x k _ t.0)) ∙ sym (ap (option_map (λ y. with_bytes y k t.0)) e) ∙ t.1)

pub passes_after : (o p : Option Disk) (u v w : List Moment) (k m at : ℕ) (piece : List ℕ) → m ≡ k → p ≡ option_map (λ x. written x k at piece) o → Passes (Touches o k) u v → Passes (Touches p m) v w → Passes (Touches o k) u w
passes_after o p u v w k m at piece same e h t =
    passes_twice (Touches o k) u v w h (passes_weaker (Touches p m) (Touches o k) (λ d x. touches_after o p k at piece d e (subst (λ n. Touches p n d) same x)) v w t)

-- what the objects were at each moment
pub turns_kept : (old new : Option Disk) (was now : List Moment) → Keeps old new was now → Turns (option_map objects_of old) (option_map objects_of new) (map_list objects_at was) (map_list objects_at now)
turns_kept old new was now h = record {
  turn = map_list objects_at now;
  steady = passes_mapped (λ m. SparesTold old (Some m.disk)) (λ o. option_map objects_of old ≡ Some o) objects_at (λ m s. sym (spares_told old (Some m.disk) s)) was now h.passed;
  turned = passes_none _ _ _ refl;
}

pub turns_at : (old new : Option Disk) (was now : List Moment) → TurnsAt old new was now → Turns (option_map objects_of old) (option_map objects_of new) (map_list objects_at was) (map_list objects_at now)
turns_at old new was now h = record {
  turn = map_list objects_at h.turn;
  steady = passes_mapped (Stands old) (λ o. option_map objects_of old ≡ Some o) objects_at (λ m e. ap (option_map objects_of) e) was h.turn h.steady;
  turned = passes_mapped (Stands new) (λ o. option_map objects_of new ≡ Some o) objects_at (λ m e. ap (option_map objects_of) e) h.turn now h.turned;
}

-- a call that leaves the files as they are
pub keeps_steady : (old new : Option Disk) (was now : List Moment) → new ≡ old → Passes (Stands old) was now → Keeps old new was now
keeps_steady old new was now e h = keeps_at_once old new was now (same_spares old new e) (subst (λ o. Passes (Stands o) was now) (sym e) h)

-- and one that then changes them
pub turns_after : (old mid new : Option Disk) (was turn now : List Moment) → mid ≡ old → Passes (Stands old) was turn → Passes (Stands new) turn now → TurnsAt old new was now
turns_after old mid new was turn now e h k = record { turn = turn; steady = h; turned = k }
