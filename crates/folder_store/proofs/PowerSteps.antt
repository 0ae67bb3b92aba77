-- What a loss of power leaves, of what is kept.
use Rattle.std.proofs.Common.{◌≡◌, ℕ, List, [], ◌∷◌, ◌++◌, Bool, true, false, cond, Option, Some, None, IsSome, IfSome, refl, ap, sym, subst, ◌∙◌, inl, inr}
use Rattle.std.specs.Option.{option_map, unwrap_or}
use Rattle.std.specs.List.{AllByRecursion}
use Rattle.std.specs.FinMap as map
use Rattle.vol_base.specs.Outside.{Objects}
use Rattle.folder_store.specs.Below.{Among}
use Rattle.folder_store.specs.Disks.{Disk, Moment, file_at, is_object, IsApart, IsSettled}
use Rattle.folder_store.specs.ObjectBytes.{get_object}
use Rattle.folder_store.specs.Power.{is_kept, KeepsKept, Lasts, LeavesAt, IsAsAt, Survives}
use Rattle.folder_store.specs.Shown.{IsDraft}
use Rattle.folder_store.proofs.DraftSteps.{no_object}
use Rattle.folder_store.proofs.ObjectSteps.{other_path}

-- a file that is kept
kept_file : (o : Option ℕ) (kept : ℕ → Bool) → unwrap_or (option_map kept o) false ≡ true → (number : ℕ) × (o ≡ Some number) × (kept number ≡ true)
kept_file None kept h = absurd (cc)
kept_file (Some n) kept h = (n, refl, h)

pub is_kept_by : (m : Moment) (path : List ℕ) (number : ℕ) → file_at m.disk path ≡ Some number → m.kept number ≡ true → is_kept m path ≡ true
is_kept_by m path number e h = ap (λ o. unwrap_or (option_map m.kept o) false) e ∙ h

pub file_kept : (m : Moment) (path : List ℕ) → is_kept m path ≡ true → (number : ℕ) × (file_at m.disk path ≡ Some number) × (m.kept number ≡ true)
file_kept m path h = kept_file (file_at m.disk path) m.kept h

-- what is left of a path that is kept at each moment
as_it_was : (left : Objects) (path : List ℕ) (m : Moment) → is_object path ≡ true → is_kept m path ≡ true → LeavesAt m path (map.get left path) → IsAsAt left path m
as_it_was left path m is kept h =
    let there = file_kept m path kept in
    let bytes : map.get left path ≡ Some (m.disk.holds there.0) = h.bytes kept ∙ ap (option_map m.disk.holds) there.1 in
    record {
      stands = subst IsSome (sym bytes) refl;
      as_it_was = h.bytes kept ∙ sym (get_object m.disk path ∙ ap (λ b. cond b (option_map m.disk.holds (file_at m.disk path)) None) is);
    }

one_of : (left : Objects) (path : List ℕ) (ms : List Moment) → is_object path ≡ true → AllByRecursion (λ m. is_kept m path ≡ true) ms → Among (λ m. LeavesAt m path (map.get left path)) ms → Among (IsAsAt left path) ms
one_of left path [] is kept h = h
one_of left path (m ∷ ms) is kept (inl h) = inl (as_it_was left path m is kept.0 h)
one_of left path (m ∷ ms) is kept (inr h) = inr (one_of left path ms is kept.1 h)

all_kept : (m : Moment) (path : List ℕ) (after later : List Moment) → is_object path ≡ true → is_kept m path ≡ true → AllByRecursion (KeepsKept m) (after ++ later) → AllByRecursion (λ x. is_kept x path ≡ true) after
all_kept m path [] later is kept h = tt
all_kept m path (x ∷ after) later is kept h = (h.0 path is kept, all_kept m path after later is kept h.1)

lasts_behind : (before rest : List Moment) → Lasts (before ++ rest) → Lasts rest
lasts_behind [] rest h = h
lasts_behind (m ∷ before) rest h = lasts_behind before rest h.1

pub survives : (moments : List Moment) → Lasts moments → Survives moments
survives moments h before after later m left e may path is kept =
    let rest : Lasts (m ∷ (after ++ later)) = lasts_behind before (m ∷ (after ++ later)) (subst Lasts e h) in
    one_of left path (m ∷ after) is (kept, all_kept m path after later is kept rest.0) (may path is)

-- a draft's file is no object's
apart : (d : Disk) (name path : List ℕ) (number len : ℕ) → IsDraft d name path number len → IsApart d number
apart d name path number len draft other is e = other_path other path is (no_object d name path number len draft) (draft.alone other e)

pub apart_told : (disk : Option Disk) (name path : List ℕ) (number len : ℕ) → IfSome disk (λ d. IsDraft d name path number len) → IfSome disk (λ d. IsApart d number)
apart_told None name path number len h = tt
apart_told (Some d) name path number len h = apart d name path number len h

-- a draft that is settled
settled : (d : Disk) (kept : ℕ → Bool) (name path : List ℕ) (number len : ℕ) → IsDraft d name path number len → (IsSome (file_at d name) → kept number ≡ true) → IsSettled d kept path name
settled d kept name path number len draft h there = subst (λ o. IfSome o (λ n. kept n ≡ true)) (sym draft.stands) (h there)

pub settled_told : (old disk : Option Disk) (kept : ℕ → Bool) (name path : List ℕ) (number len : ℕ) → disk ≡ old → IfSome old (λ d. IsDraft d name path number len) → IfSome disk (λ d. IsSome (file_at d name) → kept number ≡ true) → IfSome disk (λ d. IsSettled d kept path name)
settled_told None disk kept name path number len e draft h = subst (λ o. IfSome o (λ d. IsSettled d kept path name)) (sym e) tt
settled_told (Some d) disk kept name path number len e draft h =
    subst (λ o. IfSome o (λ x. IsSettled x kept path name)) (sym e) (settled d kept name path number len draft (subst (λ o. IfSome o (λ x. IsSome (file_at x name) → kept number ≡ true)) e h))

-- where no object stands
not_some : IsSome {T = ℕ} None → ⊥
not_some h = cc

pub free_told : (disk : Option Disk) (path : List ℕ) (A : Type 0) → IfSome disk (λ d. file_at d path ≡ None) → IfSome disk (λ d. IsSome (file_at d path) → A)
free_told None path A h = tt
free_told (Some d) path A h = λ there. absurd (not_some (subst IsSome h there))
