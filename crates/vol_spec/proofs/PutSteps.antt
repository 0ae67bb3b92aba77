-- Objects with some put in.
use Rattle.std.proofs.Common.{◌≡◌, ◌≢◌, ℕ, zero, suc, ◌<◌, List, [], ◌∷◌, ◌++◌, Bool, true, false, cond, ◌||◌, length, get_or, Some, None, Option, refl, ap, ◌∙◌, sym, subst, arith}
use Rattle.std.specs.Prelude.{All, AllPairs, Contains}
use Rattle.std.specs.Option.{is_some}
use Rattle.std.specs.List.{list_any}
use Rattle.std.specs.Str.{bytes_eq}
use Rattle.std.specs.FinMap as fin
use Rattle.std.specs.Ordering.{nat_cmp, eq_by_cmp}
use Rattle.std.specs.Cmp.Lexicographic.{slice_cmp, nat_list_cmp_total}
use Rattle.std.proofs.lemmas.Map.Text.{is_eq-slice_cmp}
use Rattle.std.proofs.lemmas.Slice.Eq.{bytes_eq-Decides}
use Rattle.std.proofs.lemmas.Bool.{or_parts}
use Rattle.std.proofs.lemmas.List.Elements.{All-head, All-tail}
use Rattle.vol_base.specs.Outside.{Objects, any_under, is_under}
use Rattle.vol_spec.specs.StoredCells.{put_in}

-- one object put in
same_name : (name : List ℕ) → eq_by_cmp (slice_cmp nat_cmp) name name ≡ true
same_name name = is_eq-slice_cmp name name ∙ (bytes_eq-Decides name name).1 refl

pub not_true_is : (b : Bool) → (b ≡ true → ⊥) → b ≡ false
not_true_is true h = absurd (h refl)
not_true_is false h = refl

other_name : (a b : List ℕ) → a ≢ b → eq_by_cmp (slice_cmp nat_cmp) a b ≡ false
other_name a b apart = is_eq-slice_cmp a b ∙ not_true_is (bytes_eq a b) (λ e. apart ((bytes_eq-Decides a b).0 e))

pub insert-same : (m : Objects) (name bytes : List ℕ) → fin.get (fin.insert m name bytes) name ≡ Some bytes
insert-same m name bytes = fin.get-insert nat_list_cmp_total m name bytes name ∙ ap (λ b. cond b (Some bytes) (fin.get m name)) (same_name name)

pub insert-other : (m : Objects) (name bytes other : List ℕ) → other ≢ name → fin.get (fin.insert m name bytes) other ≡ fin.get m other
insert-other m name bytes other apart = fin.get-insert nat_list_cmp_total m name bytes other ∙ ap (λ b. cond b (Some bytes) (fin.get m other)) (other_name other name apart)

-- one list after the other
pub put_in-append : (m : Objects) (xs ys : List (List ℕ × List ℕ)) → put_in m (xs ++ ys) ≡ put_in (put_in m xs) ys
put_in-append m [] ys = refl
put_in-append m (o ∷ xs) ys = put_in-append (fin.insert m o.0 o.1) xs ys

-- one object more,
pub put_in-push : (m : Objects) (xs : List (List ℕ × List ℕ)) (o : List ℕ × List ℕ) → put_in m (xs ++ o ∷ []) ≡ fin.insert (put_in m xs) o.0 o.1
put_in-push m xs o = put_in-append m xs (o ∷ [])

-- objects of other names are as before,
pub put_in-other : (m : Objects) (list : List (List ℕ × List ℕ)) (name : List ℕ) → All (λ o. o.0 ≢ name) list → fin.get (put_in m list) name ≡ fin.get m name
put_in-other m [] name apart = refl
put_in-other m (o ∷ rest) name apart =
    put_in-other (fin.insert m o.0 o.1) rest name (All-tail (λ o. o.0 ≢ name) o rest apart)
    ∙ insert-other m o.0 o.1 name (λ e. All-head (λ o. o.0 ≢ name) o rest apart (sym e))

-- and where no name stands twice, each name has its bytes
abbrev pub AreApart : List (List ℕ × List ℕ) → Type 0
AreApart list = AllPairs (λ a b. a.0 ≢ b.0) list

pub put_in-at : (m : Objects) (list : List (List ℕ × List ℕ)) (i : ℕ) (d : List ℕ × List ℕ) → AreApart list → i < length list
    → fin.get (put_in m list) (get_or list i d).0 ≡ Some (get_or list i d).1
put_in-at m [] i d apart h = absurd (omega arith)
put_in-at m (o ∷ rest) zero d apart h =
    put_in-other (fin.insert m o.0 o.1) rest o.0 (λ k e l same. apart 0 (suc k) e (omega arith) (omega arith) (sym same))
    ∙ insert-same m o.0 o.1
put_in-at m (o ∷ rest) (suc i) d apart h =
    put_in-at (fin.insert m o.0 o.1) rest i d (λ j k e l n. apart (suc j) (suc k) e (omega arith) (omega arith)) (omega arith)

pub put_in-Contains : (m : Objects) (list : List (List ℕ × List ℕ)) (o : List ℕ × List ℕ) → AreApart list → Contains list o → fin.get (put_in m list) o.0 ≡ Some o.1
put_in-Contains m list o apart (k, l, e) = subst (λ x. fin.get (put_in m list) x.0 ≡ Some x.1) e (put_in-at m list k o apart l)

-- no object is under a folder
none_equal : (test : List ℕ → Bool) (keys : List (List ℕ)) (name : List ℕ) → list_any test keys ≡ false → test name ≡ true → list_any (eq_by_cmp (slice_cmp nat_cmp) name) keys ≡ false
none_equal test [] name none passes = refl
none_equal test (key ∷ keys) name none passes =
    let parts = or_parts (test key) (list_any test keys) none in
    let fails : test key ≡ false = parts.0 in
    let apart : eq_by_cmp (slice_cmp nat_cmp) name key ≡ false = other_name name key (λ e. let same : test name ≡ test key = ap test e in cc) in
    ap (λ b. b || list_any (eq_by_cmp (slice_cmp nat_cmp) name) keys) apart ∙ none_equal test keys name parts.1 passes

nothing_there : (o : Option (List ℕ)) → is_some o ≡ false → o ≡ None
nothing_there None e = refl
nothing_there (Some bytes) e = absurd (cc e)

pub get-none_under : (m : Objects) (folder name : List ℕ) → any_under m folder ≡ false → is_under folder name ≡ true → fin.get m name ≡ None
get-none_under m folder name none under =
    nothing_there (fin.get m name) (fin.contains_key-keys m name ∙ none_equal (is_under folder) (fin.keys m) name none under)
