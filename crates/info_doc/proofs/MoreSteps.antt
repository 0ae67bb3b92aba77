-- The chunk sizes behind the first one, and tests of chunk sizes one by one.
use Rattle.std.proofs.Common.{◌≡◌, ℕ, ◌+◌, ◌<◌, ◌≤◌, ◌++◌, ◌||◌, Bool, true, false, List, [], ◌∷◌, drop, get_or, length, map, take, Some, refl, ap, ◌∙◌, sym, arith}
use Rattle.std.specs.List.{list_any}
use Rattle.std.specs.Prelude.{slice_get}
use Rattle.std.proofs.lemmas.List.{drop-append-le, length-take, map-append, take_all, take_more}
use Rattle.std.proofs.lemmas.List.Folds.{list_any-append}
use Rattle.serde_json.specs.Data.{Data}
use Rattle.serde_json.specs.View.{view}
use Rattle.serde_json.specs.declared.value.Value.{Value}
use Rattle.info_doc.specs.Steps.{sizes_in}

-- those up to a place
abbrev pub more_of : List Value → List (List ℕ)
more_of vs = map (λ v. sizes_in (Some (view v))) (drop 1 vs)

pub more_next : (vs : List Value) (at : ℕ) (v : Value) → 1 ≤ at → at < length vs → get_or vs at v ≡ v → more_of (take (at + 1) vs) ≡ more_of (take at vs) ++ sizes_in (Some (view v)) ∷ []
more_next vs at v some l is =
    ap more_of (take_more vs at v l ∙ ap (λ y. take at vs ++ y ∷ []) is)
    ∙ ap (map (λ v. sizes_in (Some (view v)))) (drop-append-le 1 (take at vs) (v ∷ []) (let n = length-take at vs in omega (arith, n)))
    ∙ map-append (λ v. sizes_in (Some (view v))) (drop 1 (take at vs)) (v ∷ [])

of_data : (vs : List Value) → map (λ v. sizes_in (Some (view v))) vs ≡ map (λ d. sizes_in (Some d)) (map view vs)
of_data [] = refl
of_data (v ∷ vs) = ap (λ rest. sizes_in (Some (view v)) ∷ rest) (of_data vs)

-- all of them
pub more_all : (vs : List Value) (at : ℕ) → length vs ≤ at → more_of (take at vs) ≡ map (λ d. sizes_in (Some d)) (drop 1 (map view vs))
more_all vs at l = ap more_of (take_all at vs l) ∙ by vs
  where
    by : (vs : List Value) → more_of vs ≡ map (λ d. sizes_in (Some d)) (drop 1 (map view vs))
    by [] = refl
    by (v ∷ vs) = of_data vs

-- a test that failed up to a place, and there
neither_one : (a b : Bool) → a ≡ false → b ≡ false → (a || (b || false)) ≡ false
neither_one false false e f = refl
neither_one true b e f = cc e
neither_one false true e f = cc f

pub none_next : {X : Type 0} (test : X → Bool) (xs : List X) (at : ℕ) (d : X) → at < length xs → list_any test (take at xs) ≡ false → test (get_or xs at d) ≡ false → list_any test (take (at + 1) xs) ≡ false
none_next test xs at d l none here =
    ap (list_any test) (take_more xs at d l) ∙ list_any-append test (take at xs) (get_or xs at d ∷ [])
    ∙ neither_one (list_any test (take at xs)) (test (get_or xs at d)) none here

pub none_all : {X : Type 0} (test : X → Bool) (xs : List X) (at : ℕ) → length xs ≤ at → list_any test (take at xs) ≡ false → list_any test xs ≡ false
none_all test xs at l none = ap (list_any test) (sym (take_all at xs l)) ∙ none

-- the first one
pub first_of : (vs : List Value) (v : Value) → 0 < length vs → v ≡ get_or vs 0 v → sizes_in (Some (view v)) ≡ sizes_in (slice_get (map view vs) 0)
first_of [] v some is = absurd (omega arith)
first_of (x ∷ vs) v some is = ap (λ y. sizes_in (Some (view y))) is
