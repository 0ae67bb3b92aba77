-- The parts of two texts with `/` between.
use Rattle.std.proofs.Common.{◌≡◌, ℕ, ◌+◌, ◌<◌, ◌≤◌, ◌++◌, List, [], ◌∷◌, Bool, true, false, cond, ◌==◌, IsTrue, length, arith, refl, ap, ◌∙◌}
use Rattle.std.specs.List.{slice_split, onto_first}
use Rattle.std.proofs.lemmas.List.Folds.{list_all-append}
use Rattle.std.proofs.lemmas.List.Splits.{length-slice_split}
use Rattle.std.proofs.lemmas.Grind.{common_steps}
use Rattle.vol_base.specs.Names.{is_name, is_segment}

onto_first-append : (x : ℕ) (ps qs : List (List ℕ)) → 0 < length ps → onto_first x (ps ++ qs) ≡ onto_first x ps ++ qs
onto_first-append x [] qs h = absurd (omega arith)
onto_first-append x (p ∷ ps) qs h = refl

pub slice_split-append : (p : ℕ → Bool) (xs ys : List ℕ) (y : ℕ) → p y ≡ true → slice_split p (xs ++ y ∷ ys) ≡ slice_split p xs ++ slice_split p ys
slice_split-append p [] ys y e = rw e refl
slice_split-append p (x ∷ xs) ys y e =
    let same = slice_split-append p xs ys y e in
    let some : 0 < length (slice_split p xs) = omega (arith, length-slice_split p xs) in
    elim (p x) as (λ b. cond b ([] ∷ slice_split p (xs ++ y ∷ ys)) (onto_first x (slice_split p (xs ++ y ∷ ys))) ≡ cond b ([] ∷ slice_split p xs) (onto_first x (slice_split p xs)) ++ slice_split p ys) [
      | true ↦ ap (λ ps. [] ∷ ps) same
      | false ↦ ap (onto_first x) same ∙ onto_first-append x _ _ some
    ]

pub is_name-joined : (a b : List ℕ) → IsTrue (is_name a) → IsTrue (is_name b) → length a + 1 + length b ≤ 512 → IsTrue (is_name (a ++ 47 ∷ b))
is_name-joined a b h k l =
    let parts = slice_split-append (λ c. c == 47) a b 47 refl in
    let all = list_all-append is_segment (slice_split (λ c. c == 47) a) (slice_split (λ c. c == 47) b) in
    grind (arith, common_steps, parts, all)
