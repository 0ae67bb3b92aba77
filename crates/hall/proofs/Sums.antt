-- Counts of stores and of entries that were cut, added up.
use Rattle.std.proofs.Common.{take, ◌≡◌, ◌<◌, ◌≤◌, ◌+◌, ℕ, List, [], ◌∷◌, ◌++◌, length, get_or, map, inl, inr, refl, sym, ap, ◌∙◌, subst, arith}
use Rattle.std.specs.Prelude.{Contains, sum}
use Rattle.std.proofs.lemmas.Bool.{cases_lt}
use Rattle.std.proofs.lemmas.List.{get_or_append_left, length-append, map-append, take_more}
use Rattle.std.proofs.lemmas.List.Sums.{sum_by-append}
use Rattle.vol_base.specs.Causes.{most_count}
use Rattle.hall.specs.declared.outcome.Outcome.{Outcome}
use Rattle.hall.specs.Halls.{NoneFell, Paid, PaidBy, cut_weight, owed}

pub owed-push : (outcomes : List Outcome) (outcome : Outcome) → owed (outcomes ++ outcome ∷ []) ≡ owed outcomes + cut_weight outcome
owed-push [] outcome = omega arith
owed-push (x ∷ xs) outcome = omega (arith, owed-push xs outcome)

pub owed-pop : {X : Type 0} (f : X → Outcome) (old new : List X) (x : X) → old ≡ new ++ x ∷ [] → owed (map f old) ≡ owed (map f new) + cut_weight (f x)
owed-pop f old new x is = ap (λ xs. owed (map f xs)) is ∙ ap owed (map-append f new (x ∷ [])) ∙ owed-push (map f new) (f x)

sum-push : (xs : List ℕ) (x : ℕ) → sum (xs ++ x ∷ []) ≡ sum xs + x
sum-push xs x = omega (arith, sum_by-append (λ (n : ℕ). n) xs (x ∷ []))

-- the element behind a list
pub get_at_end : {X : Type 0} (xs rest : List X) (x d : X) → get_or (xs ++ x ∷ rest) (length xs) d ≡ x
get_at_end [] rest x d = refl
get_at_end (y ∷ ys) rest x d = get_at_end ys rest x d

contains_more : (xs : List ℕ) (x y : ℕ) → Contains xs y → Contains (xs ++ x ∷ []) y
contains_more xs x y has = (has.0, omega (arith, has.1, length-append xs (x ∷ [])), get_or_append_left xs (x ∷ []) y has.0 has.1 ∙ has.2)

contains_last : (xs : List ℕ) (x y : ℕ) → x ≡ y → Contains (xs ++ x ∷ []) y
contains_last xs x y is = (length xs, omega (arith, length-append xs (x ∷ [])), get_at_end xs [] x y ∙ is)

-- one store more, with what it paid
pub paid_more : (before now : List ℕ) (b n k c : ℕ) → n ≤ most_count → PaidBy before now k → Paid b n c → PaidBy (before ++ b ∷ []) (now ++ n ∷ []) (k + c)
paid_more before now b n k c most (inl full) paid = inl (contains_more now n most_count full)
paid_more before now b n k c most (inr sums) (inl full) = inl (contains_last now n most_count (omega (arith, most, full)))
paid_more before now b n k c most (inr sums) (inr paid) = inr (omega (arith, sums, paid, sum-push before b, sum-push now n))

-- the same of the stores before a place
pub paid_step : (counts before now : List ℕ) (i n k c m : ℕ) → i < length counts → n ≤ most_count → PaidBy (take i counts) before k → Paid (get_or counts i 0) n c → now ≡ before ++ n ∷ [] → m ≡ k + c → PaidBy (take (i + 1) counts) now m
paid_step counts before now i n k c m below most old paid is sums =
    subst (λ s. PaidBy (take (i + 1) counts) now s) (sym sums)
    (subst (λ xs. PaidBy (take (i + 1) counts) xs (k + c)) (sym is)
    (subst (λ cs. PaidBy cs (before ++ n ∷ []) (k + c)) (sym (take_more counts i 0 below))
    (paid_more (take i counts) before (get_or counts i 0) n k c most old paid)))

-- the last store paid more
pub paid_last : (before now : List ℕ) (was n k c : ℕ) → n ≤ most_count → PaidBy before (now ++ was ∷ []) k → Paid was n c → PaidBy before (now ++ n ∷ []) (k + c)
paid_last before now was n k c most sums (inl full) = inl (contains_last now n most_count (omega (arith, most, full)))
paid_last before now was n k c most (inr sums) (inr paid) = inr (omega (arith, sums, paid, sum-push now was, sum-push now n))
paid_last before now was n k c most (inl has) (inr paid) = elim (cases_lt has.0 (length now)) [
  | inl below ↦ inl (contains_more now n most_count (has.0, below, sym (get_or_append_left now (was ∷ []) most_count has.0 below) ∙ has.2))
  | inr past ↦
      let at : has.0 ≡ length now = omega (arith, past, has.1, length-append now (was ∷ [])) in
      let full : was ≡ most_count = sym (get_at_end now [] was most_count) ∙ ap (λ j. get_or (now ++ was ∷ []) j most_count) (sym at) ∙ has.2 in
      inl (contains_last now n most_count (omega (arith, most, paid, full)))
]

-- one count more, which didn't fall
none_more : (before now : List ℕ) (b n : ℕ) → NoneFell before now → b ≤ n → NoneFell (before ++ b ∷ []) (now ++ n ∷ [])
none_more [] [] b n none le = (le, tt)
none_more [] (y ∷ ys) b n none le = absurd none
none_more (x ∷ xs) [] b n none le = absurd none
none_more (x ∷ xs) (y ∷ ys) b n none le = (none.0, none_more xs ys b n none.1 le)

-- the same of the stores before a place
pub none_step : (counts before now : List ℕ) (i n : ℕ) → i < length counts → NoneFell (take i counts) before → get_or counts i 0 ≤ n → now ≡ before ++ n ∷ [] → NoneFell (take (i + 1) counts) now
none_step counts before now i n below none le is =
    subst (NoneFell (take (i + 1) counts)) (sym is)
    (subst (λ cs. NoneFell cs (before ++ n ∷ [])) (sym (take_more counts i 0 below)) (none_more (take i counts) before (get_or counts i 0) n none le))

-- the last one rose further
pub none_last : (before now : List ℕ) (was n : ℕ) → NoneFell before (now ++ was ∷ []) → was ≤ n → NoneFell before (now ++ n ∷ [])
none_last [] [] was n none le = absurd none
none_last [] (y ∷ ys) was n none le = absurd none
none_last (x ∷ xs) [] was n none le = (omega (arith, none.0, le), none.1)
none_last (x ∷ xs) (y ∷ ys) was n none le = (none.0, none_last xs ys was n none.1 le)

-- counts that stand
pub none_stands : (counts : List ℕ) → NoneFell counts counts
none_stands [] = tt
none_stands (x ∷ xs) = (omega arith, none_stands xs)
