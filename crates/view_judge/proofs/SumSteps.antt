-- Sums and first ones over a list that is walked over.
use Rattle.std.proofs.Common.{◌≡◌, ℕ, zero, suc, ◌+◌, ◌<◌, ◌≤◌, List, [], ◌∷◌, ◌++◌, map, Option, Some, None, refl, ap, ◌∙◌, sym, arith}
use Rattle.std.specs.List.{range_with_len, sum_by}
use Rattle.std.proofs.lemmas.List.{map-append}
use Rattle.std.proofs.lemmas.List.Sums.{sum_by-append, sum_by-cons}
use Rattle.vol_spec.proofs.Firsts.{first_some-append}
use Rattle.vol_spec.specs.BoxValues.{first_some}

module _ {X : Type 0} (f : X → ℕ) where
  -- some of a list come to no more than all,
  pub sum_front : (done left all : List X) → done ++ left ≡ all → sum_by f done ≤ sum_by f all
  sum_front done left all is =
      let parts : sum_by f all ≡ sum_by f done + sum_by f left = ap (sum_by f) (sym is) ∙ sum_by-append f done left in
      omega (arith, parts)

  -- with the next one too
  pub sum_next : (done left rest all : List X) (x : X) → left ≡ x ∷ rest → done ++ left ≡ all → sum_by f done + f x ≤ sum_by f all
  sum_next done left rest all x e is =
      let parts : sum_by f all ≡ sum_by f done + sum_by f (x ∷ rest) = ap (sum_by f) (sym is ∙ ap (λ r. done ++ r) e) ∙ sum_by-append f done (x ∷ rest) in
      let next = sum_by-cons f x rest in
      omega (arith, parts, next)

module _ {X A : Type 0} (f : X → Option A) where
  first_one : (o : Option A) → first_some (o ∷ []) ≡ o
  first_one None = refl
  first_one (Some a) = refl

  pub none_more : (done : List X) (x : X) → first_some (map f done) ≡ None → f x ≡ None → first_some (map f (done ++ x ∷ [])) ≡ None
  none_more done x none here =
      ap first_some (map-append f done (x ∷ [])) ∙ first_some-append (map f done) (f x ∷ []) none ∙ first_one (f x) ∙ here

  pub some_next : (done left rest all : List X) (x : X) (a : A) → left ≡ x ∷ rest → done ++ left ≡ all → first_some (map f done) ≡ None → f x ≡ Some a → first_some (map f all) ≡ Some a
  some_next done left rest all x a e is none here =
      ap (λ xs. first_some (map f xs)) (sym is ∙ ap (λ r. done ++ r) e)
      ∙ ap first_some (map-append f done (x ∷ rest))
      ∙ first_some-append (map f done) (f x ∷ map f rest) none
      ∙ ap (λ o. first_some (o ∷ map f rest)) here

-- where there is no first one, there is none
pub first_two : {A : Type 0} (o : Option A) (rest : List (Option A)) → first_some (o ∷ rest) ≡ None → (o ≡ None) × (first_some rest ≡ None)
first_two None rest e = (refl, e)
first_two (Some a) rest e = absurd (cc e)

-- the first of numbers
module _ {A : Type 0} (f : ℕ → Option A) where
  from_first : (count n from : ℕ) (a : A) → n < count → ((i : ℕ) → i < n → f (from + i) ≡ None) → f (from + n) ≡ Some a → first_some (map f (range_with_len from count)) ≡ Some a
  from_first zero n from a l none here = absurd (omega arith)
  from_first (suc count) zero from a l none here =
      let none_more : from ≡ from + 0 = omega arith in
      ap (λ o. first_some (o ∷ map f (range_with_len (from + 1) count))) (ap f none_more ∙ here)
  from_first (suc count) (suc n) from a l none here =
      let none_yet : f from ≡ None = ap f (let e : from ≡ from + 0 = omega arith in e) ∙ none 0 (omega arith) in
      ap (λ o. first_some (o ∷ map f (range_with_len (from + 1) count))) none_yet
      ∙ from_first count n (from + 1) a (omega arith)
      (λ i h. ap f (let e : from + 1 + i ≡ from + (i + 1) = omega arith in e) ∙ none (i + 1) (omega arith))
      (ap f (let e : from + 1 + n ≡ from + suc n = omega arith in e) ∙ here)

  pub first_number : (count n : ℕ) (a : A) → n < count → ((i : ℕ) → i < n → f i ≡ None) → f n ≡ Some a → first_some (map f (range_with_len 0 count)) ≡ Some a
  first_number count n a l none here =
      from_first count n 0 a l (λ i h. ap f (let e : 0 + i ≡ i = omega arith in e) ∙ none i h) (ap f (let e : 0 + n ≡ n = omega arith in e) ∙ here)

  pub no_number : (count : ℕ) → ((i : ℕ) → i < count → f i ≡ None) → first_some (map f (range_with_len 0 count)) ≡ None
  no_number count none = from_none count 0 (λ i h. ap f (let e : 0 + i ≡ i = omega arith in e) ∙ none i h)
    where
      from_none : (count from : ℕ) → ((i : ℕ) → i < count → f (from + i) ≡ None) → first_some (map f (range_with_len from count)) ≡ None
      from_none zero from none = refl
      from_none (suc count) from none =
          let none_yet : f from ≡ None = ap f (let e : from ≡ from + 0 = omega arith in e) ∙ none 0 (omega arith) in
          ap (λ o. first_some (o ∷ map f (range_with_len (from + 1) count))) none_yet
          ∙ from_none count (from + 1) (λ i h. ap f (let e : from + 1 + i ≡ from + (i + 1) = omega arith in e) ∙ none (i + 1) (omega arith))

  pub none_at : (count n : ℕ) → first_some (map f (range_with_len 0 count)) ≡ None → n < count → f n ≡ None
  none_at count n none l = ap f (let e : n ≡ 0 + n = omega arith in e) ∙ none_from count n 0 none l
    where
      none_from : (count n from : ℕ) → first_some (map f (range_with_len from count)) ≡ None → n < count → f (from + n) ≡ None
      none_from zero n from none l = absurd (omega arith)
      none_from (suc count) zero from none l =
          ap f (let e : from + 0 ≡ from = omega arith in e) ∙ (first_two (f from) (map f (range_with_len (from + 1) count)) none).0
      none_from (suc count) (suc n) from none l =
          ap f (let e : from + suc n ≡ from + 1 + n = omega arith in e)
          ∙ none_from count n (from + 1) (first_two (f from) (map f (range_with_len (from + 1) count)) none).1 (omega arith)
