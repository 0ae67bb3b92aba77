-- The first of a range that passes.
use Rattle.std.proofs.Common.{◌≡◌, ◌⊎◌, inl, inr, ⊎_elim, refl, ap, ◌∙◌, sym, subst, arith}
use Rattle.std.proofs.Common.{ℕ, zero, suc, ◌+◌, ◌<◌, ◌≤◌, List, ◌∷◌, Bool, true, false, IsTrue, Some, None}
use Rattle.std.specs.Prelude.{find}
use Rattle.std.specs.List.{range_with_len}
use Rattle.std.proofs.lemmas.Bool.{cases_eq}

find_here : (p : ℕ → Bool) (a : ℕ) (rest : List ℕ) → IsTrue (p a) → find p (a ∷ rest) ≡ Some a
find_here p a rest h = rw h refl

find_next : (p : ℕ → Bool) (a : ℕ) (rest : List ℕ) → p a ≡ false → find p (a ∷ rest) ≡ find p rest
find_next p a rest h = rw h refl

pub either : (b : Bool) → (b ≡ true) ⊎ (b ≡ false)
either true = inl refl
either false = inr refl

pub first_passes : (p : ℕ → Bool) (a n j : ℕ) → a ≤ j → j < a + n → IsTrue (p j)
    → ((i : ℕ) → a ≤ i → i < j → IsTrue (p i) → ⊥) → find p (range_with_len a n) ≡ Some j
first_passes p a zero j la lj here before = absurd (omega arith)
first_passes p a (suc n) j la lj here before = elim (cases_eq a j) [
  | inl e ↦ find_here p a (range_with_len (a + 1) n) (subst (λ k. IsTrue (p k)) (sym e) here) ∙ ap Some e
  | inr d ↦ ⊎_elim
      (λ (t : p a ≡ true). absurd (before a (omega arith) (omega arith) t))
      (λ (f : p a ≡ false).
      let rest = first_passes p (a + 1) n j (omega arith) (omega arith) here (λ i l h. before i (omega arith) h) in
      find_next p a (range_with_len (a + 1) n) f ∙ rest)
      (either (p a))
]

pub none_passes : (p : ℕ → Bool) (a n : ℕ) → ((i : ℕ) → a ≤ i → i < a + n → IsTrue (p i) → ⊥)
    → find p (range_with_len a n) ≡ None
none_passes p a zero none = refl
none_passes p a (suc n) none = ⊎_elim
    (λ (t : p a ≡ true). absurd (none a (omega arith) (omega arith) t))
    (λ (f : p a ≡ false).
    let rest = none_passes p (a + 1) n (λ i l h. none i (omega arith) (omega arith)) in
    find_next p a (range_with_len (a + 1) n) f ∙ rest)
    (either (p a))

-- place j is the first of a range that passes; none does
pub record IsFound (p : ℕ → Bool) (a n j : ℕ) : Type 0 where
  pub is : find p (range_with_len a n) ≡ Some j
  pub above : a ≤ j
  pub below : j < a + n
  pub passes : IsTrue (p j)
  pub before : (i : ℕ) → a ≤ i → i < j → IsTrue (p i) → ⊥

pub record IsMissed (p : ℕ → Bool) (a n : ℕ) : Type 0 where
  pub is : find p (range_with_len a n) ≡ None
  pub none : (i : ℕ) → a ≤ i → i < a + n → IsTrue (p i) → ⊥

false_is : (b : Bool) → IsTrue b → b ≡ false → ⊥
false_is true h e = cc
false_is false h e = cc

pub found : (p : ℕ → Bool) (a n : ℕ) → ((j : ℕ) × IsFound p a n j) ⊎ IsMissed p a n
found p a zero = inr (record { is = refl; none = λ i la li h. absurd (omega arith) })
found p a (suc n) = ⊎_elim
    (λ (t : p a ≡ true).
    inl (
      a,
      record {
        is = find_here p a (range_with_len (a + 1) n) t;
        above = omega arith;
        below = omega arith;
        passes = t;
        before = λ i la li h. absurd (omega arith);
      },
    ))
    (λ (f : p a ≡ false).
    let skip = find_next p a (range_with_len (a + 1) n) f in
    let further : (i : ℕ) → a ≤ i → IsTrue (p i) → a + 1 ≤ i = λ i la h. ⊎_elim
    (λ (e : i ≡ a). absurd (false_is (p i) h (ap p e ∙ f)))
    (λ (d : i ≡ a → ⊥). omega arith)
    (cases_eq i a) in
    ⊎_elim
    (λ (t : (j : ℕ) × IsFound p (a + 1) n j).
    inl (
      t.0,
      record {
        is = skip ∙ t.1.is;
        above = omega (arith, t.1.above);
        below = omega (arith, t.1.below);
        passes = t.1.passes;
        before = λ i la li h. t.1.before i (further i la h) li h;
      },
    ))
    (λ (m : IsMissed p (a + 1) n).
    inr (record { is = skip ∙ m.is; none = λ i la li h. m.none i (further i la h) (omega arith) h }))
    (found p (a + 1) n))
    (either (p a))
