-- Positions whose values stand there for the first time.
use Rattle.std.proofs.Common.{◌≡◌, ◌⊎◌, inl, inr, ⊎_elim, refl, ap, ◌∙◌, sym, arith}
use Rattle.std.proofs.Common.{ℕ, ◌+◌, ◌<◌, ◌≤◌, ◌==◌, ◌&&◌, Bool, true, false, IsTrue, List, slice_index, Some, None}
use Rattle.std.proofs.lemmas.Bool.Decides.{nat_tests}
use Rattle.equal_values.specs.Earlier.{coded, earlier}
use Rattle.equal_values.specs.Members.{group_at, is_first, is_member}
use Rattle.equal_values.proofs.Ranges.{IsFound, IsMissed, first_passes, found, none_passes}

pub eq_is : (a b : ℕ) → IsTrue (a == b) → a ≡ b
eq_is a b h = grind (arith, nat_tests)

pub is_eq : (a b : ℕ) → a ≡ b → IsTrue (a == b)
is_eq a b h = grind (arith, nat_tests)

abbrev equals : List ℕ → ℕ → ℕ → Bool
equals xs k j = slice_index xs j == slice_index xs k

-- place j is the first before k with an equal value; there is none
pub record IsEarlier (xs : List ℕ) (k j : ℕ) : Type 0 where
  pub is : earlier xs k ≡ Some j
  pub below : j < k
  pub equal : slice_index xs j ≡ slice_index xs k
  pub before : (i : ℕ) → i < j → slice_index xs i ≡ slice_index xs k → ⊥

pub record IsNew (xs : List ℕ) (k : ℕ) : Type 0 where
  pub is : earlier xs k ≡ None
  pub none : (i : ℕ) → i < k → slice_index xs i ≡ slice_index xs k → ⊥

pub earlier_or_new : (xs : List ℕ) (k : ℕ) → ((j : ℕ) × IsEarlier xs k j) ⊎ IsNew xs k
unfolding earlier
earlier_or_new xs k = ⊎_elim
    (λ (t : (j : ℕ) × IsFound (equals xs k) 0 k j).
    inl (
      t.0,
      record {
        is = t.1.is;
        below = omega (arith, t.1.below);
        equal = eq_is _ _ t.1.passes;
        before = λ i l e. t.1.before i (omega arith) l (is_eq _ _ e);
      },
    ))
    (λ (m : IsMissed (equals xs k) 0 k).
    inr (record { is = m.is; none = λ i l e. m.none i (omega arith) (omega (arith, l)) (is_eq _ _ e) }))
    (found (equals xs k) 0 k)

pub earlier_is : (xs : List ℕ) (k j : ℕ) → j < k → slice_index xs j ≡ slice_index xs k
    → ((i : ℕ) → i < j → slice_index xs i ≡ slice_index xs k → ⊥) → earlier xs k ≡ Some j
unfolding earlier
earlier_is xs k j l e before =
    let none : (i : ℕ) → 0 ≤ i → i < j → IsTrue (equals xs k i) → ⊥ = λ i z li h. before i li (eq_is _ _ h) in
    first_passes (equals xs k) 0 k j (omega arith) (omega (arith, l)) (is_eq _ _ e) none

pub none_is : (xs : List ℕ) (k : ℕ) → ((i : ℕ) → i < k → slice_index xs i ≡ slice_index xs k → ⊥)
    → earlier xs k ≡ None
unfolding earlier
none_is xs k none = none_passes (equals xs k) 0 k (λ i z li h. none i (omega (arith, li)) (eq_is _ _ h))

pub first_from_none : (xs : List ℕ) (k : ℕ) → earlier xs k ≡ None → IsTrue (is_first xs k)
unfolding is_first
first_from_none xs k e = is_eq _ _ (ap coded e)

pub none_from_first : (xs : List ℕ) (k : ℕ) → IsTrue (is_first xs k) → IsNew xs k
unfolding is_first
none_from_first xs k h = ⊎_elim
    (λ (t : (j : ℕ) × IsEarlier xs k j).
    let e : coded (earlier xs k) ≡ t.0 + 1 = ap coded t.1.is in
    let z : coded (earlier xs k) ≡ 0 = eq_is _ _ h in
    absurd (omega (arith, e, z)))
    (λ (m : IsNew xs k). m)
    (earlier_or_new xs k)

-- one that is put in and has an equal value is the first
pub first_here : (xs : List ℕ) (k j : ℕ) → j < k → slice_index xs j ≡ slice_index xs k → IsTrue (is_first xs j)
    → earlier xs k ≡ Some j
first_here xs k j l e h = earlier_is xs k j l e (λ i li q. (none_from_first xs j h).none i li (q ∙ sym e))

-- where no position that is put in has an equal value, there is none
pub none_here : (xs : List ℕ) (k : ℕ)
    → ((j : ℕ) → j < k → IsTrue (is_first xs j) → slice_index xs j ≡ slice_index xs k → ⊥) → earlier xs k ≡ None
none_here xs k none = ⊎_elim
    (λ (t : (j : ℕ) × IsEarlier xs k j).
    let new : earlier xs t.0 ≡ None = none_is xs t.0 (λ i l e. t.1.before i l (e ∙ t.1.equal)) in
    absurd (none t.0 t.1.below (first_from_none xs t.0 new) t.1.equal))
    (λ (m : IsNew xs k). m.is)
    (earlier_or_new xs k)

pub not_first : (xs : List ℕ) (k j : ℕ) → earlier xs k ≡ Some j → IsTrue (is_first xs k) → ⊥
not_first xs k j e h =
    let c : coded (earlier xs k) ≡ j + 1 = ap coded e in
    let z : coded (earlier xs k) ≡ 0 = ap coded (none_from_first xs k h).is in
    omega (arith, c, z)

pub found_below : (xs : List ℕ) (k j : ℕ) → earlier xs k ≡ Some j → j < k
found_below xs k j e = ⊎_elim
    (λ (t : (i : ℕ) × IsEarlier xs k i).
    let c : t.0 + 1 ≡ j + 1 = ap coded (sym t.1.is ∙ e) in
    omega (arith, c, t.1.below))
    (λ (m : IsNew xs k).
    let c : 0 ≡ j + 1 = ap coded (sym m.is ∙ e) in
    absurd (omega (arith, c)))
    (earlier_or_new xs k)

both : (a b : Bool) → IsTrue a → IsTrue b → IsTrue (a && b)
both true b s t = t
both false b s t = cc

left : (a b : Bool) → IsTrue (a && b) → IsTrue a
left true b t = refl
left false b t = cc

right : (a b : Bool) → IsTrue (a && b) → IsTrue b
right true b t = t
right false b t = cc

-- what is in the index of a group is the first of its value, and of the group
pub member_first : (xs : List ℕ) (q k : ℕ) → IsTrue (is_member xs q k) → IsTrue (is_first xs k)
unfolding is_member
member_first xs q k t = right (group_at xs k == q) (is_first xs k) t

pub member_group : (xs : List ℕ) (q k : ℕ) → IsTrue (is_member xs q k) → group_at xs k ≡ q
unfolding is_member
member_group xs q k t = eq_is (group_at xs k) q (left (group_at xs k == q) (is_first xs k) t)

pub first_member : (xs : List ℕ) (q k : ℕ) → group_at xs k ≡ q → IsTrue (is_first xs k) → IsTrue (is_member xs q k)
unfolding is_member
first_member xs q k e t = both (group_at xs k == q) (is_first xs k) (is_eq (group_at xs k) q e) t
