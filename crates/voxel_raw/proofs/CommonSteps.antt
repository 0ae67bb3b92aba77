-- The common part of two stretches, and of two boxes.
use Rattle.std.proofs.Common.{◌≡◌, ◌↔◌, ◌⊎◌, inl, inr, ℕ, zero, suc, ℤ, pos, ◌+ℤ◌, ◌≤ℤ◌, ◌<ℤ◌, List, arith, sym}
use Rattle.std.specs.Int.{int_max, int_min}
use Rattle.std.proofs.lemmas.Int.{ints, clamps}
use Rattle.vol_base.specs.declared.boxes.Box3.{Box3}
use Rattle.vol_base.specs.Boxes.{Covers, size, at}
use Rattle.voxel_raw.specs.Common.{IsOn, IsCommon}

-- how far it is from one place to another, not backwards
abbrev pub IsGap : ℤ → ℤ → ℕ → Type 0
IsGap low high len = ((high ≤ℤ low) × (len ≡ 0)) ⊎ ((low <ℤ high) × ((low +ℤ pos len) ≡ high))

from_common : (a : ℤ) (n : ℕ) (b : ℤ) (m : ℕ) (low high : ℤ) (len : ℕ) → low ≡ int_max a b → high ≡ int_min (a +ℤ pos n) (b +ℤ pos m)
    → (x : ℤ) → IsOn low len x → IsGap low high len → IsOn a n x × IsOn b m x
from_common a n b m low high len el eh x h (inl none) = absurd (omega (arith, ints, none.1, h.0, h.1))
from_common a n b m low high len el eh x h (inr some) =
    ((omega (arith, ints, clamps, h.0), omega (arith, ints, clamps, h.1, some.1)), (omega (arith, ints, clamps, h.0), omega (arith, ints, clamps, h.1, some.1)))

to_common : (a : ℤ) (n : ℕ) (b : ℤ) (m : ℕ) (low high : ℤ) (len : ℕ) → low ≡ int_max a b → high ≡ int_min (a +ℤ pos n) (b +ℤ pos m)
    → (x : ℤ) → IsOn a n x → IsOn b m x → IsGap low high len → IsOn low len x
to_common a n b m low high len el eh x p q (inl none) = absurd (omega (arith, ints, clamps, none.0, p.0, p.1, q.0, q.1))
to_common a n b m low high len el eh x p q (inr some) = (omega (arith, ints, clamps, p.0, q.0), omega (arith, ints, clamps, p.1, q.1, some.1))

pub common_is : (a : ℤ) (n : ℕ) (b : ℤ) (m : ℕ) (low high : ℤ) (len : ℕ) → low ≡ int_max a b → high ≡ int_min (a +ℤ pos n) (b +ℤ pos m)
    → IsGap low high len → (x : ℤ) → IsOn low len x ↔ (IsOn a n x × IsOn b m x)
common_is a n b m low high len el eh gap x = (λ h. from_common a n b m low high len el eh x h gap, λ h. to_common a n b m low high len el eh x h.0 h.1 gap)

-- what both cover is covered on each axis
pub common_box : (a b r : Box3)
    → ((x : ℤ) → IsOn (at r.begin 0) (size r 0) x ↔ (IsOn (at a.begin 0) (size a 0) x × IsOn (at b.begin 0) (size b 0) x))
    → ((x : ℤ) → IsOn (at r.begin 1) (size r 1) x ↔ (IsOn (at a.begin 1) (size a 1) x × IsOn (at b.begin 1) (size b 1) x))
    → ((x : ℤ) → IsOn (at r.begin 2) (size r 2) x ↔ (IsOn (at a.begin 2) (size a 2) x × IsOn (at b.begin 2) (size b 2) x))
    → IsCommon a b r
common_box a b r x y z = record { both = λ p. (λ cov. (left p cov, right p cov), λ both. joined p both.0 both.1) }
  where
    left : (p : List ℤ) → Covers r p → Covers a p
    left p cov zero h = ((x (at p 0)).0 (cov 0 h)).0
    left p cov (suc zero) h = ((y (at p 1)).0 (cov 1 h)).0
    left p cov (suc (suc zero)) h = ((z (at p 2)).0 (cov 2 h)).0
    left p cov (suc (suc (suc k))) h = absurd (omega arith)

    right : (p : List ℤ) → Covers r p → Covers b p
    right p cov zero h = ((x (at p 0)).0 (cov 0 h)).1
    right p cov (suc zero) h = ((y (at p 1)).0 (cov 1 h)).1
    right p cov (suc (suc zero)) h = ((z (at p 2)).0 (cov 2 h)).1
    right p cov (suc (suc (suc k))) h = absurd (omega arith)

    joined : (p : List ℤ) → Covers a p → Covers b p → Covers r p
    joined p ca cb zero h = (x (at p 0)).1 (ca 0 h, cb 0 h)
    joined p ca cb (suc zero) h = (y (at p 1)).1 (ca 1 h, cb 1 h)
    joined p ca cb (suc (suc zero)) h = (z (at p 2)).1 (ca 2 h, cb 2 h)
    joined p ca cb (suc (suc (suc k))) h = absurd (omega arith)

-- the same over equal stretches
pub told : (r : ℤ) (s : ℕ) (a a' : ℤ) (n n' : ℕ) (b b' : ℤ) (m m' : ℕ) → a' ≡ a → n' ≡ n → b' ≡ b → m' ≡ m
    → ((x : ℤ) → IsOn r s x ↔ (IsOn a' n' x × IsOn b' m' x)) → (x : ℤ) → IsOn r s x ↔ (IsOn a n x × IsOn b m x)
told r s a a' n n' b b' m m' ea en eb em h x = rw (sym ea, sym en, sym eb, sym em) (h x)
