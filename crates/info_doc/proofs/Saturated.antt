-- Products that stand still at 2^64 - 1.
use Rattle.std.proofs.Common.{◌≡◌, ◌⊎◌, ℕ, ◌+◌, ◌-◌, ◌*◌, ◌/◌, ◌<◌, ◌≤◌, min, zero, suc, true, false, nat_lt, inl, inr, arith, refl}
use Rattle.std.proofs.Math.Nat.{div-le_of_le-mul}
use Rattle.std.proofs.lemmas.Nat.{le-div}
use Rattle.std.proofs.lemmas.Bool.Decides.{nat_tests}

either : (a m : ℕ) → (a ≤ m) ⊎ (m < a)
either a m = elim (nat_lt m a) as (λ b. nat_lt m a ≡ b → (a ≤ m) ⊎ (m < a)) [ true ↦ λ e. inr (grind (arith, nat_tests)) | false ↦ λ e. inl (grind (arith, nat_tests)) ] refl

cut : (a b m : ℕ) → m < a → min (m * b) m ≡ min (a * b) m
cut a zero m h = omega arith
cut a (suc b) m h = omega arith

-- a product that was cut off before stays cut off
min-mul-min : (a b m : ℕ) → min (min a m * b) m ≡ min (a * b) m
min-mul-min a b m = elim (either a m) [
  | inl h ↦ let e : min a m ≡ a = omega arith in rw e refl
  | inr h ↦ let e : min a m ≡ m = omega arith in rw e (cut a b m h)
]

pub saturated : (a b c d e m : ℕ) → min (min (min (min (a * b) m * c) m * d) m * e) m ≡ min (a * b * c * d * e) m
saturated a b c d e m = rw (min-mul-min (a * b) c m, min-mul-min (a * b * c) d m, min-mul-min (a * b * c * d) e m) refl

pub passes_min : (limit n m : ℕ) → limit < m → nat_lt limit (min n m) ≡ nat_lt limit n
passes_min limit n m h = grind (arith, nat_tests)

cells_below : (s c : ℕ) → suc s + suc c - 1 ≤ suc c * suc s
cells_below s c = omega arith

cells_at : (s c : ℕ) → (1 ≤ (suc s + suc c - 1) / suc c) × ((suc s + suc c - 1) / suc c ≤ suc s)
cells_at s c = (le-div 1 (suc s + suc c - 1) (suc c) (omega arith) (omega arith), div-le_of_le-mul (suc c) (cells_below s c))

pub cells_fit : (size chunk : ℕ) → 1 ≤ size → 1 ≤ chunk → (1 ≤ (size + chunk - 1) / chunk) × ((size + chunk - 1) / chunk ≤ size)
cells_fit zero chunk a b = absurd (omega arith)
cells_fit (suc s) zero a b = absurd (omega arith)
cells_fit (suc s) (suc c) a b = cells_at s c
