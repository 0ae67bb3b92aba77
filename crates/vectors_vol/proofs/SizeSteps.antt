-- Sizes and widths.
use Rattle.std.proofs.Common.{ℕ, zero, suc, ◌*◌, ◌^◌, ◌<◌, ◌≤◌, inl, inr, ⊎_elim, arith}
use Rattle.std.proofs.lemmas.Bool.{cases_lt}
use Rattle.std.proofs.lemmas.Nat.{mul-le}
use Rattle.vol_spec.specs.Limits.{IsWidth}
use Rattle.std.proofs.lemmas.Grind.{not_there}

-- a drawn box has few values
pub few_values : (x y z channels : ℕ) → x ≤ 64 → y ≤ 64 → z ≤ 64 → channels ≤ 1024 → x * y * z * channels ≤ 2 ^ 28
few_values x y z channels hx hy hz hc =
    let row : x * y ≤ 64 * 64 = mul-le x y 64 64 hx hy in
    let plane : x * y * z ≤ 64 * 64 * 64 = mul-le (x * y) z (64 * 64) 64 row hz in
    let all : x * y * z * channels ≤ 64 * 64 * 64 * 1024 = mul-le (x * y * z) channels (64 * 64 * 64) 1024 plane hc in
    omega (arith, all)

no_width : (w : ℕ) → 8 < w → IsWidth w → ⊥
no_width w h (inl e) = absurd (omega arith)
no_width w h (inr (inl e)) = absurd (omega arith)
no_width w h (inr (inr (inl e))) = absurd (omega arith)
no_width w h (inr (inr (inr e))) = absurd (omega arith)

pub small_width : (w : ℕ) → ∥ IsWidth w ∥₁ → w ≤ 8
small_width w h = ⊎_elim (λ large. absurd (not_there h (no_width w large))) (λ small. small) (cases_lt 8 w)

none_width : IsWidth 0 → ⊥
none_width (inl e) = absurd (omega arith)
none_width (inr (inl e)) = absurd (omega arith)
none_width (inr (inr (inl e))) = absurd (omega arith)
none_width (inr (inr (inr e))) = absurd (omega arith)

pub some_width : (w : ℕ) → ∥ IsWidth w ∥₁ → 0 < w
some_width zero h = absurd (not_there h none_width)
some_width (suc n) h = omega arith

-- what the values of a drawn box have together
pub few_bytes : (w count : ℕ) → w ≤ 8 → count ≤ 2 ^ 28 → w * count ≤ 2 ^ 31
few_bytes w count hw hc = let all : w * count ≤ 8 * 2 ^ 28 = mul-le w count 8 (2 ^ 28) hw hc in omega (arith, all)
