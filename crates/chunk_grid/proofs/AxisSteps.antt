-- Cells on one axis: places from 0 to the size, in blocks of the chunk size, the last of which may be cut short.
use Rattle.std.proofs.Common.{◌≡◌, ℕ, ◌+◌, ◌-◌, ◌*◌, ◌/◌, ◌%◌, ◌<◌, ◌≤◌, min, ap, ◌∙◌, sym, arith, inl, inr}
use Rattle.std.proofs.lemmas.Bool.{cases_lt}
use Rattle.std.proofs.lemmas.Nat.{div_below, mod_below, div-mul-add, le-div}
use Rattle.std.proofs.Math.Nat.{mod-add-div, div-mul-le_self, le-mul_of_pos_right, mul-le-mul_right}

-- the number of blocks is 1 to the size
pub counted : (size chunk : ℕ) → 1 ≤ size → 1 ≤ chunk → (1 ≤ (size + chunk - 1) / chunk) × ((size + chunk - 1) / chunk ≤ size)
counted size chunk s c =
    let one : 1 ≤ (size + chunk - 1) / chunk = le-div 1 (size + chunk - 1) chunk c (omega arith) in
    let past : chunk * size ≡ size * chunk = omega arith in
    let more : size + chunk ≤ size * chunk + 1 + (chunk - 1) = omega (arith, le-mul_of_pos_right size c) in
    let below : (size + chunk - 1) / chunk < size + 1 = div_below (size + chunk - 1) chunk (size + 1) c (omega (arith, le-mul_of_pos_right size c)) in
    (one, omega arith)

-- a block begins before the end
pub block_begins : (size chunk g : ℕ) → 1 ≤ size → 1 ≤ chunk → g < (size + chunk - 1) / chunk → g * chunk < size
block_begins size chunk g s c h =
    let low = div-mul-le_self (size + chunk - 1) chunk in
    let more : (g + 1) * chunk ≤ (size + chunk - 1) / chunk * chunk = mul-le-mul_right chunk (omega arith) in
    omega arith

-- a place below the size lies in the block q / chunk
pub in_block : (q size chunk : ℕ) → 1 ≤ chunk → q < size
    → (q / chunk * chunk ≤ q) × (q < q / chunk * chunk + min chunk (size - q / chunk * chunk)) × (q / chunk < (size + chunk - 1) / chunk)
in_block q size chunk h l =
    let whole = mod-add-div q chunk in
    let less = mod_below q chunk h in
    let m : q / chunk * chunk + q % chunk ≡ q = omega arith in
    let up : q / chunk + 1 ≤ (size + chunk - 1) / chunk = le-div (q / chunk + 1) (size + chunk - 1) chunk h (omega arith) in
    (omega arith, omega arith, omega arith)

-- and in no other
pub one_block : (q size chunk g : ℕ) → 1 ≤ chunk → g * chunk ≤ q → q < g * chunk + min chunk (size - g * chunk) → g ≡ q / chunk
one_block q size chunk g h low high =
    let r : q - g * chunk < chunk = omega arith in
    let is : g * chunk + (q - g * chunk) ≡ q = omega arith in
    sym (div-mul-add g chunk (q - g * chunk) r) ∙ ap (λ k. k / chunk) is

-- a quotient rounded up
pub rounded_up : (x y : ℕ) → 0 < y → x / y + min 1 (x % y) ≡ (x + y - 1) / y
rounded_up x y h =
    let whole = mod-add-div x y in
    let less = mod_below x y h in
    elim (cases_lt 0 (x % y)) [
      | inl some ↦
          let e : (x / y + 1) * y + (x % y - 1) ≡ x + y - 1 = omega arith in
          let q : x / y + 1 ≡ (x + y - 1) / y = sym (div-mul-add (x / y + 1) y (x % y - 1) (omega arith)) ∙ ap (λ k. k / y) e in
          omega arith
      | inr none ↦
          let e : x / y * y + (y - 1) ≡ x + y - 1 = omega arith in
          let q : x / y ≡ (x + y - 1) / y = sym (div-mul-add (x / y) y (y - 1) (omega arith)) ∙ ap (λ k. k / y) e in
          omega arith
    ]
