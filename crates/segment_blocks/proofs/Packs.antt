-- Indices side by side in one number.
use Rattle.std.proofs.Common.{◌≡◌, ℕ, zero, suc, ◌+◌, ◌*◌, ◌/◌, ◌%◌, ◌^◌, ◌<◌, ◌≤◌, List, [], ◌∷◌, ◌++◌, length, get_or, arith, ap, ◌∙◌, sym}
use Rattle.std.proofs.lemmas.Nat.{pow-add, pow_pos, mod_low, shr_high, shr-shr}
use Rattle.std.proofs.Math.Nat.{mul-le-mul_left, zero-div}
use Rattle.vol_spec.specs.SegWritten.{packed}

-- each is below 2 ^ bits
abbrev pub AreBelow : ℕ → List ℕ → Type 0
AreBelow bits is = (i : ℕ) → get_or is i 0 < 2 ^ bits

pub packed_below : (bits : ℕ) (is : List ℕ) → AreBelow bits is → packed bits is < 2 ^ (length is * bits)
packed_below bits [] h = pow_pos (length {A = ℕ} [] * bits)
packed_below bits (i ∷ is) h =
    let here : i < 2 ^ bits = h 0 in
    let rest : packed bits is < 2 ^ (length is * bits) = packed_below bits is (λ j. h (suc j)) in
    let e : 2 ^ bits * (packed bits is + 1) ≤ 2 ^ bits * 2 ^ (length is * bits) = mul-le-mul_left (2 ^ bits) (omega arith) in
    let p : 2 ^ bits * 2 ^ (length is * bits) ≡ 2 ^ (bits + length is * bits) = sym (pow-add 2 bits (length is * bits)) in
    let s : bits + length is * bits ≡ suc (length is) * bits = omega arith in
    let q : 2 ^ (bits + length is * bits) ≡ 2 ^ (suc (length is) * bits) = ap (λ k. 2 ^ k) s in
    omega (arith, here, e, p, q)

-- one index more
pub packed_more : (bits : ℕ) (is : List ℕ) (i : ℕ) → packed bits (is ++ i ∷ []) ≡ packed bits is + i * 2 ^ (length is * bits)
packed_more bits [] i =
    let z : 0 * bits ≡ 0 = omega arith in
    let one : i * 2 ^ (0 * bits) ≡ i * 1 = ap (λ k. i * 2 ^ k) z in
    omega (arith, one)
packed_more bits (j ∷ is) i =
    let rest : packed bits (is ++ i ∷ []) ≡ packed bits is + i * 2 ^ (length is * bits) = packed_more bits is i in
    let p : 2 ^ bits * 2 ^ (length is * bits) ≡ 2 ^ (bits + length is * bits) = sym (pow-add 2 bits (length is * bits)) in
    let s : bits + length is * bits ≡ suc (length is) * bits = omega arith in
    let q : i * (2 ^ bits * 2 ^ (length is * bits)) ≡ i * 2 ^ (suc (length is) * bits) = ap (λ k. i * k) (p ∙ ap (λ k. 2 ^ k) s) in
    let e : 2 ^ bits * (packed bits is + i * 2 ^ (length is * bits)) ≡ 2 ^ bits * packed bits is + i * (2 ^ bits * 2 ^ (length is * bits)) = omega arith in
    ap (λ m. j + 2 ^ bits * m) rest ∙ omega (arith, e, q)

nothing : (bits : ℕ) → 0 % 2 ^ bits ≡ 0
nothing bits = let p = pow_pos bits in omega arith

-- each index is read back
pub packed_at : (bits : ℕ) (is : List ℕ) (n : ℕ) → AreBelow bits is → packed bits is / 2 ^ (n * bits) % 2 ^ bits ≡ get_or is n 0
packed_at bits [] zero h = ap (λ k. k % 2 ^ bits) (zero-div (2 ^ (zero * bits))) ∙ nothing bits
packed_at bits [] (suc n) h = ap (λ k. k % 2 ^ bits) (zero-div (2 ^ (suc n * bits))) ∙ nothing bits
packed_at bits (i ∷ is) zero h =
    let e : i + 2 ^ bits * packed bits is ≡ packed bits is * 2 ^ bits + i = omega arith in
    let z : 0 * bits ≡ 0 = omega arith in
    let whole : (i + 2 ^ bits * packed bits is) / 2 ^ (0 * bits) ≡ i + 2 ^ bits * packed bits is = ap (λ k. (i + 2 ^ bits * packed bits is) / 2 ^ k) z ∙ omega arith in
    ap (λ k. k % 2 ^ bits) (whole ∙ e) ∙ mod_low (packed bits is) bits i (h 0)
packed_at bits (i ∷ is) (suc n) h =
    let e : i + 2 ^ bits * packed bits is ≡ packed bits is * 2 ^ bits + i = omega arith in
    let s : bits + n * bits ≡ suc n * bits = omega arith in
    let d : (i + 2 ^ bits * packed bits is) / 2 ^ bits ≡ packed bits is = ap (λ k. k / 2 ^ bits) e ∙ shr_high (packed bits is) bits i (h 0) in
    ap (λ k. (i + 2 ^ bits * packed bits is) / 2 ^ k % 2 ^ bits) (sym s) ∙ ap (λ k. k % 2 ^ bits) (sym (shr-shr (i + 2 ^ bits * packed bits is) bits (n * bits))) ∙ ap (λ k. k / 2 ^ (n * bits) % 2 ^ bits) d ∙ packed_at bits is n (λ j. h (suc j))
