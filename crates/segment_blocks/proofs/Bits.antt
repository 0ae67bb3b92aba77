-- Bits of a word.
use Rattle.std.proofs.Common.{◌≡◌, ℕ, ◌-◌, ◌/◌, ◌%◌, ◌^◌, ◌≤◌, arith, ap, ◌∙◌, bit_and, IsTrue}
use Rattle.std.proofs.lemmas.Bool.Decides.{nat_tests}
use Rattle.vol_spec.specs.SegFaults.{is_allowed}
use Rattle.std.proofs.lemmas.Nat.{and_mask}
use Rattle.std.proofs.lemmas.Nat.Bits.{ones_shr}

-- the low b bits by a mask
pub masked : (n b : ℕ) → b ≤ 32 → bit_and n (4294967295 / 2 ^ (32 - b)) ≡ n % 2 ^ b
masked n b h =
    let ones : (2 ^ 32 - 1) / 2 ^ (32 - b) ≡ 2 ^ (32 - (32 - b)) - 1 = ones_shr 32 (32 - b) (omega arith) in
    let e : 32 - (32 - b) ≡ b = omega arith in
    ap (bit_and n) (ones ∙ ap (λ k. 2 ^ k - 1) e) ∙ and_mask n b

-- no more than a word's
pub allowed_le : (b : ℕ) → IsTrue (is_allowed b) → b ≤ 32
allowed_le b h = grind (arith, nat_tests)
