-- The high half of a hash.
use Rattle.std.proofs.Common.{◌≡◌, ℕ, ◌*◌, ◌/◌, ◌%◌, ◌^◌, ◌<◌, arith, ap}
use Rattle.std.proofs.Math.Nat.{mul-lt-mul_of_pos_right}
use Rattle.std.proofs.lemmas.Nat.{div_below, mod_below}
use Rattle.equal_values.specs.Chains.{spread}

-- a number of 64 bits has no more than 32 in its high half
pub spread_is : (h places : ℕ) → h < 2 ^ 64 → h / 2 ^ 32 * places / 2 ^ 32 ≡ spread h places
unfolding spread
spread_is h places small =
    let all : h / 2 ^ 32 ≡ h / 2 ^ 32 % 2 ^ 32 = omega (arith, small) in
    ap (λ q. q * places / 2 ^ 32) all

pub home_below : (h places : ℕ) → 0 < places → spread h places < places
unfolding spread
home_below h places some =
    let high : ℕ = h / 2 ^ 32 % 2 ^ 32 in
    let less : high * places < 2 ^ 32 * places = mul-lt-mul_of_pos_right (mod_below (h / 2 ^ 32) (2 ^ 32) (omega arith)) some in
    div_below (high * places) (2 ^ 32) places (omega arith) (omega (arith, less))
