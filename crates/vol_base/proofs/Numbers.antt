-- Numbers that are clamped while their digits are read.
use Rattle.std.proofs.Common.{◌≡◌, ◌+◌, ◌-◌, ◌*◌, ℕ, min, arith, true}
use Rattle.std.specs.Char.{is_ascii_digit, digit_value}
use Rattle.std.proofs.lemmas.Bool.Decides.{nat_tests}

-- clamping before a digit or after it is the same
pub clamped_more : (v n d r l m : ℕ) → v ≡ min n l → r ≡ min (v * 10 + d) l → m ≡ n * 10 + d → r ≡ min m l
clamped_more v n d r l m e f g = omega arith

pub digit_is : (c : ℕ) → is_ascii_digit c ≡ true → digit_value c ≡ c - 48
digit_is c h = grind (arith, nat_tests)
