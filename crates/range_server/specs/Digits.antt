-- Runs of digits, compared without their numbers (this project's).
use Rattle.std.specs.Prelude.{ℕ, Bool, false, nat_lt, ◌==◌, List, [], ◌∷◌, if◌then◌else◌}

abbrev pub skip_zeros : List ℕ → List ℕ
skip_zeros [] = []
skip_zeros (b ∷ digits) = if b == 48 then skip_zeros digits else b ∷ digits

-- of two runs of one length, the first is less where its digit is less at the first place where they differ
abbrev pub digits_less : List ℕ → List ℕ → Bool
digits_less [] ys = false
digits_less (x ∷ xs) [] = false
digits_less (x ∷ xs) (y ∷ ys) = if x == y then digits_less xs ys else nat_lt x y
