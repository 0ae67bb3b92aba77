-- The hash of a value, and its group (this project's).
use Rattle.std.specs.Prelude.{ℕ, ◌*◌, ◌/◌, ◌%◌, ◌^◌}
use Rattle.std.specs.Int.Bits.{bit_xor}

unfoldable pub hashed : ℕ → ℕ
hashed v = let x = v * 11400714819323198485 % 2 ^ 64 in bit_xor x (x / 2 ^ 29)

-- one of 64 groups
unfoldable pub group_of : ℕ → ℕ
group_of v = hashed v % 64
