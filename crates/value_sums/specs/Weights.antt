-- What bytes add to a sum of values, whatever pieces they come in.
use Rattle.std.specs.Prelude.{◌≡◌, ℕ, ◌+◌, ◌*◌, ◌%◌, ◌^◌, ◌≤◌, List, [], ◌∷◌, length, map}
use Rattle.vol_spec.specs.Types.{Bytes}

-- the bytes that a history has
abbrev pub noted : List (ℕ × Unit {0}) → Bytes
noted pairs = map (λ pair. pair.0) pairs

-- bytes of values of w bytes each, the first of which stands at a place of its value: each times the weight of its place
abbrev pub weigh : ℕ → ℕ → Bytes → ℕ
weigh w place [] = 0
weigh w place (b ∷ bytes) = b * 256 ^ place + weigh w ((place + 1) % w) bytes

-- the sum of bytes modulo 2^64, and the place of the next one
pub record IsSum (w place sum : ℕ) (bytes : Bytes) : Type 0 where
  pub some : 1 ≤ w
  pub width : w ≤ 8
  pub next : place ≡ length bytes % w
  pub is : sum ≡ weigh w 0 bytes % 2 ^ 64
