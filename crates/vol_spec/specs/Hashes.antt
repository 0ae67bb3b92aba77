-- MurmurHash3_x86_128 (Austin Appleby's public code) of a key of eight bytes with seed 0, and the low eight bytes of its answer.
-- The key is a number's eight bytes, the lowest first. A key of eight bytes has no whole block of 16: it is a tail of two words.
use Rattle.std.specs.Prelude.{ℕ, ◌+◌, ◌*◌, ◌/◌, ◌%◌, ◌^◌, bit_xor}
use Rattle.std.specs.Int.{rotate_left, w32}

-- all sums and products are modulo 2^32
abbrev pub plus : ℕ → ℕ → ℕ
plus a b = (a + b) % 2 ^ 32

abbrev pub times : ℕ → ℕ → ℕ
times a b = a * b % 2 ^ 32

-- a word of the key: times one factor, turned left, times another
abbrev pub keyed : ℕ → ℕ → ℕ → ℕ → ℕ
keyed word first turn second = times (rotate_left w32 (times word first) turn) second

-- the low word with the factors c1 and c2 of the public code, the high word with c2 and c3
abbrev pub low_keyed : ℕ → ℕ
low_keyed word = keyed word 0x239b961b 15 0xab0e9789

abbrev pub high_keyed : ℕ → ℕ
high_keyed word = keyed word 0xab0e9789 16 0x38b34ae5

-- the four lanes
pub record Lanes : Type 0 where
  pub one : ℕ
  pub two : ℕ
  pub three : ℕ
  pub four : ℕ

-- the four lanes before they are mixed: the keyed words and nothing, each xored with the key's length 8
unfoldable pub loaded : ℕ → Lanes
loaded n = record {
  one = bit_xor (low_keyed (n % 2 ^ 32)) 8;
  two =
      bit_xor (high_keyed (n / 2 ^ 32)) 8;
  three = 8;
  four = 8;
}

-- the sum of all lanes
abbrev pub joint : Lanes → ℕ
joint h = plus (plus (plus h.one h.two) h.three) h.four

-- the first lane becomes the sum of all, and each other gains it
unfoldable pub stirred : Lanes → Lanes
stirred h = record {
  one = joint h;
  two = plus h.two (joint h);
  three = plus h.three (joint h);
  four =
      plus h.four (joint h);
}

-- a word xored with itself shifted right
abbrev pub folded : ℕ → ℕ → ℕ
folded word by = bit_xor word (word / 2 ^ by)

-- the finalizer of a lane
unfoldable pub mixed : ℕ → ℕ
mixed h = folded (times (folded (times (folded h 16) 0x85ebca6b) 13) 0xc2b2ae35) 16

unfoldable pub all_mixed : Lanes → Lanes
all_mixed h = record { one = mixed h.one; two = mixed h.two; three = mixed h.three; four = mixed h.four }

-- the first two lanes as one number
abbrev pub low_eight : Lanes → ℕ
low_eight h = h.one + 2 ^ 32 * h.two

unfoldable pub hash8 : ℕ → ℕ
hash8 n = low_eight (stirred (all_mixed (stirred (loaded n))))
