-- A word from its bytes, and an index from its bits, one by one.
use Rattle.std.proofs.Common.{◌≡◌, ℕ, ◌+◌, ◌*◌, ◌/◌, ◌%◌, ◌^◌, ◌<◌, List, [], ◌∷◌, get_or, take, drop, arith, refl, ap, ◌∙◌, sym}
use Rattle.std.proofs.lemmas.List.{get_or-drop}
use Rattle.std.proofs.lemmas.Nat.{mod-pow-add, shr-shr}
use Rattle.std.proofs.Math.Nat.{add_comm}
use Rattle.vol_spec.specs.Raw.{number}
use Rattle.vol_spec.specs.SegChunks.{word, field}
use Rattle.segment_blocks.proofs.Again.{pow_of}
use Rattle.segment_blocks.proofs.Field.{bytes_drop, in_one, number_drop}
use Rattle.segment_blocks.proofs.Values.{IsBytes}

four_bytes : (xs : List ℕ) → number (take 4 xs) ≡ (get_or xs 0 0 + 256 * get_or xs 1 0) + 65536 * (get_or xs 2 0 + 256 * get_or xs 3 0)
four_bytes [] = refl
four_bytes (a ∷ []) = omega arith
four_bytes (a ∷ b ∷ []) = omega arith
four_bytes (a ∷ b ∷ c ∷ []) = omega arith
four_bytes (a ∷ b ∷ c ∷ d ∷ rest) = omega arith

at_drop : (k i m : ℕ) (xs : List ℕ) → k + i ≡ m → get_or (drop k xs) i 0 ≡ get_or xs m 0
at_drop k i m xs e = get_or-drop k xs i 0 ∙ ap (λ q. get_or xs q 0) e

pub word_bytes : (bytes : List ℕ) (i : ℕ) → word bytes i ≡ (get_or bytes (4 * i) 0 + 256 * get_or bytes (4 * i + 1) 0) + 65536 * (get_or bytes (4 * i + 2) 0 + 256 * get_or bytes (4 * i + 3) 0)
unfolding word
word_bytes bytes i =
    let xs : List ℕ = drop (4 * i) bytes in
    let e0 : get_or xs 0 0 ≡ get_or bytes (4 * i) 0 = at_drop (4 * i) 0 (4 * i) bytes (omega arith) in
    let e1 : get_or xs 1 0 ≡ get_or bytes (4 * i + 1) 0 = at_drop (4 * i) 1 (4 * i + 1) bytes refl in
    let e2 : get_or xs 2 0 ≡ get_or bytes (4 * i + 2) 0 = at_drop (4 * i) 2 (4 * i + 2) bytes refl in
    let e3 : get_or xs 3 0 ≡ get_or bytes (4 * i + 3) 0 = at_drop (4 * i) 3 (4 * i + 3) bytes refl in
    four_bytes xs
    ∙ ap (λ q. (q + 256 * get_or xs 1 0) + 65536 * (get_or xs 2 0 + 256 * get_or xs 3 0)) e0
    ∙ ap (λ q. (get_or bytes (4 * i) 0 + 256 * q) + 65536 * (get_or xs 2 0 + 256 * get_or xs 3 0)) e1
    ∙ ap (λ q. (get_or bytes (4 * i) 0 + 256 * get_or bytes (4 * i + 1) 0) + 65536 * (q + 256 * get_or xs 3 0)) e2
    ∙ ap (λ q. (get_or bytes (4 * i) 0 + 256 * get_or bytes (4 * i + 1) 0) + 65536 * (get_or bytes (4 * i + 2) 0 + 256 * q)) e3

-- the lowest byte of a number
low_byte : (xs : List ℕ) → IsBytes xs → number xs % 2 ^ 8 ≡ get_or xs 0 0
low_byte [] fits = refl
low_byte (a ∷ rest) fits =
    let la : a < 256 = fits 0 in
    let m : ℕ = number rest in
    omega arith

-- a bit in the one byte that holds it
pub bit_byte : (bytes : List ℕ) (a j : ℕ) → IsBytes bytes → field bytes a 1 j ≡ get_or bytes (4 * a + j / 8) 0 / 2 ^ (j % 8) % 2
unfolding field
bit_byte bytes a j fits =
    let xs : List ℕ = drop (4 * a) bytes in
    let fx : IsBytes xs = bytes_drop bytes (4 * a) fits in
    let q : ℕ = j / 8 in
    let r : ℕ = j % 8 in
    let ys : List ℕ = drop q xs in
    let low : number ys % 2 ^ 8 ≡ get_or bytes (4 * a + q) 0 = low_byte ys (bytes_drop xs q fx) ∙ at_drop q 0 q xs (omega arith) ∙ at_drop (4 * a) q (4 * a + q) bytes refl in
    let split : 8 * q + r ≡ j = omega arith in
    let one : j * 1 ≡ j = omega arith in
    let whole : number ys / 2 ^ r ≡ number xs / 2 ^ j = ap (λ m. m / 2 ^ r) (number_drop q xs fx ∙ ap (λ p. number xs / p) (pow_of q)) ∙ shr-shr (number xs) (8 * q) r ∙ ap (λ p. number xs / 2 ^ p) split in
    ap (λ p. number xs / 2 ^ p % 2) one ∙ ap (λ m. m % 2) (sym whole) ∙ sym (in_one (number ys) 8 r 1 (omega arith)) ∙ ap (λ m. m / 2 ^ r % 2) low

-- the lowest i of the bits from a bit on
abbrev pub low_bits : List ℕ → ℕ → ℕ → ℕ → ℕ
low_bits bytes a m i = number (drop (4 * a) bytes) / 2 ^ m % 2 ^ i

pub low_all : (bytes : List ℕ) (a b n : ℕ) → low_bits bytes a (n * b) b ≡ field bytes a b n
unfolding field
low_all bytes a b n = refl

pub low_more : (bytes : List ℕ) (a m i : ℕ) → low_bits bytes a m (i + 1) ≡ low_bits bytes a m i + field bytes a 1 (m + i) * 2 ^ i
unfolding field
low_more bytes a m i =
    let x : ℕ = number (drop (4 * a) bytes) in
    let e : i + 1 ≡ 1 + i = omega arith in
    let one : (m + i) * 1 ≡ m + i = omega arith in
    let bit : x / 2 ^ m / 2 ^ i ≡ x / 2 ^ ((m + i) * 1) = shr-shr x m i ∙ ap (λ q. x / 2 ^ q) (sym one) in
    let step : x / 2 ^ m % 2 ^ (i + 1) ≡ (x / 2 ^ ((m + i) * 1) % 2 ^ 1) * 2 ^ i + x / 2 ^ m % 2 ^ i =
    ap (λ q. x / 2 ^ m % 2 ^ q) e ∙ mod-pow-add (x / 2 ^ m) 1 i ∙ ap (λ q. (q % 2 ^ 1) * 2 ^ i + x / 2 ^ m % 2 ^ i) bit in
    step ∙ add_comm ((x / 2 ^ ((m + i) * 1) % 2 ^ 1) * 2 ^ i) (x / 2 ^ m % 2 ^ i)
