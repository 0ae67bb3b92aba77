-- A number whose words are written one after the other.
use Rattle.std.proofs.Common.{◌≡◌, ℕ, suc, ◌+◌, ◌-◌, ◌*◌, ◌/◌, ◌%◌, ◌^◌, ◌<◌, ◌≤◌, List, [], ◌∷◌, ◌++◌, length, take, drop, arith, refl, ap, ◌∙◌, sym, subst, length-take}
use Rattle.std.proofs.lemmas.Grind.{common_steps, same_number_lists}
use borrow.Rule.Slice.PartMut.{put_mid}
use Rattle.std.proofs.Common.{IsTrue}
use Rattle.vol_spec.specs.SegFaults.{is_allowed}
use Rattle.segment_blocks.proofs.Field.{in_word}
use Rattle.std.proofs.Math.Nat.{mul-le-mul_right}
use Rattle.std.proofs.lemmas.List.{take-append-drop}
use Rattle.std.proofs.lemmas.Nat.{shr_below, pow-add, pow_pos}
use Rattle.std.proofs.Math.Nat.{pow-succ', pow-le-pow_right}
use Rattle.byteorder.specs.Endian.{little_number, little_bytes}
use Rattle.vol_spec.specs.Raw.{number}
use Rattle.segment_blocks.proofs.Field.{first_word, number_drop, pow_bytes, bytes_drop}
use Rattle.segment_blocks.proofs.Values.{IsBytes}

pub number_append : (xs ys : List ℕ) → number (xs ++ ys) ≡ number xs + 256 ^ length xs * number ys
number_append [] ys = omega arith
number_append (x ∷ xs) ys =
    let rest : number (xs ++ ys) ≡ number xs + 256 ^ length xs * number ys = number_append xs ys in
    let p : 256 ^ suc (length xs) ≡ 256 * 256 ^ length xs = pow-succ' 256 (length xs) in
    let e : 256 * 256 ^ length xs * number ys ≡ 256 * (256 ^ length xs * number ys) = omega arith in
    let f : 256 ^ suc (length xs) * number ys ≡ 256 * 256 ^ length xs * number ys = ap (λ q. q * number ys) p in
    omega (arith, rest, e, f)

-- the word at a place of a number
pub word_of : (xs : List ℕ) (q : ℕ) → IsBytes xs → little_number 4 (drop (4 * q) xs) ≡ number xs / 2 ^ (32 * q) % 2 ^ 32
word_of xs q fx = first_word (drop (4 * q) xs) (bytes_drop xs (4 * q) fx) ∙ ap (λ m. m % 2 ^ 32) (number_drop (4 * q) xs fx ∙ ap (λ p. number xs / p) (pow_bytes q))

number_word : (w : ℕ) → w < 2 ^ 32 → number (little_bytes 4 w) ≡ w
number_word w h = omega arith

-- a list from its word at a place
number_split : (ys : List ℕ) → IsBytes ys → number ys ≡ little_number 4 ys + 2 ^ 32 * number (drop 4 ys)
number_split ys fits =
    let low = first_word ys fits in
    let high : number (drop 4 ys) ≡ number ys / 4294967296 = number_drop 4 ys fits in
    omega arith

put_is : (a k : ℕ) (xs ys : List ℕ) → a + 4 ≤ length xs → k ≡ length xs - a → length ys ≡ 4
    → put_mid a k xs (ys ++ drop 4 (take k (drop a xs))) ≡ take a xs ++ (ys ++ drop 4 (drop a xs))
put_is a k xs ys within ek len = same_number_lists _ _ (grind (arith, common_steps)) (λ i li. grind (arith, common_steps))

-- a number with another word at a place
pub number_put : (xs : List ℕ) (q k w : ℕ) → IsBytes xs → 4 * q + 4 ≤ length xs → k ≡ length xs - 4 * q → w < 2 ^ 32
    → number (put_mid (4 * q) k xs (little_bytes 4 w ++ drop 4 (take k (drop (4 * q) xs)))) + 2 ^ (32 * q) * little_number 4 (drop (4 * q) xs) ≡ number xs + 2 ^ (32 * q) * w
number_put xs q k w fits within ek lw =
    let a : ℕ = 4 * q in
    let front : ℕ = number (take a xs) in
    let tail : ℕ = number (drop 4 (drop a xs)) in
    let p : ℕ = 2 ^ (32 * q) in
    let len : length (take a xs) ≡ a = omega (arith, length-take a xs) in
    let power : 256 ^ length (take a xs) ≡ p = ap (λ n. 256 ^ n) len ∙ pow_bytes q in
    let old : number xs ≡ front + p * (little_number 4 (drop a xs) + 4294967296 * tail) =
    ap number (sym (take-append-drop a xs)) ∙ number_append (take a xs) (drop a xs) ∙ ap (λ n. front + n * number (drop a xs)) power ∙ ap (λ n. front + p * n) (number_split (drop a xs) (bytes_drop xs a fits)) in
    let new : number (put_mid a k xs (little_bytes 4 w ++ drop 4 (take k (drop a xs)))) ≡ front + p * (w + 4294967296 * tail) =
    ap number (put_is a k xs (little_bytes 4 w) within ek refl) ∙ number_append (take a xs) (little_bytes 4 w ++ drop 4 (drop a xs)) ∙ ap (λ n. front + n * number (little_bytes 4 w ++ drop 4 (drop a xs))) power
    ∙ ap (λ n. front + p * n) (number_append (little_bytes 4 w) (drop 4 (drop a xs)) ∙ ap (λ n. n + 4294967296 * tail) (number_word w lw)) in
    let e1 : p * (w + 4294967296 * tail) ≡ p * w + p * (4294967296 * tail) = omega arith in
    let e2 : p * (little_number 4 (drop a xs) + 4294967296 * tail) ≡ p * little_number 4 (drop a xs) + p * (4294967296 * tail) = omega arith in
    omega (arith, old, new, e1, e2)

-- room for one index more in the word that takes it
pub record Room (xs : List ℕ) (b n index : ℕ) : Type 0 where
  pub small : index * 2 ^ (n * b % 32) < 2 ^ 32
  pub sum : little_number 4 (drop (4 * (n * b / 32)) xs) + index * 2 ^ (n * b % 32) < 2 ^ 32

pub room_for : (xs : List ℕ) (b n index : ℕ) → IsBytes xs → IsTrue (is_allowed b) → index < 2 ^ b → number xs < 2 ^ (n * b) → Room xs b n index
room_for xs b n index fits h li front =
    let q : ℕ = n * b / 32 in
    let r : ℕ = n * b % 32 in
    let split : r + 32 * q ≡ n * b = omega arith in
    let below : number xs < 2 ^ (r + 32 * q) = subst (λ k. number xs < 2 ^ k) (sym split) front in
    let high : number xs / 2 ^ (32 * q) < 2 ^ r = shr_below (number xs) r (32 * q) below in
    let word : little_number 4 (drop (4 * q) xs) ≡ number xs / 2 ^ (32 * q) % 2 ^ 32 = word_of xs q fits in
    let less : number xs / 2 ^ (32 * q) % 2 ^ 32 ≤ number xs / 2 ^ (32 * q) = omega arith in
    let next : (index + 1) * 2 ^ r ≤ 2 ^ b * 2 ^ r = mul-le-mul_right (2 ^ r) (omega arith) in
    let power : 2 ^ b * 2 ^ r ≡ 2 ^ (b + r) = sym (pow-add 2 b r) in
    let top : 2 ^ (b + r) ≤ 2 ^ 32 = pow-le-pow_right {n = 2} (omega arith) {i = b + r} {j = 32} (omega (arith, in_word b n h)) in
    let e : (index + 1) * 2 ^ r ≡ index * 2 ^ r + 2 ^ r = omega arith in
    let pos : 0 < 2 ^ r = pow_pos r in
    record { small = omega (arith, e, next, power, top, pos); sum = omega (arith, e, next, power, top, word, less, high) }

pub index_put : (xs : List ℕ) (b n index k : ℕ) → IsBytes xs → IsTrue (is_allowed b) → index < 2 ^ b → number xs < 2 ^ (n * b) → 4 * (n * b / 32) + 4 ≤ length xs → k ≡ length xs - 4 * (n * b / 32)
    → number (put_mid (4 * (n * b / 32)) k xs (little_bytes 4 (little_number 4 (drop (4 * (n * b / 32)) xs) + index * 2 ^ (n * b % 32)) ++ drop 4 (take k (drop (4 * (n * b / 32)) xs)))) ≡ number xs + index * 2 ^ (n * b)
index_put xs b n index k fits h li front within ek =
    let q : ℕ = n * b / 32 in
    let r : ℕ = n * b % 32 in
    let room = room_for xs b n index fits h li front in
    let put = number_put xs q k (little_number 4 (drop (4 * q) xs) + index * 2 ^ r) fits within ek room.sum in
    let split : 32 * q + r ≡ n * b = omega arith in
    let power : 2 ^ (32 * q) * 2 ^ r ≡ 2 ^ (n * b) = sym (pow-add 2 (32 * q) r) ∙ ap (λ m. 2 ^ m) split in
    let e : 2 ^ (32 * q) * (little_number 4 (drop (4 * q) xs) + index * 2 ^ r) ≡ 2 ^ (32 * q) * little_number 4 (drop (4 * q) xs) + index * (2 ^ (32 * q) * 2 ^ r) = omega arith in
    let f : index * (2 ^ (32 * q) * 2 ^ r) ≡ index * 2 ^ (n * b) = ap (λ m. index * m) power in
    omega (arith, put, e, f)
