-- The bits from a place on, in the one word that holds them.
use Rattle.std.proofs.Common.{take, ◌≡◌, ◌≢◌, ℕ, zero, suc, ◌+◌, ◌-◌, ◌*◌, ◌/◌, ◌%◌, ◌^◌, ◌<◌, ◌≤◌, List, [], ◌∷◌, drop, arith, refl, ap, ◌∙◌, sym, subst, inl, inr, IsTrue}
use Rattle.std.proofs.lemmas.Nat.{field_of, mod-pow-add, shr-shr, pow-add, mod-mul-add, mod_below, pow_pos}
use Rattle.std.proofs.Math.Nat.{pow-succ', zero-div, div-div-eq-div-mul}
use Rattle.std.proofs.lemmas.Bool.{cases_eq}
use Rattle.std.proofs.lemmas.Bool.Decides.{nat_tests}
use Rattle.byteorder.specs.Endian.{little_number}
use Rattle.vol_spec.specs.Raw.{digit, number}
use Rattle.vol_spec.specs.SegChunks.{word, field}
use Rattle.vol_spec.specs.SegFaults.{is_allowed}
use Rattle.segment_blocks.specs.Row.{index_in}
use Rattle.segment_blocks.proofs.Values.{IsBytes}

-- what comes after the first bytes of a number
number_div : (b n : ℕ) → b < 256 → (b + 256 * n) / 256 ≡ n
number_div b n h = omega arith

pub number_drop : (k : ℕ) (xs : List ℕ) → IsBytes xs → number (drop k xs) ≡ number xs / 256 ^ k
number_drop zero xs fits = omega arith
number_drop (suc k) [] fits = sym (zero-div (256 ^ suc k))
number_drop (suc k) (x ∷ xs) fits =
    let lx : x < 256 = fits 0 in
    let rest : number (drop k xs) ≡ number xs / 256 ^ k = number_drop k xs (λ i. fits (suc i)) in
    rest ∙ ap (λ m. m / 256 ^ k) (sym (number_div x (number xs) lx)) ∙ div-div-eq-div-mul (x + 256 * number xs) 256 (256 ^ k) ∙ ap (λ m. (x + 256 * number xs) / m) (sym (pow-succ' 256 k))

front_number : (ys : List ℕ) → number (take 4 ys) ≡ little_number 4 ys
front_number [] = refl
front_number (a ∷ []) = refl
front_number (a ∷ b ∷ []) = refl
front_number (a ∷ b ∷ c ∷ []) = refl
front_number (a ∷ b ∷ c ∷ d ∷ rest) = refl

pub front_number_8 : (ys : List ℕ) → number (take 8 ys) ≡ little_number 8 ys
front_number_8 [] = refl
front_number_8 (a ∷ []) = refl
front_number_8 (a ∷ b ∷ []) = refl
front_number_8 (a ∷ b ∷ c ∷ []) = refl
front_number_8 (a ∷ b ∷ c ∷ d ∷ []) = refl
front_number_8 (a ∷ b ∷ c ∷ d ∷ e ∷ []) = refl
front_number_8 (a ∷ b ∷ c ∷ d ∷ e ∷ f ∷ []) = refl
front_number_8 (a ∷ b ∷ c ∷ d ∷ e ∷ f ∷ g ∷ []) = refl
front_number_8 (a ∷ b ∷ c ∷ d ∷ e ∷ f ∷ g ∷ h ∷ rest) = refl

pub word_digit : (bytes : List ℕ) (i : ℕ) → word bytes i ≡ digit bytes 4 i
unfolding word
word_digit bytes i = refl

-- a word, as it is read
pub word_little : (bytes : List ℕ) (i : ℕ) → word bytes i ≡ little_number 4 (drop (4 * i) bytes)
unfolding word
word_little bytes i = front_number (drop (4 * i) bytes)

-- the first word of a number
pub first_word : (xs : List ℕ) → IsBytes xs → little_number 4 xs ≡ number xs % 2 ^ 32
first_word [] fits = omega arith
first_word (a ∷ []) fits = let la : a < 256 = fits 0 in omega arith
first_word (a ∷ b ∷ []) fits = let la : a < 256 = fits 0 in let lb : b < 256 = fits 1 in omega arith
first_word (a ∷ b ∷ c ∷ []) fits = let la : a < 256 = fits 0 in let lb : b < 256 = fits 1 in let lc : c < 256 = fits 2 in omega arith
first_word (a ∷ b ∷ c ∷ d ∷ rest) fits =
    let la : a < 256 = fits 0 in
    let lb : b < 256 = fits 1 in
    let lc : c < 256 = fits 2 in
    let ld : d < 256 = fits 3 in
    let m : ℕ = number rest in
    omega arith

pub bytes_drop : (xs : List ℕ) (k : ℕ) → IsBytes xs → IsBytes (drop k xs)
bytes_drop xs zero fits i = fits i
bytes_drop [] (suc k) fits i = fits i
bytes_drop (x ∷ xs) (suc k) fits i = bytes_drop xs k (λ j. fits (suc j)) i

pub pow_bytes : (q : ℕ) → 256 ^ (4 * q) ≡ 2 ^ (32 * q)
pow_bytes zero = refl
pow_bytes (suc q) =
    let e : 4 * suc q ≡ 4 * q + 4 = omega arith in
    let f : 32 * q + 32 ≡ 32 * suc q = omega arith in
    ap (λ k. 256 ^ k) e ∙ pow-add 256 (4 * q) 4 ∙ ap (λ k. k * 4294967296) (pow_bytes q) ∙ sym (pow-add 2 (32 * q) 32) ∙ ap (λ k. 2 ^ k) f

not_allowed : (b : ℕ) → IsTrue (is_allowed b) → b ≢ 0 → b ≢ 1 → b ≢ 2 → b ≢ 4 → b ≢ 8 → b ≢ 16 → b ≢ 32 → ⊥
not_allowed b h n0 n1 n2 n4 n8 n16 n32 = grind (arith, nat_tests)

-- an allowed count of bits divides a word
pub in_word : (b n : ℕ) → IsTrue (is_allowed b) → n * b % 32 + b ≤ 32
in_word b n h =
    let P : ℕ → Type 0 = λ k. n * k % 32 + k ≤ 32 in
    elim (cases_eq b 0) [
      | inl e ↦ subst P (sym e) (omega arith)
      | inr n0 ↦ elim (cases_eq b 1) [
        | inl e ↦ subst P (sym e) (omega arith)
        | inr n1 ↦ elim (cases_eq b 2) [
          | inl e ↦ subst P (sym e) (omega arith)
          | inr n2 ↦ elim (cases_eq b 4) [
            | inl e ↦ subst P (sym e) (omega arith)
            | inr n4 ↦ elim (cases_eq b 8) [
              | inl e ↦ subst P (sym e) (omega arith)
              | inr n8 ↦ elim (cases_eq b 16) [
                | inl e ↦ subst P (sym e) (omega arith)
                | inr n16 ↦ elim (cases_eq b 32) [
                  | inl e ↦ subst P (sym e) (omega arith)
                  | inr n32 ↦ absurd (not_allowed b h n0 n1 n2 n4 n8 n16 n32)
                ]
              ]
            ]
          ]
        ]
      ]
    ]

low_low : (x b c : ℕ) → x % 2 ^ (c + b) % 2 ^ b ≡ x % 2 ^ b
low_low x b c = ap (λ q. q % 2 ^ b) (mod-pow-add x c b) ∙ mod-mul-add (x / 2 ^ b % 2 ^ c) (2 ^ b) (x % 2 ^ b) (mod_below x (2 ^ b) (pow_pos b))

-- the bits from a place on, in the lowest w bits
pub in_one : (m w r b : ℕ) → r + b ≤ w → m % 2 ^ w / 2 ^ r % 2 ^ b ≡ m / 2 ^ r % 2 ^ b
in_one m w r b h =
    let e : w ≡ (w - r) + r = omega arith in
    let f : w - r ≡ (w - r - b) + b = omega arith in
    ap (λ q. m % 2 ^ q / 2 ^ r % 2 ^ b) e ∙ ap (λ q. q % 2 ^ b) (field_of m (w - r) r) ∙ ap (λ q. m / 2 ^ r % 2 ^ q % 2 ^ b) f ∙ low_low (m / 2 ^ r) b (w - r - b)

pub field_is : (bytes : List ℕ) (a b n : ℕ) → IsBytes bytes → IsTrue (is_allowed b) → field bytes a b n ≡ index_in (drop (4 * a) bytes) b n
unfolding field index_in
field_is bytes a b n fits h =
    let xs : List ℕ = drop (4 * a) bytes in
    let fx : IsBytes xs = bytes_drop bytes (4 * a) fits in
    let q : ℕ = n * b / 32 in
    let r : ℕ = n * b % 32 in
    let here : word xs q ≡ number xs / 2 ^ (32 * q) % 2 ^ 32 =
    word_little xs q ∙ first_word (drop (4 * q) xs) (bytes_drop xs (4 * q) fx) ∙ ap (λ m. m % 2 ^ 32) (number_drop (4 * q) xs fx ∙ ap (λ p. number xs / p) (pow_bytes q)) in
    let split : 32 * q + r ≡ n * b = omega arith in
    let whole : number xs / 2 ^ (32 * q) / 2 ^ r ≡ number xs / 2 ^ (n * b) = shr-shr (number xs) (32 * q) r ∙ ap (λ p. number xs / 2 ^ p) split in
    sym (ap (λ m. m / 2 ^ r % 2 ^ b) here ∙ in_one (number xs / 2 ^ (32 * q)) 32 r b (in_word b n h) ∙ ap (λ m. m % 2 ^ b) whole)
