-- What is written is read again.
use Rattle.std.proofs.Common.{◌≡◌, ℕ, zero, suc, ◌+◌, ◌-◌, ◌*◌, ◌/◌, ◌%◌, ◌^◌, ◌<◌, ◌≤◌, List, [], ◌∷◌, ◌++◌, length, get_or, arith, refl, ap, ◌∙◌, sym, append_assoc}
use Rattle.byteorder.specs.Endian.{little_bytes}
use Rattle.vol_spec.specs.BoxValues.{bytes_of}
use Rattle.std.specs.Prelude.{flat_map}
use Rattle.std.specs.Int.{bytes_low_first, byte_at}
use Rattle.std.specs.List.{range_with_len}
use Rattle.std.proofs.lemmas.Nat.{field_of, mod-pow-add, mod-mul-add, pow-add, pow_pos, mod_below}
use Rattle.std.proofs.Math.Nat.{mod-eq_of_lt, pow-succ', pow-suc, div-div-eq-div-mul, mod-add-div}
use Rattle.vol_spec.specs.Raw.{number}

-- a list of pieces from its k-th piece on
pub flat_split : (g : ℕ → List ℕ) (a k n : ℕ) → k < n → flat_map g (range_with_len a n) ≡ flat_map g (range_with_len a k) ++ (g (a + k) ++ flat_map g (range_with_len (a + k + 1) (n - k - 1)))
flat_split g a k zero h = absurd (omega arith)
flat_split g a zero (suc n) h =
    let e : a + 0 ≡ a = omega arith in
    let f : suc n - 0 - 1 ≡ n = omega arith in
    ap (λ m. g a ++ flat_map g (range_with_len (a + 1) m)) (sym f) ∙ ap (λ m. g m ++ flat_map g (range_with_len (m + 1) (suc n - 0 - 1))) (sym e)
flat_split g a (suc k) (suc n) h =
    let rest = flat_split g (a + 1) k n (omega arith) in
    let e : a + 1 + k ≡ a + suc k = omega arith in
    let f : n - k - 1 ≡ suc n - suc k - 1 = omega arith in
    ap (λ xs. g a ++ xs) rest
    ∙ sym (append_assoc (g a) (flat_map g (range_with_len (a + 1) k)) (g (a + 1 + k) ++ flat_map g (range_with_len (a + 1 + k + 1) (n - k - 1))))
    ∙ ap (λ m. (g a ++ flat_map g (range_with_len (a + 1) k)) ++ (g m ++ flat_map g (range_with_len (m + 1) (n - k - 1)))) e
    ∙ ap (λ m. (g a ++ flat_map g (range_with_len (a + 1) k)) ++ (g (a + suc k) ++ flat_map g (range_with_len (a + suc k + 1) m))) f

-- the number of a number's bytes
byte_is : (i x : ℕ) → byte_at i x ≡ x / 256 ^ i % 256
byte_is zero x = omega arith
byte_is (suc i) x = refl

pub pow_of : (k : ℕ) → 256 ^ k ≡ 2 ^ (8 * k)
pow_of zero = refl
pow_of (suc k) =
    let e : 8 * k + 8 ≡ 8 * suc k = omega arith in
    pow-suc 256 k ∙ ap (λ q. q * 256) (pow_of k) ∙ sym (pow-add 2 (8 * k) 8) ∙ ap (λ q. 2 ^ q) e

pub number_bytes : (i n x : ℕ) → number (bytes_low_first i n x) ≡ x / 256 ^ i % 256 ^ n
number_bytes i zero x = omega arith
number_bytes i (suc n) x =
    let m : ℕ = x / 256 ^ i in
    let rest : number (bytes_low_first (suc i) n x) ≡ x / 256 ^ suc i % 256 ^ n = number_bytes (suc i) n x in
    let d : x / 256 ^ suc i ≡ m / 256 = ap (λ q. x / q) (pow-suc 256 i) ∙ sym (div-div-eq-div-mul x (256 ^ i) 256) in
    let s : 8 * n + 8 ≡ 8 * suc n = omega arith in
    let p : 256 ^ suc n ≡ 2 ^ (8 * n + 8) = pow_of (suc n) ∙ ap (λ k. 2 ^ k) (sym s) in
    let whole : m % 2 ^ (8 * n + 8) ≡ m / 2 ^ 8 % 2 ^ (8 * n) * 2 ^ 8 + m % 2 ^ 8 = mod-pow-add m (8 * n) 8 in
    let q : m / 256 % 256 ^ n ≡ m / 256 % 2 ^ (8 * n) = ap (λ k. m / 256 % k) (pow_of n) in
    let first : byte_at i x ≡ m % 256 = byte_is i x in
    let r : number (bytes_low_first (suc i) n x) ≡ m / 256 % 2 ^ (8 * n) = rest ∙ ap (λ k. k % 256 ^ n) d ∙ q in
    let t : m % 256 ^ suc n ≡ m % 2 ^ (8 * n + 8) = ap (λ k. m % k) p in
    omega (arith, first, r, t, whole)

-- bits below those of what follows
pub high_away : (p r m j b : ℕ) → j + b ≤ m → (p + 2 ^ m * r) / 2 ^ j % 2 ^ b ≡ p / 2 ^ j % 2 ^ b
high_away p r m j b h =
    let c : ℕ = m - (b + j) in
    let s : m ≡ c + (b + j) = omega arith in
    let power : 2 ^ m ≡ 2 ^ c * 2 ^ (b + j) = ap (λ k. 2 ^ k) s ∙ pow-add 2 c (b + j) in
    let low : p % 2 ^ (b + j) + 2 ^ (b + j) * (p / 2 ^ (b + j)) ≡ p = mod-add-div p (2 ^ (b + j)) in
    let e : 2 ^ m * r ≡ 2 ^ c * 2 ^ (b + j) * r = ap (λ q. q * r) power in
    let f : p + 2 ^ m * r ≡ (p / 2 ^ (b + j) + 2 ^ c * r) * 2 ^ (b + j) + p % 2 ^ (b + j) = omega (arith, low, e) in
    let same : (p + 2 ^ m * r) % 2 ^ (b + j) ≡ p % 2 ^ (b + j) = ap (λ q. q % 2 ^ (b + j)) f ∙ mod-mul-add (p / 2 ^ (b + j) + 2 ^ c * r) (2 ^ (b + j)) (p % 2 ^ (b + j)) (mod_below p (2 ^ (b + j)) (pow_pos (b + j))) in
    sym (field_of (p + 2 ^ m * r) b j) ∙ ap (λ q. q / 2 ^ j) same ∙ field_of p b j

-- bytes are those of their number: the first of them, and the rest
pub first_byte : (x n : ℕ) (xs : List ℕ) → x < 256 → (number (x ∷ xs) % 256 ≡ x) × (number (x ∷ xs) / 256 ≡ number xs)
first_byte x n xs h = (omega arith, omega arith)

next_byte : (i n : ℕ) → byte_at (suc i) n ≡ byte_at i (n / 256)
next_byte i n =
    let p : 256 * 256 ^ i ≡ 256 ^ suc i = sym (pow-succ' 256 i) in
    ap (λ q. n / q % 256) (sym p) ∙ ap (λ q. q % 256) (sym (div-div-eq-div-mul n 256 (256 ^ i))) ∙ sym (byte_is i (n / 256))

next_bytes : (i w n : ℕ) → bytes_low_first (suc i) w n ≡ bytes_low_first i w (n / 256)
next_bytes i zero n = refl
next_bytes i (suc w) n = ap (λ b. b ∷ bytes_low_first (suc (suc i)) w n) (next_byte i n) ∙ ap (λ bs. byte_at i (n / 256) ∷ bs) (next_bytes (suc i) w n)

pub bytes_again : (xs : List ℕ) → ((i : ℕ) → get_or xs i 0 < 256) → little_bytes (length xs) (number xs) ≡ xs
bytes_again [] fits = refl
bytes_again (x ∷ xs) fits =
    let f = first_byte x 0 xs (fits 0) in
    ap (λ b. b ∷ bytes_low_first 1 (length xs) (number (x ∷ xs))) f.0
    ∙ ap (λ bs. x ∷ bs) (next_bytes 0 (length xs) (number (x ∷ xs)) ∙ ap (bytes_low_first 0 (length xs)) f.1 ∙ bytes_again xs (λ i. fits (suc i)))

-- the same bytes, as the format's definitions have them
pub bytes_little : (w n : ℕ) → bytes_of w n ≡ little_bytes w n
bytes_little zero n = refl
bytes_little (suc w) n =
    let first : byte_at 0 n ≡ n % 256 = byte_is 0 n ∙ omega arith in
    ap (λ bs. (n % 256) ∷ bs) (bytes_little w (n / 256) ∙ sym (next_bytes 0 w n)) ∙ ap (λ b. b ∷ bytes_low_first 1 w n) (sym first)

pub length_bytes : (w x : ℕ) → length (bytes_of w x) ≡ w
length_bytes zero x = refl
length_bytes (suc w) x = let h = length_bytes w (x / 256) in omega arith

pub number_of : (w x : ℕ) → number (bytes_of w x) ≡ x % 256 ^ w
number_of w x =
    let one : x / 256 ^ 0 ≡ x = omega arith in
    ap number (bytes_little w x) ∙ number_bytes 0 w x ∙ ap (λ q. q % 256 ^ w) one

-- what is below is the number of its bytes
pub number_of_bytes : (w x : ℕ) → x < 256 ^ w → number (bytes_of w x) ≡ x
number_of_bytes w x h = number_of w x ∙ mod-eq_of_lt h

pub bytes_of_number : (xs : List ℕ) → ((i : ℕ) → get_or xs i 0 < 256) → bytes_of (length xs) (number xs) ≡ xs
bytes_of_number xs fits = bytes_little (length xs) (number xs) ∙ bytes_again xs fits
