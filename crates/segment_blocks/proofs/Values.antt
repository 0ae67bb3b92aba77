-- A value written over a value.
use Rattle.std.proofs.Common.{◌≡◌, ◌≢◌, ◌⊎◌, ℕ, ◌+◌, ◌-◌, ◌*◌, ◌/◌, ◌%◌, ◌<◌, ◌≤◌, ◌++◌, List, [], ◌∷◌, length, get_or, take, drop, arith, inl, inr, ⊎_elim, length-take, length-drop}
use Rattle.std.proofs.lemmas.Bool.{cases_lt}
use Rattle.std.proofs.lemmas.Grind.{common_steps, same_number_lists}
use Rattle.std.proofs.Math.Nat.{mul-le-mul_left}
use Rattle.std.proofs.Math.ListN.{get_or-eq_default}
use Rattle.byteorder.specs.Endian.{little_number, little_bytes}
use Rattle.vol_base.specs.Boxes.{value}
use borrow.Rule.Slice.PartMut.{put_mid}

-- each is a byte
abbrev pub IsBytes : List ℕ → Type 0
IsBytes bytes = (i : ℕ) → get_or bytes i 0 < 256

low : (a n : ℕ) → a < 256 → (a + 256 * n) % 256 ≡ a
low a n h = omega arith

high : (a n : ℕ) → a < 256 → (a + 256 * n) / 256 ≡ n
high a n h = omega arith

div-div : (n : ℕ) → n / 65536 ≡ n / 256 / 256
div-div n = omega arith

div-3 : (n : ℕ) → n / 16777216 ≡ n / 256 / 256 / 256
div-3 n = omega arith

div-4 : (n : ℕ) → n / 4294967296 ≡ n / 256 / 256 / 256 / 256
div-4 n = omega arith

div-5 : (n : ℕ) → n / 1099511627776 ≡ n / 256 / 256 / 256 / 256 / 256
div-5 n = omega arith

div-6 : (n : ℕ) → n / 281474976710656 ≡ n / 256 / 256 / 256 / 256 / 256 / 256
div-6 n = omega arith

div-7 : (n : ℕ) → n / 72057594037927936 ≡ n / 256 / 256 / 256 / 256 / 256 / 256 / 256
div-7 n = omega arith

-- the bytes of the number that bytes spell
pub bytes_4 : (xs : List ℕ) → 4 ≤ length xs → IsBytes xs → little_bytes 4 (little_number 4 xs) ≡ take 4 xs
bytes_4 [] h fits = absurd (omega arith)
bytes_4 (a ∷ []) h fits = absurd (omega arith)
bytes_4 (a ∷ b ∷ []) h fits = absurd (omega arith)
bytes_4 (a ∷ b ∷ c ∷ []) h fits = absurd (omega arith)
bytes_4 (a ∷ b ∷ c ∷ d ∷ rest) h fits =
    let la : a < 256 = fits 0 in
    let lb : b < 256 = fits 1 in
    let lc : c < 256 = fits 2 in
    let ld : d < 256 = fits 3 in
    simp (div-div, div-3, high, low)

pub bytes_8 : (xs : List ℕ) → 8 ≤ length xs → IsBytes xs → little_bytes 8 (little_number 8 xs) ≡ take 8 xs
bytes_8 [] h fits = absurd (omega arith)
bytes_8 (a ∷ []) h fits = absurd (omega arith)
bytes_8 (a ∷ b ∷ []) h fits = absurd (omega arith)
bytes_8 (a ∷ b ∷ c ∷ []) h fits = absurd (omega arith)
bytes_8 (a ∷ b ∷ c ∷ d ∷ []) h fits = absurd (omega arith)
bytes_8 (a ∷ b ∷ c ∷ d ∷ e ∷ []) h fits = absurd (omega arith)
bytes_8 (a ∷ b ∷ c ∷ d ∷ e ∷ f ∷ []) h fits = absurd (omega arith)
bytes_8 (a ∷ b ∷ c ∷ d ∷ e ∷ f ∷ g ∷ []) h fits = absurd (omega arith)
bytes_8 (a ∷ b ∷ c ∷ d ∷ e ∷ f ∷ g ∷ i ∷ rest) h fits =
    let la : a < 256 = fits 0 in
    let lb : b < 256 = fits 1 in
    let lc : c < 256 = fits 2 in
    let ld : d < 256 = fits 3 in
    let le : e < 256 = fits 4 in
    let lf : f < 256 = fits 5 in
    let lg : g < 256 = fits 6 in
    let li : i < 256 = fits 7 in
    simp (div-div, div-3, div-4, div-5, div-6, div-7, high, low)

-- what was written stands there
pub written_at : (w j k : ℕ) (xs ys rest : List ℕ) → w * j ≤ length xs → length ys ≡ w → value w (put_mid (w * j) k xs (ys ++ rest)) j ≡ ys
written_at w j k xs ys rest within len = grind (arith, common_steps)

-- and every other value is as before
same_elsewhere : (a w k : ℕ) (xs ys : List ℕ) (i : ℕ) → a + w ≤ length xs → k ≡ length xs - a → length ys ≡ w → (i < a) ⊎ (a + w ≤ i)
    → get_or (put_mid a k xs (ys ++ drop w (take k (drop a xs)))) i 0 ≡ get_or xs i 0
same_elsewhere a w k xs ys i within ek len (inl below) = grind (arith, common_steps)
same_elsewhere a w k xs ys i within ek len (inr above) = grind (arith, common_steps)

pub stays : (w j m k : ℕ) (xs ys : List ℕ) → w * j + w ≤ length xs → k ≡ length xs - w * j → length ys ≡ w → m ≢ j
    → value w (put_mid (w * j) k xs (ys ++ drop w (take k (drop (w * j) xs)))) m ≡ value w xs m
stays w j m k xs ys within ek len other =
    let new : List ℕ = put_mid (w * j) k xs (ys ++ drop w (take k (drop (w * j) xs))) in
    let len_new : length new ≡ length xs = grind (arith, common_steps) in
    let apart : (q : ℕ) → q < w → (w * m + q < w * j) ⊎ (w * j + w ≤ w * m + q) = λ q lq. ⊎_elim
    (λ (l : m < j). let e : w * (m + 1) ≤ w * j = mul-le-mul_left w (omega arith) in inl (omega arith))
    (λ (g : j ≤ m). let e : w * (j + 1) ≤ w * m = mul-le-mul_left w (omega arith) in inr (omega arith))
    (cases_lt m j) in
    same_number_lists _ _ (omega (arith, length-take w (drop (w * m) new), length-drop (w * m) new, length-take w (drop (w * m) xs), length-drop (w * m) xs))
    (λ q lq.
    let less : q < w = omega (arith, length-take w (drop (w * m) new)) in
    let here = same_elsewhere (w * j) w k xs ys (w * m + q) within ek len (apart q less) in
    grind (arith, common_steps))

-- part of bytes
pub part_bytes : (xs : List ℕ) (a k : ℕ) → IsBytes xs → IsBytes (take k (drop a xs))
part_bytes xs a k fits i = ⊎_elim
    (λ (l : i < length (take k (drop a xs))).
    let here : get_or (take k (drop a xs)) i 0 ≡ get_or xs (a + i) 0 = grind (arith, common_steps) in
    omega (arith, fits (a + i)))
    (λ (g : length (take k (drop a xs)) ≤ i).
    let past : get_or (take k (drop a xs)) i 0 ≡ 0 = get_or-eq_default (take k (drop a xs)) 0 g in
    omega arith)
    (cases_lt i (length (take k (drop a xs))))

-- the first value of what begins with a value
pub first_value : (w i k : ℕ) (xs : List ℕ) → w * i + w ≤ length xs → k ≡ length xs - w * i → take w (take k (drop (w * i) xs)) ≡ value w xs i
first_value w i k xs within ek = grind (arith, common_steps)
