-- Indices that stand in bytes, packed again.
use Rattle.std.proofs.Common.{◌≡◌, ℕ, zero, suc, ◌+◌, ◌*◌, ◌/◌, ◌%◌, ◌^◌, ◌<◌, ◌≤◌, List, ◌∷◌, length, take, drop, arith, refl, ap, ◌∙◌, sym, subst, ⊎_elim, length-take, IsTrue}
use Rattle.std.specs.Prelude.{map}
use Rattle.std.specs.List.{range_with_len}
use Rattle.std.proofs.lemmas.Bool.{cases_lt}
use Rattle.std.proofs.lemmas.List.{take-append-drop}
use Rattle.std.proofs.lemmas.Nat.{div_below, mod-pow-add, pow-add, pow_pos, shr-shr}
use Rattle.std.proofs.Math.Nat.{div-eq_of_lt, le-mul_of_pos_right, lt-div-mul-add, mod-eq_of_lt, mul-le-mul_right, pow-le-pow_right}
use Rattle.vol_spec.specs.BoxValues.{bytes_of}
use Rattle.vol_spec.specs.Raw.{number}
use Rattle.vol_spec.specs.SegBlocks.{packed_words}
use Rattle.vol_spec.specs.SegChunks.{field}
use Rattle.vol_spec.specs.SegFaults.{is_allowed}
use Rattle.vol_spec.specs.SegWritten.{packed}
use Rattle.vol_spec.proofs.CutSteps.{bytes_again, bytes_part}
use Rattle.vol_spec.proofs.RawSteps.{number-lt}
use Rattle.segment_blocks.specs.Row.{index_in}
use Rattle.segment_blocks.proofs.Again.{high_away}
use Rattle.segment_blocks.proofs.Field.{field_is, in_word, pow_bytes}
use Rattle.segment_blocks.proofs.Packing.{number_append}
use Rattle.segment_blocks.proofs.Values.{IsBytes}

-- functions that agree on a range
pub map_same : (f g : ℕ → ℕ) (a n : ℕ) → ((i : ℕ) → a ≤ i → i < a + n → f i ≡ g i) → map f (range_with_len a n) ≡ map g (range_with_len a n)
map_same f g a zero h = refl
map_same f g a (suc n) h = ap (λ q. q ∷ map f (range_with_len (a + 1) n)) (h a (omega arith) (omega arith)) ∙ ap (λ q. g a ∷ q) (map_same f g (a + 1) n (λ i l m. h i (omega arith) (omega arith)))

abbrev pub part : ℕ → ℕ → ℕ → ℕ
part x b m = x / 2 ^ (m * b) % 2 ^ b

-- the parts of a number from one on, packed
parts_from : (x b a n : ℕ) → packed b (map (part x b) (range_with_len a n)) ≡ x / 2 ^ (a * b) % 2 ^ (n * b)
parts_from x b a zero =
    let z : 0 * b ≡ 0 = omega arith in
    let e : x / 2 ^ (a * b) % 2 ^ (0 * b) ≡ x / 2 ^ (a * b) % 1 = ap (λ q. x / 2 ^ (a * b) % 2 ^ q) z in
    omega (arith, e)
parts_from x b a (suc n) =
    let y : ℕ = x / 2 ^ (a * b) in
    let s : a * b + b ≡ (a + 1) * b = omega arith in
    let t : n * b + b ≡ suc n * b = omega arith in
    let rest : packed b (map (part x b) (range_with_len (a + 1) n)) ≡ y / 2 ^ b % 2 ^ (n * b) = parts_from x b (a + 1) n ∙ ap (λ q. x / 2 ^ q % 2 ^ (n * b)) (sym s) ∙ ap (λ q. q % 2 ^ (n * b)) (sym (shr-shr x (a * b) b)) in
    let whole : y % 2 ^ (n * b + b) ≡ y / 2 ^ b % 2 ^ (n * b) * 2 ^ b + y % 2 ^ b = mod-pow-add y (n * b) b in
    ap (λ q. y % 2 ^ b + 2 ^ b * q) rest ∙ omega (arith, whole) ∙ ap (λ q. y % 2 ^ q) t

pub parts_packed : (x b n : ℕ) → x < 2 ^ (n * b) → packed b (map (part x b) (range_with_len 0 n)) ≡ x
parts_packed x b n h =
    let z : 0 * b ≡ 0 = omega arith in
    let one : x / 2 ^ (0 * b) ≡ x / 1 = ap (λ q. x / 2 ^ q) z in
    let whole : x / 1 ≡ x = omega arith in
    parts_from x b 0 n ∙ ap (λ q. q % 2 ^ (n * b)) (one ∙ whole) ∙ mod-eq_of_lt h

-- a number whose parts from one on are 0
none_above : (x b n d : ℕ) → x < 2 ^ ((n + d) * b) → ((m : ℕ) → n ≤ m → part x b m ≡ 0) → x < 2 ^ (n * b)
none_above x b n zero h none =
    let e : (n + 0) * b ≡ n * b = omega arith in
    subst (λ q. x < 2 ^ q) e h
none_above x b n (suc d) h none =
    let m : ℕ = n + d in
    let e : (n + suc d) * b ≡ b + m * b = omega arith in
    let power : 2 ^ ((n + suc d) * b) ≡ 2 ^ b * 2 ^ (m * b) = ap (λ q. 2 ^ q) e ∙ pow-add 2 b (m * b) in
    let below : x / 2 ^ (m * b) < 2 ^ b = div_below x (2 ^ (m * b)) (2 ^ b) (pow_pos (m * b)) (subst (λ q. x < q) power h) in
    let zero_is : x / 2 ^ (m * b) ≡ 0 = sym (mod-eq_of_lt below) ∙ none m (omega arith) in
    none_above x b n d (less x (2 ^ (m * b)) (pow_pos (m * b)) zero_is) none
  where
    less : (y p : ℕ) → 0 < p → y / p ≡ 0 → y < p
    less y p pp e =
        let l = lt-div-mul-add {a = y} {b = p} pp in
        let f : y / p * p ≡ 0 * p = ap (λ q. q * p) e in
        omega (arith, f, l)

-- the words of so many indices are enough for them
enough : (b n : ℕ) → b * n ≤ 32 * packed_words b n
enough b n = omega arith

fits_words : (b m p : ℕ) → IsTrue (is_allowed b) → m * b < 32 * p → m * b + b ≤ 32 * p
fits_words b m p al h =
    let r = in_word b m al in
    omega arith

many : (b n : ℕ) → 32 * packed_words b n ≤ (n + 32 * packed_words b n) * b
many zero n = omega arith
many (suc b) n =
    let p : ℕ = 32 * packed_words (suc b) n in
    let l : p ≤ p * suc b = le-mul_of_pos_right p (omega arith) in
    omega (arith, l)

-- the bytes of n indices are those of the indices packed again, where nothing stands behind them
pub packed_again : (values : List ℕ) (b n : ℕ) (index : ℕ → ℕ) → IsBytes values → IsTrue (is_allowed b) → 4 * packed_words b n ≤ length values
    → ((m : ℕ) → m < n → index m ≡ index_in values b m) → ((m : ℕ) → n ≤ m → m * b < 32 * packed_words b n → index_in values b m ≡ 0)
    → bytes_of (4 * packed_words b n) (packed b (map index (range_with_len 0 n))) ≡ take (4 * packed_words b n) values
unfolding field
packed_again values b n index fits al room same rest =
    let p : ℕ = packed_words b n in
    let front : List ℕ = take (4 * p) values in
    let behind : List ℕ = drop (4 * p) values in
    let y : ℕ = number front in
    let len : length front ≡ 4 * p = omega (arith, length-take (4 * p) values) in
    let bytes : IsBytes front = bytes_part (4 * p) 0 values fits in
    let small : y < 2 ^ (32 * p) = subst (λ q. y < q) (pow_bytes p) (number-lt (4 * p) front (omega arith) bytes) in
    let split : number values ≡ y + 2 ^ (32 * p) * number behind =
    ap number (sym (take-append-drop (4 * p) values)) ∙ number_append front behind ∙ ap (λ q. y + 256 ^ q * number behind) len ∙ ap (λ q. y + q * number behind) (pow_bytes p) in
    let at : (m : ℕ) → m * b + b ≤ 32 * p → part y b m ≡ index_in values b m =
    λ m l. sym (high_away y (number behind) (32 * p) (m * b) b l) ∙ ap (λ q. q / 2 ^ (m * b) % 2 ^ b) (sym split) ∙ field_is values 0 b m fits al in
    let none : (m : ℕ) → n ≤ m → part y b m ≡ 0 =
    λ m l. ⊎_elim
    (λ (less : m * b < 32 * p). at m (fits_words b m p al less) ∙ rest m l less)
    (λ (more : 32 * p ≤ m * b).
    let high : 2 ^ (32 * p) ≤ 2 ^ (m * b) = pow-le-pow_right {n = 2} (omega arith) {i = 32 * p} {j = m * b} more in
    let nothing : y / 2 ^ (m * b) ≡ 0 = div-eq_of_lt {n = y} {m = 2 ^ (m * b)} (omega (arith, small, high)) in
    ap (λ q. q % 2 ^ b) nothing ∙ zero_mod (2 ^ b) (pow_pos b))
    (cases_lt (m * b) (32 * p)) in
    let top : 2 ^ (32 * p) ≤ 2 ^ ((n + 32 * p) * b) = pow-le-pow_right {n = 2} (omega arith) {i = 32 * p} {j = (n + 32 * p) * b} (many b n) in
    let all : y < 2 ^ (n * b) = none_above y b n (32 * p) (omega (arith, small, top)) none in
    let here : (m : ℕ) → 0 ≤ m → m < 0 + n → index m ≡ part y b m =
    λ m z l.
    let u : (m + 1) * b ≤ n * b = mul-le-mul_right b (omega arith) in
    same m (omega arith) ∙ sym (at m (omega (arith, u, enough b n))) in
    ap (λ q. bytes_of (4 * p) (packed b q)) (map_same index (part y b) 0 n here) ∙ ap (bytes_of (4 * p)) (parts_packed y b n all) ∙ bytes_again front (4 * p) len bytes
  where
    zero_mod : (p : ℕ) → 0 < p → 0 % p ≡ 0
    zero_mod p l = omega arith
