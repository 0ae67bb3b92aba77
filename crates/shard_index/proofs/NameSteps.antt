-- The text of a shard's name.
use Rattle.std.proofs.Common.{take, drop, slice_set, slice_index, ◌≡◌, ℕ, zero, suc, ◌+◌, ◌-◌, ◌*◌, ◌/◌, ◌%◌, ◌^◌, ◌<◌, ◌≤◌, List, [], ◌∷◌, ◌++◌, true, false, length, map, refl, ap, ◌∙◌, sym, arith, append_assoc, length-append, Some, None}
use Rattle.std.specs.Prelude.{if◌then◌else◌}
use Rattle.std.specs.Fmt.{digit_glyph}
use Rattle.std.specs.List.{range_with_len}
use Rattle.std.proofs.Math.Nat.{pow-suc, pow-succ', div-one, div-div-eq-div-mul}
use Rattle.std.proofs.Math.Pow.{pow_mono}
use Rattle.std.proofs.lemmas.Bool.{and_from}
use Rattle.std.proofs.lemmas.Bool.Decides.{nat_tests}
use Rattle.std.proofs.lemmas.List.{drop_at, take_at, take_more_set}
use Rattle.std.proofs.lemmas.List.FromFn.{length-map-range_with_len, get_or-map-range_with_len, map-range_with_len_more}
use Rattle.std.proofs.lemmas.Nat.{mod_below}
use Rattle.vol_base.proofs.NameBytes.{HasNameBytes, bytes-append, chosen, is_name-bytes}
use Rattle.vol_base.specs.Names.{is_name, is_name_byte}
use Rattle.vol_spec.specs.CellNames.{folder_of}
use Rattle.vol_spec.specs.declared.scale.Scale.{Scale}
use Rattle.vol_spec.specs.ShardNames.{filled_hex, hex_at, hex_len, shard_bits_of, shard_name, suffix}

-- a hexadecimal digit is four bits
pub sixteen : (k : ℕ) → 2 ^ (4 * k) ≡ 16 ^ k
sixteen zero = refl
sixteen (suc k) =
    let up : 4 * suc k ≡ suc (suc (suc (suc (4 * k)))) = omega arith in
    let a = pow-suc 2 (suc (suc (suc (4 * k)))) in
    let b = pow-suc 2 (suc (suc (4 * k))) in
    let c = pow-suc 2 (suc (4 * k)) in
    let d = pow-suc 2 (4 * k) in
    let was = sixteen k in
    let next = pow-suc 16 k in
    let more : 2 ^ suc (suc (suc (suc (4 * k)))) ≡ 16 ^ suc k = omega (arith, a, b, c, d, was, next) in
    ap (λ n. 2 ^ n) up ∙ more

low_digit : (d : ℕ) → d < 10 → digit_glyph false d ≡ 48 + d
low_digit d h = grind (arith, nat_tests)

high_digit : (d : ℕ) → 10 ≤ d → digit_glyph false d ≡ 97 + (d - 10)
high_digit d h = grind (arith, nat_tests)

four_bits : (n place : ℕ) → n / 2 ^ (4 * place) % 16 ≡ n / 16 ^ place % 16
four_bits n place = ap (λ p. n / p % 16) (sixteen place)

pub hex_low : (n place : ℕ) → n / 2 ^ (4 * place) % 16 < 10 → 48 + n / 2 ^ (4 * place) % 16 ≡ hex_at n place
hex_low n place h = sym (low_digit (n / 2 ^ (4 * place) % 16) h) ∙ ap (digit_glyph false) (four_bits n place)

pub hex_high : (n place : ℕ) → 10 ≤ n / 2 ^ (4 * place) % 16 → 97 + (n / 2 ^ (4 * place) % 16 - 10) ≡ hex_at n place
hex_high n place h = sym (high_digit (n / 2 ^ (4 * place) % 16) h) ∙ ap (digit_glyph false) (four_bits n place)

-- each byte is one of a name
bytes-map : (f : ℕ → ℕ) (xs : List ℕ) → ((i : ℕ) → is_name_byte (f i) ≡ true) → HasNameBytes (map f xs)
bytes-map f [] h = refl
bytes-map f (x ∷ xs) h = and_from _ _ (h x) (bytes-map f xs h)

glyph_byte : (d : ℕ) → d < 16 → is_name_byte (digit_glyph false d) ≡ true
glyph_byte d h = grind (arith, nat_tests)

hex_bytes : (n count : ℕ) → HasNameBytes (filled_hex n count)
hex_bytes n count = bytes-map (λ i. hex_at n (count - 1 - i)) (range_with_len 0 count) (λ i. glyph_byte (n / 16 ^ (count - 1 - i) % 16) (mod_below (n / 16 ^ (count - 1 - i)) 16 (omega arith)))

pub length-filled_hex : (n count : ℕ) → length (filled_hex n count) ≡ count
length-filled_hex n count = length-map-range_with_len (λ i. hex_at n (count - 1 - i)) 0 count

-- what `Name::new` answers at a name
pub told_file : (n count : ℕ) → count ≤ 16 → (if is_name (filled_hex n count ++ suffix) then Some (filled_hex n count ++ suffix) else None) ≡ Some (filled_hex n count ++ suffix)
told_file n count h =
    let long : length (filled_hex n count ++ suffix) ≡ count + 6 = length-append (filled_hex n count) suffix ∙ ap (λ k. k + 6) (length-filled_hex n count) in
    chosen (filled_hex n count ++ suffix) (is_name (filled_hex n count ++ suffix)) (is_name-bytes (filled_hex n count ++ suffix) (bytes-append (filled_hex n count) suffix (hex_bytes n count) refl) (omega arith) (omega arith))

pub told_text : (text : List ℕ) (n count : ℕ) → text ≡ filled_hex n count ++ suffix → count ≤ 16 → (if is_name text then Some text else None) ≡ Some text
told_text text n count e h = rw e (told_file n count h)

pub short_text : (text : List ℕ) (n count : ℕ) → text ≡ filled_hex n count ++ suffix → count ≤ 16 → length text ≤ 22
short_text text n count e h =
    let long : length text ≡ count + 6 = ap length e ∙ length-append (filled_hex n count) suffix ∙ ap (λ k. k + 6) (length-filled_hex n count) in
    omega arith

-- one digit more
pub digits_more : (to : List ℕ) (n count i d : ℕ) → i < length to → d ≡ hex_at n (count - 1 - i) → take i to ≡ map (λ k. hex_at n (count - 1 - k)) (range_with_len 0 i)
    → take (i + 1) (slice_set to i d) ≡ map (λ k. hex_at n (count - 1 - k)) (range_with_len 0 (i + 1))
digits_more to n count i d h e was =
    take_more_set to i d h ∙ ap (λ xs. xs ++ d ∷ []) was ∙ ap (λ m. map (λ k. hex_at n (count - 1 - k)) (range_with_len 0 i) ++ m ∷ []) e
    ∙ sym (map-range_with_len_more (λ k. hex_at n (count - 1 - k)) 0 i i (omega arith))

-- two numbers with the same digits are one
glyphs_tell : (a b : ℕ) → a < 16 → b < 16 → digit_glyph false a ≡ digit_glyph false b → a ≡ b
glyphs_tell a b h k e = grind (arith, nat_tests)

digits_tell : (count m n : ℕ) → m < 16 ^ count → n < 16 ^ count → ((place : ℕ) → place < count → m / 16 ^ place % 16 ≡ n / 16 ^ place % 16) → m ≡ n
digits_tell zero m n h k same = omega arith
digits_tell (suc count) m n h k same =
    let up = pow-suc 16 count in
    let low : m % 16 ≡ n % 16 = ap (λ x. x % 16) (sym (div-one m)) ∙ same 0 (omega arith) ∙ ap (λ x. x % 16) (div-one n) in
    let high : m / 16 ≡ n / 16 = digits_tell count (m / 16) (n / 16) (omega arith) (omega arith) (λ place l.
    ap (λ x. x % 16) (one_on m place) ∙ same (suc place) (omega arith) ∙ ap (λ x. x % 16) (sym (one_on n place))) in
    omega arith
  where
    one_on : (x place : ℕ) → x / 16 / 16 ^ place ≡ x / 16 ^ suc place
    one_on x place = div-div-eq-div-mul x 16 (16 ^ place) ∙ ap (λ p. x / p) (sym (pow-succ' 16 place))

pub filled_hex-tells : (count m n : ℕ) → m < 16 ^ count → n < 16 ^ count → filled_hex m count ≡ filled_hex n count → m ≡ n
filled_hex-tells count m n h k e =
    digits_tell count m n h k (λ place l.
    glyphs_tell (m / 16 ^ place % 16) (n / 16 ^ place % 16) (mod_below (m / 16 ^ place) 16 (omega arith)) (mod_below (n / 16 ^ place) 16 (omega arith)) (here m place l ∙ ap (λ xs. slice_index xs (count - 1 - place)) e ∙ sym (here n place l)))
  where
    here : (x place : ℕ) → place < count → hex_at x place ≡ slice_index (filled_hex x count) (count - 1 - place)
    here x place l =
        let back : count - 1 - (count - 1 - place) ≡ place = omega arith in
        ap (hex_at x) (sym back) ∙ sym (get_or-map-range_with_len (λ i. hex_at x (count - 1 - i)) 0 count (count - 1 - place) (count - 1 - place) 0 (omega arith) (omega arith))

drop_joined : (xs ys : List ℕ) → drop (length xs + 1) (xs ++ 47 ∷ ys) ≡ ys
drop_joined xs ys = ap (drop (length xs + 1)) (sym (append_assoc xs (47 ∷ []) ys)) ∙ drop_at (xs ++ 47 ∷ []) ys (length xs + 1) (length-append xs (47 ∷ []))

-- a shard has room in its digits
fits_digits : (bits shard : ℕ) → shard < 2 ^ bits → shard < 16 ^ hex_len bits
fits_digits bits shard h =
    let long : bits ≤ 4 * hex_len bits = omega arith in
    let up : 2 ^ bits ≤ 2 ^ (4 * hex_len bits) = pow_mono long in
    let same = sixteen (hex_len bits) in
    omega arith

-- two shards of a scale have two names
pub shard_name-tells : (dataset : List ℕ) (s : Scale) (m n : ℕ) → m < 2 ^ shard_bits_of s → n < 2 ^ shard_bits_of s → shard_name dataset s m ≡ shard_name dataset s n → m ≡ n
shard_name-tells dataset s m n h k e =
    let count = hex_len (shard_bits_of s) in
    let folder = folder_of dataset s in
    let files : filled_hex m count ++ suffix ≡ filled_hex n count ++ suffix =
    sym (drop_joined folder (filled_hex m count ++ suffix)) ∙ ap (drop (length folder + 1)) e ∙ drop_joined folder (filled_hex n count ++ suffix) in
    let digits : filled_hex m count ≡ filled_hex n count =
    sym (take_at (filled_hex m count) suffix count (length-filled_hex m count)) ∙ ap (take count) files ∙ take_at (filled_hex n count) suffix count (length-filled_hex n count) in
    filled_hex-tells count m n (fits_digits (shard_bits_of s) m h) (fits_digits (shard_bits_of s) n k) digits
