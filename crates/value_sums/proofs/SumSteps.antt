-- The sum of values.
use Rattle.std.proofs.Common.{◌≡◌, ◌∙◌, ◌<◌, ◌≤◌, ◌+◌, ◌-◌, ◌*◌, ◌/◌, ◌%◌, ◌^◌, ℕ, zero, suc, List, [], ◌∷◌, length, length-drop, map, sum, drop, take, refl, ap, arith}
use Rattle.std.specs.Prelude.{slice_index}
use Rattle.std.specs.List.{range_with_len}
use Rattle.std.proofs.lemmas.List.{take_all}
use Rattle.std.proofs.lemmas.List.FromFn.{sum_by-map-range_with_len_more}
use Rattle.std.proofs.lemmas.Nat.{div-add-mod', div-mul-add, row_fits_turned}
use Rattle.byteorder.specs.Endian.{little_from, little_number}
use Rattle.vol_base.specs.Boxes.{voxels}
use Rattle.vol_base.specs.declared.boxes.Box3.{Box3}
use Rattle.vol_spec.specs.BoxValues.{bytes_of, channel_of, position_of}
use Rattle.vol_spec.specs.Raw.{digit, number}
use Rattle.vol_spec.specs.StoredCells.{raw_bytes}
use Rattle.vol_spec.specs.Types.{Bytes, Position}
use Rattle.vol_spec.proofs.RawSteps.{length-bytes_of, number_again, value-pieces}
use Rattle.value_sums.specs.Sums.{sum_in}

-- a value lies within the values
pub value_fits : (n w len : ℕ) → n < len / w → n * w + w ≤ len
value_fits n w len h =
    let fits : n * w + w ≤ w * (len / w) = row_fits_turned n w w (len / w) h (omega arith) in
    let whole : len / w * w + len % w ≡ len = div-add-mod' len w in
    omega (arith, fits, whole)

-- how many values a box has
pub values_in : (count w len : ℕ) → 0 < w → len ≡ count * w → len / w ≡ count
values_in count w len some e = ap (λ n. n / w) (let more : len ≡ count * w + 0 = omega (arith, e) in more) ∙ div-mul-add count w 0 some

-- a number is read from its bytes
from_tail : (n i x : ℕ) (xs : List ℕ) → little_from (suc i) n (x ∷ xs) ≡ little_from i n xs
from_tail zero i x xs = refl
from_tail (suc n) i x xs = ap (λ k. slice_index xs i + 256 * k) (from_tail n (suc i) x xs)

from_none : (n i : ℕ) → little_from i n [] ≡ 0
from_none zero i = refl
from_none (suc n) i = ap (λ k. 0 + 256 * k) (from_none n (suc i))

front_number : (n : ℕ) (xs : List ℕ) → little_number n xs ≡ number (take n xs)
front_number zero xs = refl
front_number (suc n) [] = from_none (suc n) 0
front_number (suc n) (x ∷ xs) = ap (λ k. x + 256 * k) (from_tail n 0 x xs ∙ front_number n xs)

pub digit_read : (w n : ℕ) (xs : List ℕ) → little_number w (take (length xs - n * w) (drop (n * w) xs)) ≡ digit xs w n
digit_read w n xs =
    let turn : n * w ≡ w * n = omega arith in
    let all : take (length xs - n * w) (drop (n * w) xs) ≡ drop (n * w) xs = take_all (length xs - n * w) (drop (n * w) xs) (omega (arith, length-drop (n * w) xs)) in
    ap (little_number w) all ∙ ap (λ k. little_number w (drop k xs)) turn ∙ front_number w (drop (w * n) xs)

-- one value more
pub sum_more : (w n : ℕ) (bytes : Bytes) → (sum_in w n bytes + digit bytes w n) % 2 ^ 64 ≡ sum_in w (n + 1) bytes
sum_more w n bytes =
    let more : sum (map (digit bytes w) (range_with_len 0 (n + 1))) ≡ sum (map (digit bytes w) (range_with_len 0 n)) + digit bytes w n = sum_by-map-range_with_len_more (λ x. x) (digit bytes w) 0 n n (omega arith) in
    omega (arith, more)

-- numbers that agree have the same list
map_same : (f g : ℕ → ℕ) (a n : ℕ) → ((i : ℕ) → a ≤ i → i < a + n → f i ≡ g i) → map f (range_with_len a n) ≡ map g (range_with_len a n)
map_same f g a zero h = refl
map_same f g a (suc n) h =
    ap (λ x. x ∷ map f (range_with_len (a + 1) n)) (h a (omega arith) (omega arith))
    ∙ ap (λ xs. g a ∷ xs) (map_same f g (a + 1) n (λ i low high. h i (omega arith) (omega arith)))

-- the values of a box's bytes are those that they were made of
module _ (b : Box3) (channels w : ℕ) (f : Position → ℕ → ℕ) (small : (p : Position) (c : ℕ) → f p c < 256 ^ w) where
  made : (n : ℕ) → n < voxels b * channels → digit (raw_bytes b channels w f) w n ≡ f (position_of b n) (channel_of b n)
  made n h =
      let same : 0 + n ≡ n = omega arith in
      ap number (value-pieces w (λ k. bytes_of w (f (position_of b k) (channel_of b k))) 0 (voxels b * channels) n (λ k. length-bytes_of w (f (position_of b k) (channel_of b k))) h)
      ∙ ap (λ k. number (bytes_of w (f (position_of b k) (channel_of b k)))) same
      ∙ number_again w (f (position_of b n) (channel_of b n)) (small (position_of b n) (channel_of b n))

  pub sum_made : sum_in w (voxels b * channels) (raw_bytes b channels w f) ≡ sum (map (λ n. f (position_of b n) (channel_of b n)) (range_with_len 0 (voxels b * channels))) % 2 ^ 64
  sum_made = ap (λ xs. sum xs % 2 ^ 64) (map_same (digit (raw_bytes b channels w f) w) (λ n. f (position_of b n) (channel_of b n)) 0 (voxels b * channels) (λ i low high. made i (omega arith)))
