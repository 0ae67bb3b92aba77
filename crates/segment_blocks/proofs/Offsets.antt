-- Each offset that is written fits its field.
use Rattle.std.proofs.Common.{◌≡◌, ℕ, zero, suc, ◌+◌, ◌-◌, ◌*◌, ◌/◌, ◌%◌, ◌^◌, ◌<◌, ◌≤◌, List, [], ◌∷◌, length, arith, ap, ◌∙◌, Bool, true, false, IsTrue, cond}
use Rattle.std.proofs.lemmas.List.{length-map}
use Rattle.std.specs.Prelude.{filter, map, sum_by, nat_lt, ◌==◌, if◌then◌else◌}
use Rattle.std.specs.List.{range_with_len}
use Rattle.std.proofs.lemmas.List.FromFn.{length-range_with_len}
use Rattle.std.proofs.Math.Nat.{zero-div, le-mul_of_pos_right, mul-le-mul_left}
use Rattle.vol_spec.specs.SegSizes.{SegSizes}
use Rattle.vol_spec.specs.SegBlocks.{size, block, block_count, block_voxels, entry_words, voxels_in, in_chunk, x_of, y_of, z_of}
use Rattle.segment_blocks.specs.Shape.{padded, IsShape}
use Rattle.vol_spec.specs.SegWritten.{distinct, packed_len, places, raw_value, table, table_len, values_place, with_value}
use Rattle.segment_blocks.proofs.Blocks.{tests_back}
use Rattle.segment_blocks.proofs.Limits.{block_bound, sum_bound}
use Rattle.segment_blocks.proofs.Shapes.{spots}

with_len : (v : ℕ) (us : List ℕ) → (length (with_value v us) ≤ length us + 1) × (0 < length (with_value v us))
with_len v [] = (omega arith, omega arith)
with_len v (u ∷ us) = chosen (nat_lt v u) (v == u) (with_len v us)
  where
    chosen : (a b : Bool) → (length (with_value v us) ≤ length us + 1) × (0 < length (with_value v us)) → (length (if a then v ∷ u ∷ us else (if b then u ∷ us else u ∷ with_value v us)) ≤ length (u ∷ us) + 1) × (0 < length (if a then v ∷ u ∷ us else (if b then u ∷ us else u ∷ with_value v us)))
    chosen true b h = (omega arith, omega arith)
    chosen false true h = (omega arith, omega arith)
    chosen false false h = (omega arith, omega arith)

distinct_len : (vs : List ℕ) → length (distinct vs) ≤ length vs
distinct_len [] = omega arith
distinct_len (v ∷ vs) = let a = distinct_len vs in let b = with_len v (distinct vs) in omega (arith, b.0)

distinct_some : (vs : List ℕ) → 0 < length vs → 0 < length (distinct vs)
distinct_some [] h = absurd (omega arith)
distinct_some (v ∷ vs) h = (with_len v (distinct vs)).1

filter_len : (p : ℕ → Bool) (xs : List ℕ) → length (filter p xs) ≤ length xs
filter_len p [] = omega arith
filter_len p (x ∷ xs) = kept (p x) (filter_len p xs)
  where
    kept : (b : Bool) → length (filter p xs) ≤ length xs → length (cond b (x ∷ filter p xs) (filter p xs)) ≤ length (x ∷ xs)
    kept true h = omega arith
    kept false h = omega arith

filter_some : (p : ℕ → Bool) (x : ℕ) (xs : List ℕ) → IsTrue (p x) → 0 < length (filter p (x ∷ xs))
filter_some p x xs h = rw h (omega arith)

pub table_le : (s : SegSizes) (raw : List ℕ) (c k : ℕ) → length (table s raw c k) ≤ block_voxels s
unfolding table
table_le s raw c k =
    let a = distinct_len (map (raw_value s raw c k) (voxels_in s k)) in
    let b : length (map (raw_value s raw c k) (voxels_in s k)) ≡ length (voxels_in s k) = length-map (voxels_in s k) (raw_value s raw c k) in
    let d = filter_len (in_chunk s k) (range_with_len 0 (block_voxels s)) in
    let e = length-range_with_len 0 (block_voxels s) in
    omega arith

-- a block has a voxel in the chunk, its first
pub first_inside : (s : SegSizes) (k : ℕ) → IsShape s → k < block_count s → IsTrue (in_chunk s k 0)
unfolding in_chunk
first_inside s k h lk =
    let p = spots s k h lk in
    let zx : 0 % block s 0 ≡ 0 = omega (arith, h.block_0) in
    let zy : 0 / block s 0 % block s 1 ≡ 0 = ap (λ q. q % block s 1) (zero-div (block s 0)) ∙ omega (arith, h.block_1) in
    let zz : 0 / block s 0 / block s 1 ≡ 0 = ap (λ q. q / block s 1) (zero-div (block s 0)) ∙ zero-div (block s 1) in
    tests_back (x_of s k 0) (size s 0) (y_of s k 0) (size s 1) (z_of s k 0) (size s 2) (omega (arith, p.x, zx)) (omega (arith, p.y, zy)) (omega (arith, p.z, zz))

pub table_some : (s : SegSizes) (raw : List ℕ) (c k : ℕ) → IsShape s → k < block_count s → 0 < block_voxels s → 0 < length (table s raw c k)
unfolding table
table_some s raw c k h lk pn = distinct_some _ (some (block_voxels s) pn)
  where
    some : (n : ℕ) → 0 < n → 0 < length (map (raw_value s raw c k) (filter (in_chunk s k) (range_with_len 0 n)))
    some zero h' = absurd (omega arith)
    some (suc n) h' = omega (arith, length-map (filter (in_chunk s k) (range_with_len 0 (suc n))) (raw_value s raw c k), filter_some (in_chunk s k) 0 (range_with_len (0 + 1) n) (first_inside s k h lk))

-- the words of one block, with its header and one to spare
pub one_block : (s : SegSizes) (raw : List ℕ) (c k : ℕ) → IsShape s → k < block_count s → 0 < block_voxels s
    → (2 + (packed_len s raw c k + table_len s raw c k) ≤ 4 * block_voxels s) × (2 + packed_len s raw c k + 1 ≤ 4 * block_voxels s) × (2 + packed_len s raw c k + entry_words s * length (table s raw c k) ≤ 4 * block_voxels s)
one_block s raw c k h lk pn =
    let n : ℕ = block_voxels s in
    let len : ℕ = length (table s raw c k) in
    let some = table_some s raw c k h lk pn in
    let bound = block_bound n len (entry_words s) some (table_le s raw c k) (two s.wide) in
    let least : len ≤ len * entry_words s = le-mul_of_pos_right len (one s.wide) in
    (omega (arith, bound, smaller (places s raw c k)), omega (arith, bound, least, some), bound)
  where
    two : (wide : Bool) → (if wide then 2 else 1) ≤ 2
    two true = omega arith
    two false = omega arith

    one : (wide : Bool) → 0 < (if wide then 2 else 1)
    one true = omega arith
    one false = omega arith

    smaller : (b : Bool) → (if b then entry_words s * length (table s raw c k) else 0) ≤ entry_words s * length (table s raw c k)
    smaller true = omega arith
    smaller false = omega arith

spread : (k r n : ℕ) → k * (4 * n) + 4 * n + r * (4 * n) ≡ (k + 1 + r) * (4 * n)
spread k r n = omega arith

-- under the writing limit each offset of a channel is below 2 ^ 24
pub offsets_fit : (s : SegSizes) (raw : List ℕ) (c k : ℕ) → IsShape s → padded s ≤ 2 ^ 22 → k < block_count s → 0 < block_voxels s
    → values_place s raw c k + packed_len s raw c k < 2 ^ 24
unfolding values_place
offsets_fit s raw c k h limit lk pn =
    let n : ℕ = block_voxels s in
    let f : ℕ → ℕ = λ j. packed_len s raw c j + table_len s raw c j in
    let sum : 2 * k + sum_by f (range_with_len 0 k) ≤ k * (4 * n) = sum_bound f 0 k (4 * n) (λ j l lj. (one_block s raw c j h (omega arith) pn).0) in
    let here = one_block s raw c k h lk pn in
    let rest : (block_count s - k - 1) * 2 ≤ (block_count s - k - 1) * (4 * n) = mul-le-mul_left (block_count s - k - 1) (omega arith) in
    let whole : k * (4 * n) + 4 * n + (block_count s - k - 1) * (4 * n) ≡ block_count s * (4 * n) =
    let e : k + 1 + (block_count s - k - 1) ≡ block_count s = omega arith in
    let d : k * (4 * n) + 4 * n + (block_count s - k - 1) * (4 * n) ≡ (k + 1 + (block_count s - k - 1)) * (4 * n) = spread k (block_count s - k - 1) n in
    d ∙ ap (λ q. q * (4 * n)) e in
    let product : block_count s * (4 * n) ≡ 4 * padded s = omega arith in
    omega (arith, sum, here.1, rest, whole, product, limit)

-- where block k is written there is room for its table too
pub block_room : (s : SegSizes) (raw : List ℕ) (c k : ℕ) → IsShape s → k < block_count s → 0 < block_voxels s
    → values_place s raw c k + packed_len s raw c k + entry_words s * length (table s raw c k) ≤ 4 * padded s
unfolding values_place
block_room s raw c k h lk pn =
    let n : ℕ = block_voxels s in
    let f : ℕ → ℕ = λ j. packed_len s raw c j + table_len s raw c j in
    let sum : 2 * k + sum_by f (range_with_len 0 k) ≤ k * (4 * n) = sum_bound f 0 k (4 * n) (λ j l lj. (one_block s raw c j h (omega arith) pn).0) in
    let here = (one_block s raw c k h lk pn).2 in
    let rest : (block_count s - k - 1) * 2 ≤ (block_count s - k - 1) * (4 * n) = mul-le-mul_left (block_count s - k - 1) (omega arith) in
    let whole : k * (4 * n) + 4 * n + (block_count s - k - 1) * (4 * n) ≡ block_count s * (4 * n) =
    let e : k + 1 + (block_count s - k - 1) ≡ block_count s = omega arith in
    let d : k * (4 * n) + 4 * n + (block_count s - k - 1) * (4 * n) ≡ (k + 1 + (block_count s - k - 1)) * (4 * n) = spread k (block_count s - k - 1) n in
    d ∙ ap (λ q. q * (4 * n)) e in
    let product : block_count s * (4 * n) ≡ 4 * padded s = omega arith in
    omega (arith, sum, here, rest, whole, product)

-- a channel takes at most four words for each padded voxel
pub channel_room : (s : SegSizes) (raw : List ℕ) (c : ℕ) → IsShape s → 0 < block_voxels s → values_place s raw c (block_count s) ≤ 4 * padded s
unfolding values_place
channel_room s raw c h pn =
    let n : ℕ = block_voxels s in
    let sum = sum_bound (λ j. packed_len s raw c j + table_len s raw c j) 0 (block_count s) (4 * n) (λ j l lj. (one_block s raw c j h (omega arith) pn).0) in
    let product : block_count s * (4 * n) ≡ 4 * padded s = omega arith in
    omega (arith, sum, product)

-- the headers stand before block k
pub headers_before : (s : SegSizes) (raw : List ℕ) (c k : ℕ) → 2 * block_count s ≤ values_place s raw c k
unfolding values_place
headers_before s raw c k = omega arith
