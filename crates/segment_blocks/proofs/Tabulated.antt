-- The table of a block, and the places of its voxels' values.
use Rattle.std.proofs.Common.{◌≡◌, ◌⊎◌, ℕ, zero, suc, ◌+◌, ◌*◌, ◌/◌, ◌%◌, ◌^◌, ◌<◌, ◌≤◌, List, [], ◌∷◌, length, slice_index, take, drop, length-take, Bool, true, false, IsTrue, arith, refl, ap, ◌∙◌, sym, subst, inl, inr, ⊎_elim, cond}
use Rattle.std.specs.Prelude.{filter, map}
use Rattle.std.specs.List.{Contains, range_with_len}
use Rattle.std.proofs.lemmas.List.FromFn.{get_or-map-range_with_len, length-map-range_with_len}
use Rattle.std.proofs.lemmas.List.{get_or_default}
use Rattle.std.proofs.Math.Nat.{mul-le-mul_left, pow-le-pow_right, pow-succ', zero-div}
use Rattle.equal_values.proofs.Ranges.{either}
use Rattle.vol_spec.specs.Raw.{digit, number}
use Rattle.vol_spec.specs.SegSizes.{SegSizes}
use Rattle.vol_spec.specs.SegBlocks.{block, block_count, block_voxels, in_chunk, voxels_in, width}
use Rattle.vol_spec.specs.SegWritten.{distinct, index_of, raw_value, table}
use Rattle.segment_blocks.specs.declared.block.Block.{Block}
use Rattle.segment_blocks.specs.Filled.{spot}
use Rattle.segment_blocks.specs.Located.{IsBlock}
use Rattle.segment_blocks.specs.Shape.{IsShape, place}
use Rattle.segment_blocks.specs.Voxels.{place_in, voxel_of, voxels_of}
use Rattle.segment_blocks.proofs.Blocks.{voxel, voxel_spot}
use Rattle.segment_blocks.proofs.Gathered.{contains_in, distinct_same, in_contains}
use Rattle.segment_blocks.proofs.Offsets.{first_inside, table_some}
use Rattle.segment_blocks.proofs.Places.{IsRising, place_is}
use Rattle.segment_blocks.proofs.Shapes.{some_voxels}
use Rattle.segment_blocks.proofs.Tables.{IsIn, Rises, distinct_in, distinct_rises, in_distinct}
use Rattle.segment_blocks.proofs.Values.{IsBytes, part_bytes}

-- ascending by each value's rest, and by places
pub head_below : (u : ℕ) (us : List ℕ) (j : ℕ) → Rises (u ∷ us) → j < length us → u < slice_index us j
head_below u [] j r h = absurd (omega arith)
head_below u (x ∷ us) zero r h = r.0 x (inl refl)
head_below u (x ∷ us) (suc j) r h = head_below u us j ((λ w i. r.0 w (inr i)), r.1.1) (omega arith)

pub rising : (us : List ℕ) → Rises us → IsRising us
rising [] r i j l h = absurd (omega arith)
rising (u ∷ us) r zero zero l h = absurd (omega arith)
rising (u ∷ us) r zero (suc j) l h = head_below u us j r (omega arith)
rising (u ∷ us) r (suc i) zero l h = absurd (omega arith)
rising (u ∷ us) r (suc i) (suc j) l h = rising us r.1 i j (omega arith) (omega arith)

pub table_rises : (s : SegSizes) (raw : List ℕ) (c k : ℕ) → IsRising (table s raw c k)
unfolding table
table_rises s raw c k = rising (table s raw c k) (distinct_rises (map (raw_value s raw c k) (voxels_in s k)))

-- values of a function over a list
pub in_map : (f : ℕ → ℕ) (v : ℕ) (xs : List ℕ) → IsIn v (map f xs) → (x : ℕ) × IsIn x xs × (v ≡ f x)
in_map f v [] h = absurd h
in_map f v (x ∷ xs) h = ⊎_elim (λ (e : v ≡ f x). (x, inl refl, e)) (λ (j : IsIn v (map f xs)). let t = in_map f v xs j in (t.0, inr t.1, t.2)) h

pub map_in : (f : ℕ → ℕ) (x : ℕ) (xs : List ℕ) → IsIn x xs → IsIn (f x) (map f xs)
map_in f x [] h = absurd h
map_in f x (y ∷ ys) h = ⊎_elim (λ (e : x ≡ y). inl (ap f e)) (λ (j : IsIn x ys). inr (map_in f x ys j)) h

in_cond : (p : ℕ → Bool) (x y : ℕ) (b : Bool) (rest : List ℕ) → p y ≡ b → IsIn x (cond b (y ∷ rest) rest) → ((x ≡ y) × IsTrue (p y)) ⊎ IsIn x rest
in_cond p x y true rest e h = ⊎_elim (λ (s : x ≡ y). inl (s, e)) (λ (j : IsIn x rest). inr j) h
in_cond p x y false rest e h = inr h

pub in_filter : (p : ℕ → Bool) (x : ℕ) (xs : List ℕ) → IsIn x (filter p xs) → IsIn x xs × IsTrue (p x)
in_filter p x [] h = absurd h
in_filter p x (y ∷ ys) h = ⊎_elim
    (λ (t : (x ≡ y) × IsTrue (p y)). (inl t.0, subst (λ q. IsTrue (p q)) (sym t.0) t.1))
    (λ (j : IsIn x (filter p ys)). let t = in_filter p x ys j in (inr t.0, t.1))
    (in_cond p x y (p y) (filter p ys) refl h)

cond_in : (x y : ℕ) (b : Bool) (rest : List ℕ) → ((x ≡ y) × IsTrue b) ⊎ IsIn x rest → IsIn x (cond b (y ∷ rest) rest)
cond_in x y true rest h = ⊎_elim (λ (t : (x ≡ y) × IsTrue true). inl t.0) (λ (j : IsIn x rest). inr j) h
cond_in x y false rest h = ⊎_elim (λ (t : (x ≡ y) × IsTrue false). absurd (cc)) (λ (j : IsIn x rest). j) h

pub filter_in : (p : ℕ → Bool) (x : ℕ) (xs : List ℕ) → IsIn x xs → IsTrue (p x) → IsIn x (filter p xs)
filter_in p x [] h t = absurd h
filter_in p x (y ∷ ys) h t = cond_in x y (p y) (filter p ys) (⊎_elim (λ (e : x ≡ y). inl (e, subst (λ q. IsTrue (p q)) e t)) (λ (j : IsIn x ys). inr (filter_in p x ys j t)) h)

pub in_range : (a n x : ℕ) → IsIn x (range_with_len a n) → (a ≤ x) × (x < a + n)
in_range a zero x h = absurd h
in_range a (suc n) x h = ⊎_elim (λ (e : x ≡ a). (omega arith, omega arith)) (λ (j : IsIn x (range_with_len (a + 1) n)). let t = in_range (a + 1) n x j in (omega (arith, t.0), omega (arith, t.1))) h

range_in : (a n i : ℕ) → i < n → IsIn (a + i) (range_with_len a n)
range_in a zero i h = absurd (omega arith)
range_in a (suc n) zero h = inl (omega arith)
range_in a (suc n) (suc i) h = let e : a + 1 + i ≡ a + suc i = omega arith in inr (subst (λ q. IsIn q (range_with_len (a + 1) n)) e (range_in (a + 1) n i (omega arith)))

pub below_in : (n i : ℕ) → i < n → IsIn i (range_with_len 0 n)
below_in n i h = let e : 0 + i ≡ i = omega arith in subst (λ q. IsIn q (range_with_len 0 n)) e (range_in 0 n i h)

pub voxel_in : (s : SegSizes) (raw : List ℕ) (c k p n : ℕ) → in_chunk s k n ≡ true → voxel_of s raw c k p n ≡ raw_value s raw c k n
voxel_in s raw c k p n e = rw e refl

voxel_out : (s : SegSizes) (raw : List ℕ) (c k p n : ℕ) → in_chunk s k n ≡ false → voxel_of s raw c k p n ≡ p
voxel_out s raw c k p n e = rw e refl

-- the values of a block are those of its voxels in the chunk, where padding has one of them
pub table_is : (s : SegSizes) (raw : List ℕ) (c k p : ℕ) → IsShape s → k < block_count s → 0 < block_voxels s → p ≡ raw_value s raw c k 0 → distinct (voxels_of s raw c k p) ≡ table s raw c k
unfolding table
table_is s raw c k p h lk pn ep =
    let n : ℕ = block_voxels s in
    let f : ℕ → ℕ = voxel_of s raw c k p in
    let g : ℕ → ℕ = raw_value s raw c k in
    let there : (i : ℕ) → i < n → IsTrue (in_chunk s k i) → IsIn (g i) (map g (voxels_in s k)) = λ i li t. map_in g i (voxels_in s k) (filter_in (in_chunk s k) i (range_with_len 0 n) (below_in n i li) t) in
    distinct_same (voxels_of s raw c k p) (map g (voxels_in s k))
    (λ v i.
    let t = in_map f v (range_with_len 0 n) i in
    let r = in_range 0 n t.0 t.1 in
    ⊎_elim
    (λ (y : in_chunk s k t.0 ≡ true). subst (λ q. IsIn q (map g (voxels_in s k))) (sym (t.2 ∙ voxel_in s raw c k p t.0 y)) (there t.0 (omega (arith, r.1)) y))
    (λ (y : in_chunk s k t.0 ≡ false). subst (λ q. IsIn q (map g (voxels_in s k))) (sym (t.2 ∙ voxel_out s raw c k p t.0 y ∙ ep)) (there 0 pn (first_inside s k h lk)))
    (either (in_chunk s k t.0)))
    (λ v i.
    let t = in_map g v (voxels_in s k) i in
    let u = in_filter (in_chunk s k) t.0 (range_with_len 0 n) t.1 in
    subst (λ q. IsIn q (voxels_of s raw c k p)) (voxel_in s raw c k p t.0 u.1 ∙ sym t.2) (map_in f t.0 (range_with_len 0 n) u.0))

-- a block whose voxels have one value has the table of that value
pub table_one : (s : SegSizes) (raw : List ℕ) (c k v : ℕ) → IsShape s → k < block_count s → ((n : ℕ) → n < block_voxels s → IsTrue (in_chunk s k n) → raw_value s raw c k n ≡ v) → table s raw c k ≡ v ∷ []
unfolding table
table_one s raw c k v h lk each =
    let n : ℕ = block_voxels s in
    let g : ℕ → ℕ = raw_value s raw c k in
    let pn : 0 < n = some_voxels s h in
    let inside = first_inside s k h lk in
    distinct_same (map g (voxels_in s k)) (v ∷ [])
    (λ u i.
    let t = in_map g u (voxels_in s k) i in
    let f = in_filter (in_chunk s k) t.0 (range_with_len 0 n) t.1 in
    let r = in_range 0 n t.0 f.0 in
    inl (t.2 ∙ each t.0 (omega (arith, r.1)) f.1))
    (λ u i. ⊎_elim
    (λ (e : u ≡ v). subst (λ q. IsIn q (map g (voxels_in s k))) (each 0 pn inside ∙ sym e) (map_in g 0 (voxels_in s k) (filter_in (in_chunk s k) 0 (range_with_len 0 n) (below_in n 0 pn) inside)))
    (λ (j : IsIn u []). absurd j)
    i)

-- each voxel's value stands in the table
pub value_there : (s : SegSizes) (raw : List ℕ) (c k n : ℕ) → n < block_voxels s → IsTrue (in_chunk s k n) → IsIn (raw_value s raw c k n) (table s raw c k)
unfolding table
value_there s raw c k n ln t = in_distinct _ _ (map_in (raw_value s raw c k) n (voxels_in s k) (filter_in (in_chunk s k) n (range_with_len 0 (block_voxels s)) (below_in (block_voxels s) n ln) t))

head_in : (xs : List ℕ) → 0 < length xs → IsIn (slice_index xs 0) xs
head_in [] h = absurd (omega arith)
head_in (x ∷ xs) h = inl refl

voxel_there : (s : SegSizes) (raw : List ℕ) (c k p n : ℕ) → IsShape s → k < block_count s → n < block_voxels s → p ≡ slice_index (table s raw c k) 0 → IsIn (voxel_of s raw c k p n) (table s raw c k)
voxel_there s raw c k p n h lk ln ep = ⊎_elim
    (λ (y : in_chunk s k n ≡ true). subst (λ q. IsIn q (table s raw c k)) (sym (voxel_in s raw c k p n y)) (value_there s raw c k n ln y))
    (λ (y : in_chunk s k n ≡ false). subst (λ q. IsIn q (table s raw c k)) (sym (voxel_out s raw c k p n y ∙ ep)) (head_in (table s raw c k) (table_some s raw c k h lk (omega arith))))
    (either (in_chunk s k n))

pub voxels_there : (s : SegSizes) (raw : List ℕ) (c k p : ℕ) (voxels : List ℕ) → IsShape s → k < block_count s → p ≡ slice_index (table s raw c k) 0 → voxels ≡ voxels_of s raw c k p → (n : ℕ) → n < length voxels → Contains (table s raw c k) (slice_index voxels n)
voxels_there s raw c k p voxels h lk ep ev n ln =
    let len : length voxels ≡ block_voxels s = ap length ev ∙ length-map-range_with_len (voxel_of s raw c k p) 0 (block_voxels s) in
    let at : slice_index voxels n ≡ voxel_of s raw c k p n = ap (λ q. slice_index q n) ev ∙ get_or-map-range_with_len (voxel_of s raw c k p) 0 (block_voxels s) n n 0 (omega arith) (omega arith) in
    subst (Contains (table s raw c k)) (sym at) (contains_in (voxel_of s raw c k p n) (table s raw c k) (voxel_there s raw c k p n h lk (omega arith) ep))

pub index_in : (s : SegSizes) (raw : List ℕ) (c k n : ℕ) → in_chunk s k n ≡ true → index_of s raw c k n ≡ place_in (table s raw c k) (raw_value s raw c k n)
index_in s raw c k n e = rw e refl

pub index_out : (s : SegSizes) (raw : List ℕ) (c k n : ℕ) → in_chunk s k n ≡ false → index_of s raw c k n ≡ 0
index_out s raw c k n e = rw e refl

-- the least value has the place 0, which is that of padding
place_of : (s : SegSizes) (raw : List ℕ) (c k p n : ℕ) → IsShape s → k < block_count s → 0 < block_voxels s → p ≡ slice_index (table s raw c k) 0 → place_in (table s raw c k) (voxel_of s raw c k p n) ≡ index_of s raw c k n
place_of s raw c k p n h lk pn ep = ⊎_elim
    (λ (y : in_chunk s k n ≡ true). ap (place_in (table s raw c k)) (voxel_in s raw c k p n y) ∙ sym (index_in s raw c k n y))
    (λ (y : in_chunk s k n ≡ false). ap (place_in (table s raw c k)) (voxel_out s raw c k p n y) ∙ place_is (table s raw c k) p 0 (table_rises s raw c k) (table_some s raw c k h lk pn) (sym ep) ∙ sym (index_out s raw c k n y))
    (either (in_chunk s k n))

map_same : (f g h : ℕ → ℕ) (xs : List ℕ) → ((n : ℕ) → g (f n) ≡ h n) → map g (map f xs) ≡ map h xs
map_same f g h [] e = refl
map_same f g h (x ∷ xs) e = ap (λ q. q ∷ map g (map f xs)) (e x) ∙ ap (λ q. h x ∷ q) (map_same f g h xs e)

pub places_are : (s : SegSizes) (raw : List ℕ) (c k p : ℕ) (voxels : List ℕ) → IsShape s → k < block_count s → 0 < block_voxels s → p ≡ slice_index (table s raw c k) 0 → voxels ≡ voxels_of s raw c k p
    → map (place_in (table s raw c k)) voxels ≡ map (index_of s raw c k) (range_with_len 0 (block_voxels s))
places_are s raw c k p voxels h lk pn ep ev =
    ap (map (place_in (table s raw c k))) ev ∙ map_same (voxel_of s raw c k p) (place_in (table s raw c k)) (index_of s raw c k) (range_with_len 0 (block_voxels s)) (λ n. place_of s raw c k p n h lk pn ep)

-- where the first voxel of a block has its value
pub first_place : (s : SegSizes) (c k : ℕ) (b : Block) → IsBlock s c k b → ((b.z + 0) * b.size_y + (b.y + 0)) * b.size_x + b.x ≡ place s c k 0
first_place s c k b is =
    let zx : 0 % block s 0 ≡ 0 = omega arith in
    let zy : 0 / block s 0 % block s 1 ≡ 0 = ap (λ q. q % block s 1) (zero-div (block s 0)) ∙ omega arith in
    let zz : 0 / block s 0 / block s 1 ≡ 0 = ap (λ q. q / block s 1) (zero-div (block s 0)) ∙ zero-div (block s 1) in
    let same : spot b (voxel s 0) ≡ (b.x + 0) + b.size_x * ((b.y + 0) + b.size_y * (b.z + 0)) =
    ap (λ q. (b.x + q) + b.size_x * ((b.y + 0 / block s 0 % block s 1) + b.size_y * (b.z + 0 / block s 0 / block s 1))) zx
    ∙ ap (λ q. (b.x + 0) + b.size_x * ((b.y + q) + b.size_y * (b.z + 0 / block s 0 / block s 1))) zy
    ∙ ap (λ q. (b.x + 0) + b.size_x * ((b.y + 0) + b.size_y * (b.z + q))) zz in
    let turned : ((b.z + 0) * b.size_y + (b.y + 0)) * b.size_x + b.x ≡ (b.x + 0) + b.size_x * ((b.y + 0) + b.size_y * (b.z + 0)) = omega arith in
    turned ∙ sym (voxel_spot s c k 0 b is ∙ same)

-- the first of a front
pub front_first : (xs : List ℕ) (n : ℕ) → 0 < length (take n xs) → slice_index xs 0 ≡ slice_index (take n xs) 0
front_first [] zero h = absurd (omega arith)
front_first [] (suc n) h = absurd (omega arith)
front_first (x ∷ xs) zero h = absurd (omega arith)
front_first (x ∷ xs) (suc n) h = refl

-- each value is one of so many bytes
number_below : (xs : List ℕ) → IsBytes xs → number xs < 256 ^ length xs
number_below [] fits = omega arith
number_below (x ∷ xs) fits =
    let here : x < 256 = fits 0 in
    let rest : number xs < 256 ^ length xs = number_below xs (λ i. fits (suc i)) in
    let e : 256 * (number xs + 1) ≤ 256 * 256 ^ length xs = mul-le-mul_left 256 (omega arith) in
    let p : 256 ^ suc (length xs) ≡ 256 * 256 ^ length xs = pow-succ' 256 (length xs) in
    omega (arith, e, p, here)

pub digit_below : (raw : List ℕ) (w n : ℕ) → IsBytes raw → digit raw w n < 256 ^ w
digit_below raw w n fits =
    let v : List ℕ = take w (drop (w * n) raw) in
    let a : number v < 256 ^ length v = number_below v (part_bytes raw (w * n) w fits) in
    let b : 256 ^ length v ≤ 256 ^ w = pow-le-pow_right {n = 256} (omega arith) {i = length v} {j = w} (omega (arith, length-take w (drop (w * n) raw))) in
    omega (arith, a, b)

pub table_narrow : (s : SegSizes) (raw : List ℕ) (c k : ℕ) → IsBytes raw → (i : ℕ) → i < length (table s raw c k) → slice_index (table s raw c k) i < 256 ^ width s
unfolding table
table_narrow s raw c k fits i li =
    let v : ℕ = slice_index (table s raw c k) i in
    let there : IsIn v (table s raw c k) = in_contains v (table s raw c k) (i, li, get_or_default (table s raw c k) i v 0 li) in
    let t = in_map (raw_value s raw c k) v (voxels_in s k) (distinct_in v (map (raw_value s raw c k) (voxels_in s k)) there) in
    subst (λ q. q < 256 ^ width s) (sym t.2) (digit_below raw (width s) _ fits)
