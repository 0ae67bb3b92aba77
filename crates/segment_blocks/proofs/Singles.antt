-- Blocks of one voxel: their tables, and the first earlier one with an equal table.
use Rattle.std.proofs.Common.{◌≡◌, ◌⊎◌, ℕ, zero, suc, ◌+◌, ◌-◌, ◌*◌, ◌/◌, ◌%◌, ◌<◌, ◌≤◌, List, [], ◌∷◌, slice_index, Bool, true, false, IsTrue, Some, arith, refl, ap, ◌∙◌, sym, subst, inl, inr, ⊎_elim}
use Rattle.std.specs.Prelude.{filter, find, map, ◌==◌, ◌&&◌}
use Rattle.std.specs.List.{range_with_len}
use Rattle.std.proofs.lemmas.Bool.Decides.{nat_tests}
use Rattle.std.proofs.lemmas.Nat.{div-add-mod'}
use Rattle.std.proofs.Math.Nat.{le-mul_of_pos_right, mul-le-mul_left, mul-le-mul_right}
use Rattle.equal_values.specs.Earlier.{coded, earlier}
use Rattle.vol_spec.specs.Raw.{digit}
use Rattle.vol_spec.specs.SegBlocks.{block, block_count, block_voxels, blocks_on, in_chunk, num, raw_len, size, voxels_in, width, x_of, y_of, z_of}
use Rattle.vol_spec.specs.SegSizes.{SegSizes}
use Rattle.vol_spec.specs.SegWritten.{distinct, places, raw_value, same, table}
use Rattle.segment_blocks.specs.Shape.{IsShape}
use Rattle.segment_blocks.specs.Singles.{is_single, numbered}
use Rattle.segment_blocks.proofs.Equal.{same_is}
use Rattle.segment_blocks.proofs.Offsets.{first_inside}
use Rattle.equal_values.proofs.Ranges.{either, first_passes, none_passes}
use Rattle.segment_blocks.proofs.Settling.{equal, first_or_none, is_placed, owner_self}

-- a product of one has factors of one
one_each : (a b c : ℕ) → 0 < a → 0 < b → 0 < c → a * b * c ≡ 1 → (a ≡ 1) × (b ≡ 1) × (c ≡ 1)
one_each a b c pa pb pc e =
    let ab : a * b ≤ a * b * c = le-mul_of_pos_right (a * b) pc in
    let la : a ≤ a * b = le-mul_of_pos_right a pb in
    let ea : a ≡ 1 = omega (arith, ab, la, e, pa) in
    let f : 1 * b * c ≡ 1 = sym (ap (λ q. q * b * c) ea) ∙ e in
    let lb : b ≤ b * c = le-mul_of_pos_right b pc in
    let eb : b ≡ 1 = omega (arith, f, lb, pb) in
    let g : 1 * 1 * c ≡ 1 = sym (ap (λ q. 1 * q * c) eb) ∙ f in
    (ea, eb, omega (arith, g))

eq_of : (a b : ℕ) → IsTrue (a == b) → a ≡ b
eq_of a b t = grind (arith, nat_tests)

pub record OneEach (s : SegSizes) : Type 0 where
  pub x : block s 0 ≡ 1
  pub y : block s 1 ≡ 1
  pub z : block s 2 ≡ 1
  pub on_x : blocks_on s 0 ≡ size s 0
  pub on_y : blocks_on s 1 ≡ size s 1
  pub on_z : blocks_on s 2 ≡ size s 2

on_axis : (n b : ℕ) → b ≡ 1 → (n + b - 1) / b ≡ n
on_axis n b e = ap (λ q. (n + q - 1) / q) e ∙ omega arith

pub single_blocks : (s : SegSizes) → IsShape s → IsTrue (is_single s) → OneEach s
single_blocks s h t =
    let e = one_each (block s 0) (block s 1) (block s 2) h.block_0.0 h.block_1.0 h.block_2.0 (eq_of (block_voxels s) 1 t) in
    record { x = e.0; y = e.1; z = e.2; on_x = on_axis (size s 0) (block s 0) e.0; on_y = on_axis (size s 1) (block s 1) e.1; on_z = on_axis (size s 2) (block s 2) e.2 }

-- the number of a place by its axes
along : (a b d c k : ℕ) → k % a + a * (k / a % b + b * (k / a / b + d * c)) ≡ c * (a * b * d) + k
along a b d c k =
    let x = div-add-mod' k a in
    let y = div-add-mod' (k / a) b in
    let inner : k / a % b + b * (k / a / b + d * c) ≡ k / a + b * (d * c) = omega (arith, y) in
    ap (λ q. k % a + a * q) inner ∙ omega (arith, x)

-- the blocks are the voxels
pub single_count : (s : SegSizes) → OneEach s → block_count s ≡ size s 0 * size s 1 * size s 2
single_count s o = ap (λ q. q * blocks_on s 1 * blocks_on s 2) o.on_x ∙ ap (λ q. size s 0 * q * blocks_on s 2) o.on_y ∙ ap (λ q. size s 0 * size s 1 * q) o.on_z

-- a channel's values lie in the raw values
pub single_room : (s : SegSizes) (c : ℕ) → OneEach s → c < s.channels → width s * (c * block_count s + block_count s) ≤ raw_len s
single_room s c o lc =
    let b : ℕ = block_count s in
    let m : (c + 1) * b ≤ s.channels * b = mul-le-mul_right b (omega arith) in
    let u : width s * ((c + 1) * b) ≤ width s * (s.channels * b) = mul-le-mul_left (width s) m in
    let e : width s * (s.channels * b) ≡ raw_len s = ap (λ q. width s * (s.channels * q)) (single_count s o) ∙ omega arith in
    omega (arith, u, e)

-- the value of block k is the k-th of its channel
pub single_num : (s : SegSizes) (c k : ℕ) → OneEach s → num s (x_of s k 0) (y_of s k 0) (z_of s k 0) c ≡ c * block_count s + k
single_num s c k o =
    let ex : x_of s k 0 ≡ k % size s 0 = ap (λ q. k % blocks_on s 0 * q + 0 % q) o.x ∙ omega arith ∙ ap (λ q. k % q) o.on_x in
    let ey : y_of s k 0 ≡ k / size s 0 % size s 1 =
    ap (λ q. k / blocks_on s 0 % blocks_on s 1 * q + 0 / block s 0 % q) o.y ∙ omega arith ∙ ap (λ q. k / q % blocks_on s 1) o.on_x ∙ ap (λ q. k / size s 0 % q) o.on_y in
    let ez : z_of s k 0 ≡ k / size s 0 / size s 1 =
    ap (λ q. k / blocks_on s 0 / blocks_on s 1 * q + 0 / block s 0 / block s 1) o.z ∙ ap (λ q. k / blocks_on s 0 / blocks_on s 1 * 1 + 0 / block s 0 / q) o.y ∙ ap (λ q. k / blocks_on s 0 / blocks_on s 1 * 1 + 0 / q / 1) o.x ∙ omega arith
    ∙ ap (λ q. k / q / blocks_on s 1) o.on_x ∙ ap (λ q. k / size s 0 / q) o.on_y in
    ap (λ q. num s q (y_of s k 0) (z_of s k 0) c) ex ∙ ap (λ q. num s (k % size s 0) q (z_of s k 0) c) ey ∙ ap (λ q. num s (k % size s 0) (k / size s 0 % size s 1) q c) ez
    ∙ along (size s 0) (size s 1) (size s 2) c k ∙ ap (λ q. c * q + k) (sym (single_count s o))

filter_here : (p : ℕ → Bool) (a : ℕ) → p a ≡ true → filter p (a ∷ []) ≡ a ∷ []
filter_here p a h = rw h refl

pub single_table : (s : SegSizes) (raw : List ℕ) (c k : ℕ) → IsShape s → IsTrue (is_single s) → k < block_count s → table s raw c k ≡ digit raw (width s) (c * block_count s + k) ∷ []
unfolding table
single_table s raw c k h t lk =
    let o = single_blocks s h t in
    let one : block_voxels s ≡ 1 = eq_of (block_voxels s) 1 t in
    let all : voxels_in s k ≡ 0 ∷ [] = ap (λ n. filter (in_chunk s k) (range_with_len 0 n)) one ∙ filter_here (in_chunk s k) 0 (first_inside s k h lk) in
    ap (λ q. distinct (map (raw_value s raw c k) q)) all ∙ ap (λ q. digit raw (width s) q ∷ []) (single_num s c k o)

-- what passes decides what is found
pub find_alike : (p q : ℕ → Bool) (a n : ℕ) → ((j : ℕ) → a ≤ j → j < a + n → p j ≡ q j) → find p (range_with_len a n) ≡ find q (range_with_len a n)
find_alike p q a zero h = refl
find_alike p q a (suc n) h =
    let e : p a ≡ q a = h a (omega arith) (omega arith) in
    let rest = find_alike p q (a + 1) n (λ j l m. h j (omega arith) (omega arith)) in
    ⊎_elim
    (λ (t : q a ≡ true). here p a (range_with_len (a + 1) n) (e ∙ t) ∙ sym (here q a (range_with_len (a + 1) n) t))
    (λ (f : q a ≡ false). on p a (range_with_len (a + 1) n) (e ∙ f) ∙ rest ∙ sym (on q a (range_with_len (a + 1) n) f))
    (either (q a))
  where
    here : (p : ℕ → Bool) (a : ℕ) (xs : List ℕ) → p a ≡ true → find p (a ∷ xs) ≡ Some a
    here p a xs h = rw h refl

    on : (p : ℕ → Bool) (a : ℕ) (xs : List ℕ) → p a ≡ false → find p (a ∷ xs) ≡ find p xs
    on p a xs h = rw h refl

same_one : (a b : ℕ) → same (a ∷ []) (b ∷ []) ≡ (a == b)
same_one a b = and_true (a == b)
  where
    and_true : (t : Bool) → (t && true) ≡ t
    and_true true = refl
    and_true false = refl

-- equal values are equal tables
pub earlier_is : (s : SegSizes) (raw : List ℕ) (c : ℕ) (values : List ℕ) (k : ℕ) → IsShape s → IsTrue (is_single s) → k < block_count s → ((j : ℕ) → j < block_count s → slice_index values j ≡ digit raw (width s) (c * block_count s + j))
    → earlier values k ≡ find (λ j. same (table s raw c j) (table s raw c k)) (range_with_len 0 k)
unfolding earlier
earlier_is s raw c values k h t lk is =
    let value : ℕ → ℕ = λ j. digit raw (width s) (c * block_count s + j) in
    find_alike (λ j. slice_index values j == slice_index values k) (λ j. same (table s raw c j) (table s raw c k)) 0 k
    (λ j l m.
    let lj : j < block_count s = omega (arith, m, lk) in
    ap (λ q. q == slice_index values k) (is j lj) ∙ ap (λ q. value j == q) (is k lk) ∙ sym (same_one (value j) (value k))
    ∙ sym (ap (λ q. same q (table s raw c k)) (single_table s raw c j h t lj) ∙ ap (λ q. same (value j ∷ []) q) (single_table s raw c k h t lk)))

-- what a number of an earlier block says
abbrev pub SaysNone : SegSizes → List ℕ → ℕ → ℕ → Type 0
SaysNone s raw c k = (j : ℕ) → j < k → IsTrue (places s raw c j) → IsTrue (same (table s raw c j) (table s raw c k)) → ⊥

abbrev pub SaysBlock : SegSizes → List ℕ → ℕ → ℕ → ℕ → Type 0
SaysBlock s raw c k j = (j < k) × IsTrue (places s raw c j) × IsTrue (same (table s raw c j) (table s raw c k))

pub number_says : (s : SegSizes) (raw : List ℕ) (c k n : ℕ) → n ≡ numbered s raw c k → ((n ≡ 0) × SaysNone s raw c k) ⊎ ((j : ℕ) × (n ≡ j + 1) × SaysBlock s raw c k j)
number_says s raw c k n e = ⊎_elim
    (λ (f : (m : ℕ) × (0 ≤ m) × (m < 0 + k) × IsTrue (equal s raw c k m) × ((i : ℕ) → 0 ≤ i → i < m → IsTrue (equal s raw c k i) → ⊥)).
    let alike : table s raw c f.0 ≡ table s raw c k = same_is (table s raw c f.0) (table s raw c k) f.3 in
    let own = owner_self s raw c f.0 (λ i li t. f.4 i (omega arith) li (subst (λ q. IsTrue (same (table s raw c i) q)) alike t)) in
    inr (f.0, e ∙ ap coded (first_passes (equal s raw c k) 0 k f.0 (omega arith) f.2 f.3 (λ i l m. f.4 i l m)), (omega (arith, f.2), is_placed s raw c f.0 own, f.3)))
    (λ (none : (i : ℕ) → 0 ≤ i → i < 0 + k → IsTrue (equal s raw c k i) → ⊥).
    inl (e ∙ ap coded (none_passes (equal s raw c k) 0 k none), λ j l p t. none j (omega arith) (omega arith) t))
    (first_or_none (equal s raw c k) 0 k)
