-- Blocks whose voxels in the chunk have one value, and blocks without padding.
use Rattle.std.proofs.Common.{◌≡◌, ℕ, ◌+◌, ◌-◌, ◌*◌, ◌/◌, ◌<◌, ◌≤◌, List, [], ◌∷◌, length, true, IsTrue, arith, refl, ap, ◌∙◌, sym, ⊎_elim}
use Rattle.std.specs.Prelude.{map}
use Rattle.std.specs.List.{range_with_len}
use Rattle.std.proofs.lemmas.Bool.{cases_lt}
use Rattle.std.proofs.lemmas.Grind.{same_number_lists}
use Rattle.std.proofs.lemmas.List.FromFn.{length-map-range_with_len, get_or-map-range_with_len}
use Rattle.vol_spec.specs.BoxValues.{bytes_of}
use Rattle.vol_spec.specs.Raw.{digit}
use Rattle.vol_spec.specs.SegBlocks.{block, block_count, block_voxels, in_chunk, packed_words, size, width, x_of, y_of, z_of}
use Rattle.vol_spec.specs.SegSizes.{SegSizes}
use Rattle.vol_spec.specs.SegWritten.{bits_for, block_bits, index_of, packed, packed_bytes, packed_len, raw_value, table}
use Rattle.segment_blocks.specs.declared.block.Block.{Block}
use Rattle.segment_blocks.specs.Filled.{AreAll, HaveOne, InPlanes, InRow, InRows, Voxel, spot}
use Rattle.segment_blocks.specs.Located.{IsBlock}
use Rattle.segment_blocks.specs.Shape.{IsShape}
use Rattle.segment_blocks.specs.Voxels.{voxel_of, voxels_of}
use Rattle.std.proofs.lemmas.Nat.{div_below, mod_below}
use Rattle.segment_blocks.proofs.Blocks.{inside_spot, inside_to, tests_back, voxel, voxel_spot}
use Rattle.segment_blocks.proofs.Rowwise.{spotted}
use Rattle.segment_blocks.proofs.Tabulated.{first_place, table_one, value_there, voxel_in}
use Rattle.segment_blocks.proofs.Offsets.{first_inside}
use Rattle.segment_blocks.proofs.Shapes.{some_voxels}
use Rattle.segment_blocks.proofs.Tables.{IsIn}

pub row_one : (b : Block) (raw : List ℕ) (w value y z from : ℕ) → from ≡ ((b.z + z) * b.size_y + (b.y + y)) * b.size_x + b.x
    → AreAll raw w from b.count_x value → HaveOne (InRow b y z) b raw w value
row_one b raw w value y z from e each v i =
    let at : spot b v ≡ from + v.x = spotted b y z v i ∙ ap (λ q. q + v.x) (sym e) in
    ap (digit raw w) at ∙ each (from + v.x) (omega arith) (omega (arith, i.0))

pub one_row : (b : Block) (raw : List ℕ) (w value y z from : ℕ) → from ≡ ((b.z + z) * b.size_y + (b.y + y)) * b.size_x + b.x
    → HaveOne (InRow b y z) b raw w value → AreAll raw w from b.count_x value
one_row b raw w value y z from e all n l less =
    let v : Voxel = record { x = n - from; y = y; z = z } in
    let i : InRow b y z v = (omega arith, refl, refl) in
    let at : spot b v ≡ from + (n - from) = spotted b y z v i ∙ ap (λ q. q + (n - from)) (sym e) in
    let here : n ≡ spot b v = omega (arith, at) in
    ap (digit raw w) here ∙ all v i

pub rows_more : (b : Block) (raw : List ℕ) (w value y z : ℕ) → HaveOne (InRows b y z) b raw w value → HaveOne (InRow b y z) b raw w value
    → HaveOne (InRows b (y + 1) z) b raw w value
rows_more b raw w value y z was row v i = ⊎_elim
    (λ (l : v.y < y). was v (i.0, l, i.2))
    (λ (g : y ≤ v.y). row v (i.0, omega (arith, i.1), i.2))
    (cases_lt v.y y)

pub planes_more : (b : Block) (raw : List ℕ) (w value z : ℕ) → HaveOne (InPlanes b z) b raw w value → HaveOne (InRows b b.count_y z) b raw w value
    → HaveOne (InPlanes b (z + 1)) b raw w value
planes_more b raw w value z was plane v i = ⊎_elim
    (λ (l : v.z < z). was v (i.0, i.1, l))
    (λ (g : z ≤ v.z). plane v (i.0, i.1, omega (arith, i.2)))
    (cases_lt v.z z)

-- its table has the value alone
pub block_one : (s : SegSizes) (raw : List ℕ) (c k value : ℕ) (b : Block) → IsShape s → k < block_count s → IsBlock s c k b
    → HaveOne (InPlanes b b.count_z) b raw (width s) value → table s raw c k ≡ value ∷ []
block_one s raw c k value b h lk is one = table_one s raw c k value h lk
    (λ n ln t. ap (digit raw (width s)) (voxel_spot s c k n b is) ∙ one (voxel s n) (inside_to s c k n b h is (record { below = ln; inside = t })))

-- and a table has several entries where its block's first value isn't that of all
in_one : (x y : ℕ) (xs : List ℕ) → length xs ≤ 1 → IsIn x xs → IsIn y xs → x ≡ y
in_one x y [] few i j = absurd i
in_one x y (u ∷ []) few i j = ⊎_elim (λ (e : x ≡ u). e ∙ ⊎_elim (λ (f : y ≡ u). sym f) (λ (n : IsIn y []). absurd n) j) (λ (n : IsIn x []). absurd n) i
in_one x y (u ∷ v ∷ us) few i j = absurd (omega arith)

one_block : (s : SegSizes) (raw : List ℕ) (c k value from : ℕ) (b : Block) → IsShape s → k < block_count s → IsBlock s c k b
    → from ≡ ((b.z + 0) * b.size_y + (b.y + 0)) * b.size_x + b.x → value ≡ digit raw (width s) from → length (table s raw c k) ≤ 1
    → HaveOne (InPlanes b b.count_z) b raw (width s) value
one_block s raw c k value from b h lk is ef ev few v i =
    let t = inside_spot s c k b v h is i in
    let first : value ≡ raw_value s raw c k 0 = ev ∙ ap (digit raw (width s)) (ef ∙ first_place s c k b is) in
    ap (digit raw (width s)) (sym t.2) ∙ in_one (raw_value s raw c k t.0) (raw_value s raw c k 0) (table s raw c k) few (value_there s raw c k t.0 t.1.below t.1.inside) (value_there s raw c k 0 (some_voxels s h) (first_inside s k h lk)) ∙ sym first

pub block_several : (s : SegSizes) (raw : List ℕ) (c k value from : ℕ) (b : Block) → IsShape s → k < block_count s → IsBlock s c k b
    → from ≡ ((b.z + 0) * b.size_y + (b.y + 0)) * b.size_x + b.x → value ≡ digit raw (width s) from → (HaveOne (InPlanes b b.count_z) b raw (width s) value → ⊥)
    → 1 < length (table s raw c k)
block_several s raw c k value from b h lk is ef ev never = ⊎_elim
    (λ (l : 1 < length (table s raw c k)). l)
    (λ (few : length (table s raw c k) ≤ 1). absurd (never (one_block s raw c k value from b h lk is ef ev few)))
    (cases_lt 1 (length (table s raw c k)))

-- each voxel of a block without padding is in the chunk
pub full_inside : (s : SegSizes) (c k n : ℕ) (b : Block) → IsShape s → IsBlock s c k b → block s 0 ≤ b.count_x → block s 1 ≤ b.count_y → block s 2 ≤ b.count_z
    → n < block_voxels s → IsTrue (in_chunk s k n)
unfolding in_chunk
full_inside s c k n b h is fx fy fz ln =
    let mx = mod_below n (block s 0) h.block_0.0 in
    let my = mod_below (n / block s 0) (block s 1) h.block_1.0 in
    let a : n / block s 0 < block s 2 * block s 1 = div_below n (block s 0) (block s 2 * block s 1) h.block_0.0 (omega (arith, ln)) in
    let mz : n / block s 0 / block s 1 < block s 2 = div_below (n / block s 0) (block s 1) (block s 2) h.block_1.0 a in
    tests_back (x_of s k n) (size s 0) (y_of s k n) (size s 1) (z_of s k n) (size s 2) (omega (arith, is.count_x, is.x, fx, mx, h.block_0)) (omega (arith, is.count_y, is.y, fy, my, h.block_1)) (omega (arith, is.count_z, fz, mz, h.block_2))

-- so its padding has any value
pub full_same : (s : SegSizes) (raw : List ℕ) (c k p q : ℕ) (b : Block) → IsShape s → IsBlock s c k b → block s 0 ≤ b.count_x → block s 1 ≤ b.count_y → block s 2 ≤ b.count_z
    → voxels_of s raw c k p ≡ voxels_of s raw c k q
full_same s raw c k p q b h is fx fy fz =
    let n : ℕ = block_voxels s in
    same_number_lists (voxels_of s raw c k p) (voxels_of s raw c k q) (length-map-range_with_len (voxel_of s raw c k p) 0 n ∙ sym (length-map-range_with_len (voxel_of s raw c k q) 0 n))
    (λ i li.
    let l : i < n = omega (arith, li, length-map-range_with_len (voxel_of s raw c k p) 0 n) in
    let t : in_chunk s k i ≡ true = full_inside s c k i b h is fx fy fz l in
    get_or-map-range_with_len (voxel_of s raw c k p) 0 n i i 0 l (omega arith) ∙ voxel_in s raw c k p i t ∙ sym (voxel_in s raw c k q i t) ∙ sym (get_or-map-range_with_len (voxel_of s raw c k q) 0 n i i 0 l (omega arith)))

-- and no indices
pub packed_none : (s : SegSizes) (raw : List ℕ) (c k v : ℕ) → table s raw c k ≡ v ∷ [] → packed_bytes s raw c k ≡ []
packed_none s raw c k v e =
    let none : packed_words 0 (block_voxels s) ≡ 0 = omega arith in
    let z : packed_len s raw c k ≡ 0 = ap (λ q. packed_words (bits_for (length q)) (block_voxels s)) e ∙ none in
    ap (λ q. bytes_of (4 * q) (packed (block_bits s raw c k) (map (index_of s raw c k) (range_with_len 0 (block_voxels s))))) z
