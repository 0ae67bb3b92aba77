-- The marks of a table's entries that a block's voxels have.
use Rattle.std.proofs.Common.{◌≡◌, ◌≢◌, ◌^◌, ℕ, ◌+◌, ◌-◌, ◌*◌, ◌/◌, ◌%◌, ◌<◌, ◌≤◌, List, length, length-set, set, slice_index, arith, refl, ap, ◌∙◌, sym, subst, ⊎_elim, Bool, true, false, IsTrue}
use Rattle.std.specs.Prelude.{if◌then◌else◌, nat_lt, ◌&&◌, min}
use Rattle.std.proofs.lemmas.Bool.{cases_eq, cases_lt}
use Rattle.std.proofs.lemmas.Bool.Decides.{nat_tests}
use Rattle.std.proofs.lemmas.List.{get_or-set_other}
use Rattle.std.proofs.lemmas.Nat.{mod_below}
use Rattle.std.proofs.Math.Nat.{mul-le-mul_right}
use Rattle.vol_spec.specs.SegBlocks.{block, block_count, block_voxels, blocks_on, in_chunk, packed_words, size, x_of, y_of, z_of}
use Rattle.vol_spec.specs.SegSizes.{SegSizes}
use Rattle.segment_blocks.specs.declared.block.Block.{Block}
use Rattle.segment_blocks.specs.Located.{IsBlock}
use Rattle.segment_blocks.specs.Shape.{IsShape}
use Rattle.vol_spec.specs.SegFaults.{is_allowed}
use Rattle.segment_blocks.specs.Row.{index_in}
use Rattle.segment_blocks.specs.Walked.{HasIndices, Noted}
use Rattle.segment_blocks.proofs.Bits.{allowed_le}
use Rattle.segment_blocks.proofs.Offsets.{first_inside}
use Rattle.segment_blocks.proofs.Settling.{up_to}
use Rattle.segment_blocks.proofs.Shapes.{facts, some_voxels, spots}
use Rattle.segment_blocks.proofs.Wholes.{deep}

noted_as : (t : Bool) (inside : ℕ → Bool) (index : ℕ → ℕ) (marks marks' : List ℕ) (m i : ℕ) → inside m ≡ t → Noted inside index marks m → i ≡ index m → marks' ≡ (if t then set marks i 1 else marks)
    → (IsTrue t → i < length marks) → (t ≡ false → i ≡ 0) → Noted inside index marks' (m + 1)
noted_as true inside index marks marks' m i et h ei put lt out =
    let len : length marks' ≡ length marks = ap length put ∙ length-set marks i 1 in
    record {
      below = up_to (λ n. IsTrue (inside n) → index n < length marks') m (λ n l t. omega (arith, h.below n l t, len)) (λ t. omega (arith, lt refl, ei, len));
      padding = up_to (λ n. inside n ≡ false → index n ≡ 0) m h.padding (λ f. absurd (not_both (inside m) et f));
      from = λ j nz. ⊎_elim
          (λ (e : j ≡ i). (m, omega arith, et, sym (e ∙ ei)))
          (λ (n : j ≢ i).
          let same : slice_index marks' j ≡ slice_index marks j = ap (λ q. slice_index q j) put ∙ get_or-set_other marks i j 1 0 n in
          let t = h.from j (λ z. nz (same ∙ z)) in
          (t.0, omega (arith, t.1), t.2, t.3))
          (cases_eq j i);
    }
  where
    not_both : (b : Bool) → b ≡ true → b ≡ false → ⊥
    not_both true t f = absurd (cc)
    not_both false t f = absurd (cc)
noted_as false inside index marks marks' m i et h ei put lt out = record {
  below = up_to (λ n. IsTrue (inside n) → index n < length marks') m (λ n l t. subst (λ q. index n < length q) (sym put) (h.below n l t)) (λ t. absurd (not_both (inside m) t et));
  padding = up_to (λ n. inside n ≡ false → index n ≡ 0) m h.padding (λ f. sym ei ∙ out refl);
  from = λ j nz. let t = h.from j (λ z. nz (ap (λ q. slice_index q j) put ∙ z)) in (t.0, omega (arith, t.1), t.2, t.3);
}
  where
    not_both : (b : Bool) → b ≡ true → b ≡ false → ⊥
    not_both true t f = absurd (cc)
    not_both false t f = absurd (cc)

pub noted_more : (inside : ℕ → Bool) (index : ℕ → ℕ) (marks marks' : List ℕ) (m i : ℕ) (t : Bool) → inside m ≡ t → Noted inside index marks m → i ≡ index m → marks' ≡ (if t then set marks i 1 else marks)
    → (IsTrue t → i < length marks) → (t ≡ false → i ≡ 0) → Noted inside index marks' (m + 1)
noted_more inside index marks marks' m i t = noted_as t inside index marks marks' m i

pub marks_len : (t : Bool) (marks marks' : List ℕ) (i : ℕ) → marks' ≡ (if t then set marks i 1 else marks) → length marks' ≡ length marks
marks_len true marks marks' i e = ap length e ∙ length-set marks i 1
marks_len false marks marks' i e = ap length e

pub index_room : (b n m len : ℕ) → 0 < b → m < n → 4 * packed_words b n ≤ len → 4 * (m * b / 32) + 4 ≤ len
index_room b n m len pb l h =
    let e : (m + 1) * b ≤ n * b = mul-le-mul_right b (omega arith) in
    omega arith

-- the voxels that count are those in the chunk
same_lt : (a b c d : ℕ) → (a < b → c < d) → (c < d → a < b) → nat_lt a b ≡ nat_lt c d
same_lt a b c d to from = ⊎_elim
    (λ (l : a < b). let m = to l in both a b c d l m)
    (λ (l : b ≤ a). ⊎_elim (λ (m : c < d). let n = from m in absurd (omega arith)) (λ (m : d ≤ c). none a b c d l m) (cases_lt c d))
    (cases_lt a b)
  where
    both : (a b c d : ℕ) → a < b → c < d → nat_lt a b ≡ nat_lt c d
    both a b c d l m = grind (arith, nat_tests)

    none : (a b c d : ℕ) → b ≤ a → d ≤ c → nat_lt a b ≡ nat_lt c d
    none a b c d l m = grind (arith, nat_tests)

on_axis : (q x b size n count : ℕ) → q < b → x < size → count ≡ min b (size - x) → n ≡ x + q → nat_lt q count ≡ nat_lt n size
on_axis q x b size n count lq lx ec en = same_lt q count n size (λ l. omega arith) (λ l. omega arith)

pub counts_inside : (s : SegSizes) (c k n : ℕ) (b : Block) → IsShape s → k < block_count s → IsBlock s c k b → n < block_voxels s
    → (nat_lt (n % b.block_x) b.count_x && nat_lt (n / b.block_x % b.block_y) b.count_y && nat_lt (n / b.block_x / b.block_y) b.count_z) ≡ in_chunk s k n
unfolding in_chunk
counts_inside s c k n b h lk is ln =
    let p = spots s k h lk in
    let b0 : ℕ = block s 0 in
    let b1 : ℕ = block s 1 in
    let ex : nat_lt (n % b.block_x) b.count_x ≡ nat_lt (x_of s k n) (size s 0) =
    ap (λ q. nat_lt (n % q) b.count_x) is.block_x ∙ on_axis (n % b0) (k % blocks_on s 0 * b0) b0 (size s 0) (x_of s k n) b.count_x (mod_below n b0 h.block_0.0) p.x (is.count_x ∙ ap (λ q. min b0 (size s 0 - q)) is.x) refl in
    let ey : nat_lt (n / b.block_x % b.block_y) b.count_y ≡ nat_lt (y_of s k n) (size s 1) =
    ap (λ q. nat_lt (n / q % b.block_y) b.count_y) is.block_x ∙ ap (λ q. nat_lt (n / b0 % q) b.count_y) is.block_y
    ∙ on_axis (n / b0 % b1) (k / blocks_on s 0 % blocks_on s 1 * b1) b1 (size s 1) (y_of s k n) b.count_y (mod_below (n / b0) b1 h.block_1.0) p.y (is.count_y ∙ ap (λ q. min b1 (size s 1 - q)) is.y) refl in
    let ez : nat_lt (n / b.block_x / b.block_y) b.count_z ≡ nat_lt (z_of s k n) (size s 2) =
    ap (λ q. nat_lt (n / q / b.block_y) b.count_z) is.block_x ∙ ap (λ q. nat_lt (n / b0 / q) b.count_z) is.block_y
    ∙ on_axis (n / b0 / b1) (k / blocks_on s 0 / blocks_on s 1 * block s 2) (block s 2) (size s 2) (z_of s k n) b.count_z (deep s n h ln) p.z is.count_z refl in
    ap (λ q. q && nat_lt (n / b.block_x % b.block_y) b.count_y && nat_lt (n / b.block_x / b.block_y) b.count_z) ex
    ∙ ap (λ q. nat_lt (x_of s k n) (size s 0) && q && nat_lt (n / b.block_x / b.block_y) b.count_z) ey
    ∙ ap (λ q. nat_lt (x_of s k n) (size s 0) && nat_lt (y_of s k n) (size s 1) && q) ez

-- few words
pub words_few : (s : SegSizes) (b : ℕ) → IsShape s → IsTrue (is_allowed b) → packed_words b (block_voxels s) < 2 ^ 26
words_few s b h al =
    let f = facts s h in
    let le = allowed_le b al in
    let m : b * block_voxels s ≤ 32 * block_voxels s = mul-le-mul_right (block_voxels s) le in
    omega (arith, f.voxels, m)

-- marks that all are set
pub indices_are : (s : SegSizes) (k bits n : ℕ) (values marks : List ℕ) → length marks ≡ n → Noted (in_chunk s k) (index_in values bits) marks (block_voxels s) → ((i : ℕ) → i < length marks → slice_index marks i ≢ 0)
    → ((m : ℕ) → block_voxels s ≤ m → m * bits < 32 * packed_words bits (block_voxels s) → index_in values bits m ≡ 0) → HasIndices s k bits n values
indices_are s k bits n values marks len noted set_all rest = record {
  below = λ m l t. omega (arith, noted.below m l t, len);
  padding = noted.padding;
  used = λ i l. noted.from i (set_all i (omega (arith, l, len)));
  rest = rest;
}

index_none : (values : List ℕ) (m : ℕ) → index_in values 0 m ≡ 0
unfolding index_in
index_none values m = omega arith

-- of no bits all indices are 0
pub no_bits : (s : SegSizes) (k n : ℕ) (values : List ℕ) → IsShape s → k < block_count s → n ≡ 1 → HasIndices s k 0 n values
no_bits s k n values h lk en = record {
  below = λ m l t. omega (arith, index_none values m, en);
  padding = λ m l t. index_none values m;
  used = λ i l. (0, some_voxels s h, first_inside s k h lk, index_none values 0 ∙ omega arith);
  rest = λ m l t. index_none values m;
}
