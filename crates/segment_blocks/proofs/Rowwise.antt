-- Rows of unpacked values.
use Rattle.std.proofs.Common.{◌≡◌, ◌≢◌, ℕ, ◌+◌, ◌*◌, ◌/◌, ◌<◌, ◌≤◌, List, length, arith, refl, ap, ◌∙◌, sym, subst, ⊎_elim}
use Rattle.std.proofs.lemmas.Bool.{cases_lt}
use Rattle.vol_base.specs.Boxes.{value}
use Rattle.segment_blocks.specs.Row.{index_in, Has, Unpacked, IsFirstOut}
use Rattle.std.proofs.Common.{◌-◌, ◌⊎◌, List, drop, slice_index, inl, inr, length-take, length-drop}
use Rattle.std.proofs.lemmas.Grind.{common_steps, elements, same_number_lists}
use Rattle.std.proofs.Math.Nat.{mul-le-mul_left}
use borrow.Rule.Slice.PartMut.{put_mid}
use Rattle.segment_blocks.specs.declared.block.Block.{Block}
use Rattle.segment_blocks.specs.Filled.{Voxel, Lies, Done, IsOut, InRow, spot, number_of}
use Rattle.segment_blocks.proofs.Lines.{line_of, whole_values}

-- an index of no bits is 0
pub index_none : (values : List ℕ) (n : ℕ) → index_in values 0 n ≡ 0
unfolding index_in
index_none values n = omega arith

pub repeat_more : (values table : List ℕ) (w first j : ℕ) (old new : List ℕ) → Unpacked values table w 0 first j old → Has w table 0
    → value w new j ≡ value w table 0 → ((m : ℕ) → m ≢ j → value w new m ≡ value w old m) → Unpacked values table w 0 first (j + 1) new
repeat_more values table w first j old new was has placed kept = record {
  has = λ k lk. rw (index_none values (first + k)) has;
  placed = λ k lk. ⊎_elim
      (λ (l : k < j). kept k (omega arith) ∙ was.placed k l)
      (λ (g : j ≤ k).
      let e : k ≡ j = omega arith in
      ap (value w new) e ∙ placed ∙ ap (value w table) (sym (index_none values (first + k))))
      (cases_lt k j);
}

pub mid_inside : (a k : ℕ) (xs ys : List ℕ) (q : ℕ) → a ≤ length xs → q < length ys → slice_index (put_mid a k xs ys) (a + q) ≡ slice_index ys q
mid_inside a k xs ys q l h = grind (arith, common_steps)

pub mid_outside : (a k : ℕ) (xs ys : List ℕ) (i : ℕ) → a + k ≤ length xs → length ys ≡ k → (i < a) ⊎ (a + k ≤ i) → slice_index (put_mid a k xs ys) i ≡ slice_index xs i
mid_outside a k xs ys i l e (inl h) = grind (arith, common_steps)
mid_outside a k xs ys i l e (inr h) = grind (arith, common_steps)

same_values : (w n m : ℕ) (xs ys : List ℕ) → w * n + w ≤ length xs → w * m + w ≤ length ys → ((k : ℕ) → k < w → slice_index xs (w * n + k) ≡ slice_index ys (w * m + k)) → value w xs n ≡ value w ys m
same_values w n m xs ys lx ly same = grind (arith, elements)

-- a value of bytes in which a run of values was replaced
pub value_inside : (w at n j k : ℕ) (xs ys : List ℕ) → w * at + w * n ≤ length xs → k ≡ w * n → length ys ≡ w * n → j < n → value w (put_mid (w * at) k xs ys) (at + j) ≡ value w ys j
value_inside w at n j k xs ys fits ek len lj =
    let new : List ℕ = put_mid (w * at) k xs ys in
    let len_new : length new ≡ length xs = grind (arith, common_steps) in
    let e : w * (j + 1) ≤ w * n = mul-le-mul_left w (omega arith) in
    let s : w * (at + j) ≡ w * at + w * j = omega arith in
    same_values w (at + j) j new ys (omega arith) (omega arith)
    (λ q lq.
    let t : w * (at + j) + q ≡ w * at + (w * j + q) = omega arith in
    ap (slice_index new) t ∙ mid_inside (w * at) k xs ys (w * j + q) (omega arith) (omega arith))

pub value_outside : (w at n m k : ℕ) (xs ys : List ℕ) → w * at + w * n ≤ length xs → k ≡ w * n → length ys ≡ w * n → (m < at) ⊎ (at + n ≤ m) → value w (put_mid (w * at) k xs ys) m ≡ value w xs m
value_outside w at n m k xs ys fits ek len out =
    let new : List ℕ = put_mid (w * at) k xs ys in
    let len_new : length new ≡ length xs = grind (arith, common_steps) in
    let apart : (q : ℕ) → q < w → (w * m + q < w * at) ⊎ (w * at + k ≤ w * m + q) = λ q lq. ⊎_elim
    (λ (l : m < at). let e : w * (m + 1) ≤ w * at = mul-le-mul_left w (omega arith) in inl (omega arith))
    (λ (g : at + n ≤ m). let e : w * (at + n) ≤ w * m = mul-le-mul_left w (omega arith) in inr (omega arith))
    out in
    same_number_lists _ _ (omega (arith, length-take w (drop (w * m) new), length-drop (w * m) new, length-take w (drop (w * m) xs), length-drop (w * m) xs))
    (λ q lq.
    let less : q < w = omega (arith, length-take w (drop (w * m) new)) in
    let here = mid_outside (w * at) k xs ys (w * m + q) (omega arith) (omega arith) (apart q less) in
    grind (arith, common_steps))

-- the number of a voxel of a row, and of its value
pub numbered : (b : Block) (y z : ℕ) (v : Voxel) → InRow b y z v → number_of b v ≡ (z * b.block_y + y) * b.block_x + v.x
numbered b y z v i =
    let e : v.x + b.block_x * (y + b.block_y * z) ≡ (z * b.block_y + y) * b.block_x + v.x = omega arith in
    ap (λ q. v.x + b.block_x * (q + b.block_y * v.z)) i.1 ∙ ap (λ q. v.x + b.block_x * (y + b.block_y * q)) i.2 ∙ e

pub spotted : (b : Block) (y z : ℕ) (v : Voxel) → InRow b y z v → spot b v ≡ ((b.z + z) * b.size_y + (b.y + y)) * b.size_x + b.x + v.x
spotted b y z v i =
    let e : (b.x + v.x) + b.size_x * ((b.y + y) + b.size_y * (b.z + z)) ≡ ((b.z + z) * b.size_y + (b.y + y)) * b.size_x + b.x + v.x = omega arith in
    ap (λ q. (b.x + v.x) + b.size_x * ((b.y + q) + b.size_y * (b.z + v.z))) i.1 ∙ ap (λ q. (b.x + v.x) + b.size_x * ((b.y + y) + b.size_y * (b.z + q))) i.2 ∙ e

-- an unpacked row, in the raw bytes
pub row_done : (b : Block) (values table raw row : List ℕ) (w bits y z first at k : ℕ) → 0 < w → Lies b (length raw / w) → y < b.count_y → z < b.count_z
    → first ≡ (z * b.block_y + y) * b.block_x → at ≡ ((b.z + z) * b.size_y + (b.y + y)) * b.size_x + b.x → k ≡ w * b.count_x → length row ≡ w * b.count_x
    → Unpacked values table w bits first b.count_x row
    → Done (InRow b y z) b values table w bits raw (put_mid (w * at) k raw row)
row_done b values table raw row w bits y z first at k pw l ly lz ef ea ek len u =
    let line = line_of b (length raw / w) y z l ly lz in
    let within : w * (at + b.count_x) ≤ length raw = whole_values (at + b.count_x) w (length raw) pw (omega (arith, line.line, l.x)) in
    let room : w * at + w * b.count_x ≤ length raw = omega arith in
    record {
      filled = record {
        placed = λ v i.
            let s : spot b v ≡ at + v.x = spotted b y z v i ∙ ap (λ q. q + v.x) (sym ea) in
            let n : first + v.x ≡ number_of b v = ap (λ q. q + v.x) ef ∙ sym (numbered b y z v i) in
            ap (value w (put_mid (w * at) k raw row)) s ∙ value_inside w at b.count_x v.x k raw row room ek len i.0 ∙ u.placed v.x i.0 ∙ ap (λ q. value w table (index_in values bits q)) n;
        kept = λ m out. ⊎_elim
            (λ (below : m < at). value_outside w at b.count_x m k raw row room ek len (inl below))
            (λ (from : at ≤ m). ⊎_elim
            (λ (here : m < at + b.count_x).
            let v : Voxel = record { x = m - at; y = y; z = z } in
            let i : InRow b y z v = (omega arith, refl, refl) in
            absurd (out v i (let s : spot b v ≡ at + (m - at) = spotted b y z v i ∙ ap (λ q. q + (m - at)) (sym ea) in omega arith)))
            (λ (above : at + b.count_x ≤ m). value_outside w at b.count_x m k raw row room ek len (inr above))
            (cases_lt m (at + b.count_x)))
            (cases_lt m at);
      };
      has = λ v i.
          let n : first + v.x ≡ number_of b v = ap (λ q. q + v.x) ef ∙ sym (numbered b y z v i) in
          subst (λ q. Has w table (index_in values bits q)) n (u.has v.x i.0);
    }

-- the first index of a row that the table has no entry for
pub row_out : (b : Block) (values table : List ℕ) (w bits y z first j : ℕ) → first ≡ (z * b.block_y + y) * b.block_x
    → IsFirstOut values table w bits first b.count_x j → IsOut (InRow b y z) b values table w bits (first + j)
row_out b values table w bits y z first j ef o =
    let v : Voxel = record { x = j; y = y; z = z } in
    let i : InRow b y z v = (o.within, refl, refl) in
    record {
      at = (v, i, ap (λ q. q + j) ef ∙ sym (numbered b y z v i));
      out = o.out;
      before = λ u iu less.
          let n : first + u.x ≡ number_of b u = ap (λ q. q + u.x) ef ∙ sym (numbered b y z u iu) in
          subst (λ q. Has w table (index_in values bits q)) n (o.before u.x (omega arith));
    }
