-- A cell's segmentation chunk keeps the limits of a shape, and its values stand at the voxels' numbers.
use Rattle.std.proofs.Common.{◌≡◌, ◌≢◌, ℕ, ◌+◌, ◌-◌, ◌*◌, ◌/◌, ◌^◌, ◌<◌, ◌≤◌, ◌==◌, min, List, length, slice_index, None, refl, ap, ◌∙◌, sym, subst, arith, lit<, ⊎_elim, inl, inr}
use Rattle.std.specs.Prelude.{◌⊎◌, ℤ}
use Rattle.std.proofs.Math.Nat.{div-mul-le_self, le-mul_of_pos_right, mul-le-mul_right}
use Rattle.std.proofs.lemmas.Bool.{cases_eq}
use Rattle.std.proofs.lemmas.Grind.{not_there}
use Rattle.std.proofs.lemmas.Nat.{le-div, mul-le}
use Rattle.vol_base.specs.Boxes.{Covers, at, from_begin, num, size as box_size}
use Rattle.vol_base.specs.Bytes.{AreBytes}
use Rattle.vol_spec.specs.Encodings.{blocks_of, raw_size, sizes_in}
use Rattle.vol_spec.specs.Grid.{IsCell, cell_begin, cell_box, cell_size}
use Rattle.vol_spec.specs.Limits.{first_size, padded_of, padded_voxels, rounded}
use Rattle.vol_spec.specs.Raw.{digit, raw_at}
use Rattle.vol_spec.specs.SegBlocks.{InChunk, raw_len as seg_raw_len}
use Rattle.vol_spec.specs.SegChunks.{seg_at}
use Rattle.vol_spec.specs.SegFaults.{seg_fault}
use Rattle.vol_spec.specs.SegSizes.{encoded_limit, padded_in, width_of}
use Rattle.vol_spec.specs.SegWritten.{seg_bytes}
use Rattle.vol_spec.specs.declared.encoding.Encoding.{Encoding}
use Rattle.vol_spec.specs.declared.encoding.Encoding.TheVariants.{Seg}
use Rattle.vol_spec.specs.declared.scale.Scale.{Scale}
use Rattle.vol_spec.proofs.RawSteps.{place_of}
use Rattle.vol_spec.specs.Writable.{IsWritable}
use Rattle.chunk_grid.proofs.GridSteps.{cell_box-IsSome, cell_box-short}
use Rattle.segment_blocks.specs.Shape.{IsShape, padded}
use Rattle.segment_blocks.proofs.Back.{length_seg}
use Rattle.segment_blocks.proofs.Channels.{start_le}
use Rattle.segment_blocks.proofs.Shapes.{padded_is}
use Rattle.segment_blocks.proofs.Sound.{is_sound, reads_back}

-- a smaller size has no more whole blocks
rounded_more : (a c b : ℕ) → 0 < b → a ≤ c → rounded a b ≤ rounded c b
rounded_more a c b some h =
    let low : (a + b - 1) / b * b ≤ a + b - 1 = div-mul-le_self (a + b - 1) b in
    let d : (a + b - 1) / b ≤ (c + b - 1) / b = le-div ((a + b - 1) / b) (c + b - 1) b some (omega arith) in
    mul-le-mul_right b d

size_less : (chunk size begin : ℕ) → min (min chunk (size - begin)) (min chunk (size - begin)) ≤ min chunk size
size_less chunk size begin = omega arith

pub padded_short : (s : Scale) (cell block : List ℕ) → ((axis : ℕ) → axis < 3 → 0 < slice_index block axis) → padded_voxels block s.channels (cell_box s cell).size (cell_box s cell).size ≤ padded_voxels block s.channels s.size s.chunk
padded_short s cell block some =
    let on = λ (axis : ℕ) (h : axis < 3). rounded_more (min (cell_size s cell axis) (cell_size s cell axis)) (first_size s.size s.chunk axis) (slice_index block axis) (some axis h) (size_less (slice_index s.chunk axis) (slice_index s.size axis) (cell_begin s cell axis)) in
    mul-le-mul_right s.channels (mul-le _ _ _ _ (mul-le _ _ _ _ (on 0 (lit< tt)) (on 1 (lit< tt))) (on 2 (lit< tt)))

wide_or_not : (w : ℕ) → (w ≡ 4) ⊎ (w ≡ 8) → width_of (w == 8) ≡ w
wide_or_not w (inl e) = subst (λ (n : ℕ). width_of (n == 8) ≡ n) (sym e) refl
wide_or_not w (inr e) = subst (λ (n : ℕ). width_of (n == 8) ≡ n) (sym e) refl

module _ (s : Scale) (cell block : List ℕ) (seg : s.encoding ≡ Seg block) where
  pub width_is : width_of (s.width == 8) ≡ s.width
  width_is =
      ⊎_elim (λ (e : s.width ≡ 4). wide_or_not s.width (inl e))
      (λ (n : s.width ≢ 4). ⊎_elim (λ (e : s.width ≡ 8). wide_or_not s.width (inr e)) (λ (k : s.width ≢ 8). absurd (not_there (s.wide_ok block seg) (⊎_elim n k))) (cases_eq s.width 8))
      (cases_eq s.width 4)

  pub block_limits : (axis : ℕ) → axis < 3 → (0 < slice_index (blocks_of s.encoding) axis) × (slice_index (blocks_of s.encoding) axis ≤ 2 ^ 24)
  block_limits axis h = subst (λ (e : Encoding). (0 < slice_index (blocks_of e) axis) × (slice_index (blocks_of e) axis ≤ 2 ^ 24)) (sym seg) (s.block_ok block seg axis h)

  padded_same : padded_of s.encoding s.channels s.size s.chunk ≡ padded_voxels (blocks_of s.encoding) s.channels s.size s.chunk
  padded_same = subst (λ (e : Encoding). padded_of e s.channels s.size s.chunk ≡ padded_voxels (blocks_of e) s.channels s.size s.chunk) (sym seg) refl

  pub padded_in_cell : padded_in (sizes_in s cell) ≤ padded_of s.encoding s.channels s.size s.chunk
  padded_in_cell = let h = padded_short s cell (blocks_of s.encoding) (λ axis l. (block_limits axis l).0) in omega (arith, h, padded_same)

  pub raw_same : seg_raw_len (sizes_in s cell) ≡ raw_size s cell
  raw_same = ap (λ w. cell_size s cell 0 * cell_size s cell 1 * cell_size s cell 2 * s.channels * w) width_is

  pub size_limits : IsCell s cell → (axis : ℕ) → axis < 3 → (0 < box_size (cell_box s cell) axis) × (cell_size s cell axis ≤ 2 ^ 40)
  size_limits is axis h = (cell_box-IsSome s cell is axis h, (let c = s.chunk_ok axis h in omega (arith, c.1)))

  pub is_shape : IsCell s cell → IsShape (sizes_in s cell)
  is_shape is =
      let p = padded_is (sizes_in s cell) in
      let short = cell_box-short s cell in
      record {
        size_0 = size_limits is 0 (lit< tt);
        size_1 = size_limits is 1 (lit< tt);
        size_2 = size_limits is 2 (lit< tt);
        block_0 = block_limits 0 (lit< tt);
        block_1 = block_limits 1 (lit< tt);
        block_2 = block_limits 2 (lit< tt);
        some_channels = s.some_channels;
        few_channels = s.channels_ok;
        reading = omega (arith, p, padded_in_cell, s.padded_ok);
        raw = omega (arith, raw_same, short, s.first_ok);
      }

  -- what can be written
  abbrev Writable : Type 0
  Writable = IsWritable s

  all_padded : Writable → padded (sizes_in s cell) * s.channels ≤ 2 ^ 22
  all_padded can = let p = padded_is (sizes_in s cell) in omega (arith, p, padded_in_cell, can)

  one_padded : Writable → padded (sizes_in s cell) ≤ 2 ^ 22
  one_padded can =
      let l : padded (sizes_in s cell) ≤ padded (sizes_in s cell) * s.channels = le-mul_of_pos_right (padded (sizes_in s cell)) s.some_channels in
      let a = all_padded can in omega (arith, l, a)

  pub seg_sound : (raw : List ℕ) → IsCell s cell → Writable → seg_fault (seg_bytes (sizes_in s cell) raw) (sizes_in s cell) ≡ None
  seg_sound raw is can = is_sound (sizes_in s cell) raw (is_shape is) (all_padded can) (one_padded can)

  pub seg_short : (raw : List ℕ) → IsCell s cell → length (seg_bytes (sizes_in s cell) raw) ≤ encoded_limit (sizes_in s cell)
  seg_short raw is =
      let p = padded_is (sizes_in s cell) in
      let a = start_le (sizes_in s cell) raw s.channels (is_shape is) in
      let l = length_seg (sizes_in s cell) raw in
      omega (arith, p, a, l)

  -- a voxel of the cell is one of the chunk
  pub in_chunk : (p : List ℤ) → Covers (cell_box s cell) p → InChunk (sizes_in s cell) (from_begin (cell_box s cell) p 0) (from_begin (cell_box s cell) p 1) (from_begin (cell_box s cell) p 2)
  in_chunk p covered =
      let place = λ (axis : ℕ) (l : axis < 3). place_of (at (cell_box s cell).begin axis) (at p axis) (box_size (cell_box s cell) axis) (covered axis l).0 (covered axis l).1 in
      record { on_x = place 0 (lit< tt); on_y = place 1 (lit< tt); on_z = place 2 (lit< tt) }

  pub seg_value : (raw : List ℕ) (p : List ℤ) (c : ℕ) → IsCell s cell → Writable → AreBytes raw → Covers (cell_box s cell) p → c < s.channels
      → seg_at (seg_bytes (sizes_in s cell) raw) (sizes_in s cell) (from_begin (cell_box s cell) p 0) (from_begin (cell_box s cell) p 1) (from_begin (cell_box s cell) p 2) c ≡ raw_at (cell_box s cell) s.width raw p c
  seg_value raw p c is can bytes covered h =
      reads_back (sizes_in s cell) raw (is_shape is) bytes (all_padded can) (one_padded can) (from_begin (cell_box s cell) p 0) (from_begin (cell_box s cell) p 1) (from_begin (cell_box s cell) p 2) c (in_chunk p covered) h
      ∙ ap (λ w. digit raw w (num (cell_box s cell) p c)) width_is
