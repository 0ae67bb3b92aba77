-- The chunk of a cell in the words of every encoding.
use Rattle.std.specs.Prelude.{Result, Ok, Err, OnOk}
use Rattle.std.proofs.Common.{◌≡◌, ℕ, ◌+◌, ◌-◌, ◌*◌, ◌^◌, ◌<◌, ◌≤◌, List, min, refl, ap, ◌∙◌, sym, subst, arith}
use Rattle.vol_base.specs.Boxes.{from_begin, num}
use Rattle.vol_base.specs.declared.boxes.Box3.{Box3}
use Rattle.vol_spec.specs.Encodings.{by_encoding, cell_limit, chunk_fault, encoded, raw_size, sizes_in}
use Rattle.vol_spec.specs.Grid.{cell_box}
use Rattle.vol_spec.specs.Limits.{first_bytes, limit_of, padded_of}
use Rattle.vol_spec.specs.Raw.{digit, raw_at, raw_len}
use Rattle.vol_spec.specs.SegBlocks.{InChunk, num as seg_num, width}
use Rattle.vol_spec.specs.SegChunks.{seg_at}
use Rattle.vol_spec.specs.SegFaults.{seg_fault}
use Rattle.vol_spec.specs.SegSizes.{SegSizes, encoded_limit}
use Rattle.vol_spec.specs.SegWritten.{seg_bytes}
use Rattle.vol_spec.specs.Types.{Bytes, Cell}
use Rattle.vol_spec.specs.declared.encoding.Encoding.{Encoding}
use Rattle.vol_spec.specs.declared.encoding.Encoding.TheVariants.{Raw, Seg}
use Rattle.vol_spec.specs.declared.scale.Scale.{Scale}
use Rattle.vol_spec.proofs.Plain.{limit-raw}
use Rattle.vol_spec.specs.Writable.{IsWritable}
use Rattle.chunk_grid.proofs.GridSteps.{cell_box-short}
use Rattle.segment_cells.specs.Decoding.{HoldsValues}
use Rattle.segment_cells.proofs.SegSteps.{in_chunk, padded_in_cell, width_is}

-- the bytes of a cell's values are few
pub record CellLen (s : Scale) (cell : Cell) (n : ℕ) : Type 0 where
  pub is : n ≡ raw_size s cell
  pub first : n ≤ first_bytes s.width s.channels s.size s.chunk
  pub small : n ≤ 2 ^ 27

pub cell_len : (s : Scale) (cell : Cell) (b : Box3) (n : ℕ) → b ≡ cell_box s cell → n ≡ min (raw_len b s.channels s.width) (2 ^ 128 - 1) → CellLen s cell n
cell_len s cell b n is e =
    let first : raw_size s cell ≤ first_bytes s.width s.channels s.size s.chunk = cell_box-short s cell in
    let same : n ≡ min (raw_size s cell) (2 ^ 128 - 1) = subst (λ x. n ≡ min (raw_len x s.channels s.width) (2 ^ 128 - 1)) is e in
    let small = s.first_ok in
    record { is = omega (arith, same, first, small); first = omega (arith, same, first); small = omega (arith, same, first, small) }

-- no raw chunk passes the first one
pub raw_first : (s : Scale) (cell : Cell) (n : ℕ) → s.encoding ≡ Raw → n ≡ raw_size s cell → n ≤ limit_of s.encoding s.width s.channels s.size s.chunk
raw_first s cell n raw is =
    let first : raw_size s cell ≤ first_bytes s.width s.channels s.size s.chunk = cell_box-short s cell in
    let most : limit_of s.encoding s.width s.channels s.size s.chunk ≡ first_bytes s.width s.channels s.size s.chunk =
    ap (λ (e : Encoding). limit_of e s.width s.channels s.size s.chunk) raw in
    omega (arith, first, most, is)

module _ (s : Scale) (cell block : List ℕ) (seg : s.encoding ≡ Seg block) where
  chosen : {A : Type 0} (a b : A) → by_encoding s.encoding a b ≡ b
  chosen a b = ap (λ e. by_encoding e a b) seg

  most : limit_of s.encoding s.width s.channels s.size s.chunk ≡ 4 * s.channels + 16 * padded_of s.encoding s.channels s.size s.chunk
  most = subst (λ (e : Encoding). limit_of e s.width s.channels s.size s.chunk ≡ 4 * s.channels + 16 * padded_of e s.channels s.size s.chunk) (sym seg) refl

  pub limit-seg : cell_limit s cell ≡ encoded_limit (sizes_in s cell)
  limit-seg = chosen _ _

  pub fault-seg : (bytes : Bytes) → chunk_fault s cell bytes ≡ seg_fault bytes (sizes_in s cell)
  fault-seg bytes = chosen _ _

  pub encoded-seg : (raw : Bytes) → encoded s cell raw ≡ seg_bytes (sizes_in s cell) raw
  encoded-seg raw = chosen _ _

  pub seg_first : (n : ℕ) → n ≡ encoded_limit (sizes_in s cell) → n ≤ limit_of s.encoding s.width s.channels s.size s.chunk
  seg_first n is = let p = padded_in_cell s cell block seg in omega (arith, is, p, most)

  pub seg_small : (n : ℕ) → n ≤ encoded_limit (sizes_in s cell) → IsWritable s → n ≤ 2 ^ 27
  seg_small n h can = let p = padded_in_cell s cell block seg in omega (arith, h, p, can, s.channels_ok)

  -- values that are read by the chunk's own places are those of its voxels
  pub values_at : (bytes values : Bytes) (sizes : SegSizes) → sizes ≡ sizes_in s cell
      → ((x y z c : ℕ) → InChunk sizes x y z → c < sizes.channels → digit values (width sizes) (seg_num sizes x y z c) ≡ seg_at bytes sizes x y z c)
      → HoldsValues s cell bytes values
  values_at bytes values sizes is read p c covered low =
      let b = cell_box s cell in
      let law : (x y z c : ℕ) → InChunk (sizes_in s cell) x y z → c < s.channels → digit values (width (sizes_in s cell)) (seg_num (sizes_in s cell) x y z c) ≡ seg_at bytes (sizes_in s cell) x y z c =
      subst (λ (t : SegSizes). (x y z c : ℕ) → InChunk t x y z → c < t.channels → digit values (width t) (seg_num t x y z c) ≡ seg_at bytes t x y z c) is read in
      sym (ap (λ w. digit values w (num b p c)) (width_is s cell block seg))
      ∙ law (from_begin b p 0) (from_begin b p 1) (from_begin b p 2) c (in_chunk s cell block seg p covered) low
      ∙ sym (chosen (raw_at b s.width bytes p c) (seg_at bytes (sizes_in s cell) (from_begin b p 0) (from_begin b p 1) (from_begin b p 2) c))

-- what holds where a call answers Ok
pub on_ok : {A E : Type 0} (r : Result A E) (P Q : Type 0) → (P → Q) → OnOk r P → OnOk r Q
on_ok (Ok x) P Q f h = f h
on_ok (Err e) P Q f h = tt

-- no cell's chunk passes the scale's longest
pub limit_first : (s : Scale) (cell : Cell) → cell_limit s cell ≤ limit_of s.encoding s.width s.channels s.size s.chunk
limit_first s cell = by s.encoding refl
  where
    by : (e : Encoding) → s.encoding ≡ e → cell_limit s cell ≤ limit_of s.encoding s.width s.channels s.size s.chunk
    by Raw e = raw_first s cell (cell_limit s cell) e (limit-raw s e cell)
    by (Seg block) e = seg_first s cell block e (cell_limit s cell) (limit-seg s cell block e)
