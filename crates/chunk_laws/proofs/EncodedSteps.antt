-- What is encoded has no fault, keeps the limit, and gives the values back.
use Rattle.std.proofs.Common.{◌≡◌, ℕ, ◌^◌, ◌<◌, ◌≤◌, ◌==◌, Bool, true, false, if◌then◌else◌, List, length, Some, None, refl, arith}
use Rattle.std.specs.Prelude.{ℤ}
use Rattle.std.proofs.lemmas.Bool.Decides.{nat_tests}
use Rattle.vol_base.specs.Boxes.{Covers, from_begin}
use Rattle.vol_base.specs.declared.faults.ChunkFault.{ChunkFault}
use Rattle.vol_base.specs.Bytes.{AreBytes}
use Rattle.vol_spec.specs.Encodings.{by_encoding, cell_limit, chunk_fault, encoded, raw_size, sizes_in, value_at}
use Rattle.vol_spec.specs.Grid.{IsCell, cell_box}
use Rattle.vol_spec.specs.Raw.{raw_at, raw_fault}
use Rattle.vol_spec.specs.SegChunks.{seg_at}
use Rattle.vol_spec.specs.SegFaults.{seg_fault}
use Rattle.vol_spec.specs.SegSizes.{encoded_limit}
use Rattle.vol_spec.specs.SegWritten.{seg_bytes}
use Rattle.vol_spec.specs.declared.encoding.Encoding.{Encoding}
use Rattle.vol_spec.specs.declared.encoding.Encoding.TheVariants.{Raw, Seg}
use Rattle.vol_spec.specs.declared.scale.Scale.{Scale}
use Rattle.vol_spec.specs.Writable.{IsWritable}
use Rattle.chunk_grid.proofs.GridSteps.{cell_box-short}
use Rattle.segment_cells.proofs.SegSteps.{padded_in_cell, seg_short, seg_sound, seg_value}

none_where : (b : Bool) (fault : ChunkFault) → b ≡ true → (if b then None else Some fault) ≡ None
none_where true fault e = refl
none_where false fault e = absurd (cc e)

equal_true : (m n : ℕ) → m ≡ n → (m == n) ≡ true
equal_true m n e = grind (arith, nat_tests)

module _ (s : Scale) (cell raw : List ℕ) (is : IsCell s cell) (can : IsWritable s) (len : length raw ≡ raw_size s cell) where
  -- by either encoding
  either : (P : Encoding → Type 0) → (s.encoding ≡ Raw → P Raw) → ((block : List ℕ) → s.encoding ≡ Seg block → P (Seg block)) → P s.encoding
  either P raw_case seg_case = by s.encoding refl
    where
      by : (e : Encoding) → s.encoding ≡ e → P e
      by Raw e = raw_case e
      by (Seg block) e = seg_case block e

  abbrev segmented : List ℕ
  segmented = seg_bytes (sizes_in s cell) raw

  pub encoded-sound : chunk_fault s cell (encoded s cell raw) ≡ None
  encoded-sound =
      either (λ (e : Encoding). by_encoding e (raw_fault (cell_box s cell) s.channels s.width (by_encoding e raw segmented)) (seg_fault (by_encoding e raw segmented) (sizes_in s cell)) ≡ None)
      (λ e. none_where (length raw == raw_size s cell) _ (equal_true (length raw) (raw_size s cell) len))
      (λ block e. seg_sound s cell block e raw is can)

  pub encoded-short : length (encoded s cell raw) ≤ cell_limit s cell
  encoded-short =
      either (λ (e : Encoding). length (by_encoding e raw segmented) ≤ by_encoding e (raw_size s cell) (encoded_limit (sizes_in s cell)))
      (λ e. omega (arith, len))
      (λ block e. seg_short s cell block e raw is)

  pub encoded-value : (p : List ℤ) (c : ℕ) → AreBytes raw → Covers (cell_box s cell) p → c < s.channels → value_at s cell (encoded s cell raw) p c ≡ raw_at (cell_box s cell) s.width raw p c
  encoded-value p c bytes covered h =
      either (λ (e : Encoding). by_encoding e (raw_at (cell_box s cell) s.width (by_encoding e raw segmented) p c)
      (seg_at (by_encoding e raw segmented) (sizes_in s cell) (from_begin (cell_box s cell) p 0) (from_begin (cell_box s cell) p 1) (from_begin (cell_box s cell) p 2) c) ≡ raw_at (cell_box s cell) s.width raw p c)
      (λ e. refl)
      (λ block e. seg_value s cell block e raw p c is can bytes covered h)

  -- no chunk is longer than 2^27 bytes
  pub limit-short : cell_limit s cell ≤ 2 ^ 27
  limit-short =
      either (λ (e : Encoding). by_encoding e (raw_size s cell) (encoded_limit (sizes_in s cell)) ≤ 2 ^ 27)
      (λ e. let short = cell_box-short s cell in omega (arith, short, s.first_ok))
      (λ block e. let p = padded_in_cell s cell block e in omega (arith, p, can, s.channels_ok))
