-- A chunk that is copied as it is stored.
use Rattle.std.proofs.Common.{◌≡◌, ℕ, ◌+◌, ◌*◌, ◌<◌, ◌==◌, true, List, [], ◌∷◌, length, map, Option, Some, None, Ok, refl, ap, ◌∙◌, sym, subst, arith}
use Rattle.std.specs.Prelude.{ℤ, min, ◌-◌, ◌+ℤ◌, pos, slice_index}
use Rattle.std.specs.Option.{option_map}
use Rattle.std.proofs.lemmas.List.Elements.{All-cons, All-nil}
use Rattle.vol_base.specs.Boxes.{Covers, at, from_begin, num, on_axes}
use Rattle.vol_base.specs.Bytes.{AreBytes}
use Rattle.vol_base.specs.Outside.{Objects}
use Rattle.vol_base.specs.declared.boxes.Box3.{Box3}
use Rattle.vol_base.specs.declared.faults.ChunkFault.{ChunkFault}
use Rattle.vol_base.specs.declared.faults.Fault.{Fault}
use Rattle.vol_spec.specs.BoxValues.{first_some}
use Rattle.vol_spec.specs.Chunks.{chunk_in, fault_of, value_in, value_of}
use Rattle.vol_spec.specs.Copies.{copied_raw, or_zero}
use Rattle.vol_spec.specs.Cut.{faulty, first_fault}
use Rattle.vol_spec.specs.Encodings.{blocks_of, by_encoding, chunk_fault, encoded, raw_size, sizes_in, value_at}
use Rattle.vol_spec.specs.Grid.{IsCell, cell_at, cell_box, cells_in, cells_on, meets}
use Rattle.vol_spec.specs.Limits.{cell_counts, limit_of}
use Rattle.vol_spec.specs.Raw.{digit, raw_at, raw_fault, raw_len}
use Rattle.vol_spec.specs.SegChunks.{seg_at}
use Rattle.vol_spec.specs.SegFaults.{seg_fault}
use Rattle.vol_spec.specs.SegSizes.{SegSizes}
use Rattle.vol_spec.specs.SegWritten.{seg_bytes}
use Rattle.vol_spec.specs.declared.scale.Scale.{Scale}
use Rattle.vol_spec.proofs.RawSteps.{digit-raw_bytes, is_raw_bytes, length-raw_bytes}
use Rattle.chunk_grid.proofs.GridSteps.{Covers-begin, cell_at-only, cell_box-IsSome}
use Rattle.chunk_grid.proofs.ListingSteps.{Meets-from, meets-true}
use Rattle.chunk_grid.proofs.OrderSteps.{cells_in_order}
use Rattle.chunk_laws.proofs.WrittenSteps.{AreBytes-raw_bytes}
use Rattle.segment_cells.specs.Decoding.{HoldsValues}
use Rattle.copy_laws.proofs.CopyLaw.{value_narrow}
use Rattle.copy_laws.proofs.CopyValues.{read_is_copied}
use Rattle.copy_laws.specs.Twins.{AreTwins, said_raw}

-- the cells that meet a cell's box are that cell
pub own_cells : (s : Scale) (cell : List ℕ) → IsCell s cell → cells_in s (cell_box s cell) ≡ cell ∷ []
own_cells s cell is =
    sym (cells_in_order s (meets s (cell_box s cell)) (cell ∷ [])
    (record { each = All-cons (IsCell s) cell [] is (All-nil (IsCell s)); rising = λ i j d l h. absurd (omega arith) })
    (All-cons (λ c. meets s (cell_box s cell) c ≡ true) cell []
    (let p = Covers-begin (cell_box s cell) (cell_box-IsSome s cell is) in meets-true s (cell_box s cell) cell ((cell_box s cell).begin, p, p))
    (All-nil (λ c. meets s (cell_box s cell) c ≡ true)))
    (λ c one e.
    let (p, own, other) = Meets-from s (cell_box s cell) c e in
    let same : cell ≡ c = cell_at-only s p cell is.axes other ∙ sym (cell_at-only s p c one.axes own) in
    (0, omega arith, same)))

-- so its first fault is that cell's
pub own_fault : (m : Objects) (dataset : List ℕ) (s : Scale) (cell : List ℕ) → IsCell s cell → first_fault m dataset s (cell_box s cell) ≡ faulty m dataset s cell
unfolding first_fault
own_fault m dataset s cell is = ap (λ cells. first_some (map (faulty m dataset s) cells)) (own_cells s cell is) ∙ one (faulty m dataset s cell)
  where
    one : (o : Option (List ℕ × Fault)) → first_some (o ∷ []) ≡ o
    one None = refl
    one (Some fault) = refl

-- the values that a chunk says are said by the chunk,
pub said_holds : (s : Scale) (cell chunk : List ℕ) → AreBytes chunk → HoldsValues s cell chunk (said_raw s cell chunk)
said_holds s cell chunk bytes p c covered h = digit-raw_bytes (cell_box s cell) s.channels s.width (value_at s cell chunk) p c covered h (value_narrow s cell chunk (on_axes (at p)) c bytes)

pub said_bytes : (s : Scale) (cell chunk : List ℕ) → AreBytes (said_raw s cell chunk)
said_bytes s cell chunk = AreBytes-raw_bytes (cell_box s cell) s.channels s.width (value_at s cell chunk)

pub said_len : (s : Scale) (cell chunk : List ℕ) → length (said_raw s cell chunk) ≡ raw_size s cell
said_len s cell chunk = length-raw_bytes (cell_box s cell) s.channels s.width (value_at s cell chunk)

-- and values that it says are these
pub said_is : (s : Scale) (cell chunk raw : List ℕ) → IsCell s cell → AreBytes raw → length raw ≡ raw_size s cell → HoldsValues s cell chunk raw → raw ≡ said_raw s cell chunk
said_is s cell chunk raw is bytes len holds = is_raw_bytes (cell_box s cell) s.channels s.width (value_at s cell chunk) raw (cell_box-IsSome s cell is) len bytes holds

module _ (from to : Scale) (twins : AreTwins from to) (cell : List ℕ) where
  pub box_same : cell_box from cell ≡ cell_box to cell
  box_same = λ i. record {
    begin = on_axes (λ axis. at (twins.volume.offsets i) axis +ℤ pos (slice_index cell axis * slice_index (twins.chunks i) axis));
    size = on_axes (λ axis. min (slice_index (twins.chunks i) axis) (slice_index (twins.volume.sizes i) axis - slice_index cell axis * slice_index (twins.chunks i) axis));
  }

  sizes_same : sizes_in from cell ≡ sizes_in to cell
  sizes_same = λ i. record {
    size = (box_same i).size;
    block = blocks_of (twins.encodings i);
    channels = twins.volume.channel_counts i;
    wide = twins.volume.widths i == 8;
  }

  pub cell_same : IsCell to cell → IsCell from cell
  cell_same is = record {
    axes = is.axes;
    below = λ axis l. subst (λ n. slice_index cell axis < n) (λ i. slice_index (cell_counts (sym twins.volume.sizes i) (sym twins.chunks i)) axis) (is.below axis l);
  }

  pub size_same : raw_size from cell ≡ raw_size to cell
  size_same = λ i. raw_len (box_same i) (twins.volume.channel_counts i) (twins.volume.widths i)

  pub fault_same : (chunk : List ℕ) → chunk_fault from cell chunk ≡ chunk_fault to cell chunk
  fault_same chunk = λ i. by_encoding (twins.encodings i) (raw_fault (box_same i) (twins.volume.channel_counts i) (twins.volume.widths i) chunk) (seg_fault chunk (sizes_same i))

  pub value_same : (chunk : List ℕ) (p : List ℤ) (c : ℕ) → value_at from cell chunk p c ≡ value_at to cell chunk p c
  value_same chunk p c = λ i.
      by_encoding (twins.encodings i) (raw_at (box_same i) (twins.volume.widths i) chunk p c)
      (seg_at chunk (sizes_same i) (from_begin (box_same i) p 0) (from_begin (box_same i) p 1) (from_begin (box_same i) p 2) c)

  pub encoded_same : (raw : List ℕ) → encoded from cell raw ≡ encoded to cell raw
  encoded_same raw = λ i. by_encoding (twins.encodings i) raw (seg_bytes (sizes_same i) raw)

  pub holds_same : (chunk raw : List ℕ) → HoldsValues to cell chunk raw → HoldsValues from cell chunk raw
  holds_same chunk raw holds p c covered h =
      (λ i. raw_at (box_same i) (twins.volume.widths i) raw p c)
      ∙ holds p c (subst (λ b. Covers b p) box_same covered) (subst (λ n. c < n) twins.volume.channel_counts h)
      ∙ sym (value_same chunk p c)

  -- where copying what a chunk says gives this chunk again in the one scale, it does in the other
  pub again_same : (chunk : List ℕ) → AreBytes chunk
      → ((raw : List ℕ) → AreBytes raw → length raw ≡ raw_size from cell → HoldsValues from cell chunk raw → encoded from cell raw ≡ chunk)
      → encoded to cell (said_raw to cell chunk) ≡ chunk
  again_same chunk bytes again =
      let raw : List ℕ = said_raw to cell chunk in
      sym (encoded_same raw)
      ∙ again raw (said_bytes to cell chunk) (said_len to cell chunk ∙ sym size_same) (holds_same chunk raw (said_holds to cell chunk bytes))

  pub cells_here : IsCell to cell → cells_in from (cell_box to cell) ≡ cell ∷ []
  cells_here is = ap (cells_in from) (sym box_same) ∙ own_cells from cell (cell_same is)

  module _ (m : Objects) (dataset : List ℕ) (is : IsCell to cell) where
    here : (p : List ℤ) → Covers (cell_box to cell) p → cell ≡ cell_at from p
    here p covered = cell_at-only from p cell is.axes (subst (λ b. Covers b p) (sym box_same) covered)

    -- what a chunk of the one scale says is what is copied of its cell into the other
    pub said_copied : (chunk : List ℕ) → AreBytes chunk → chunk_in m dataset from cell ≡ Ok (Some chunk) → said_raw to cell chunk ≡ copied_raw m dataset from to cell
    unfolding copied_raw
    said_copied chunk bytes seen =
        is_raw_bytes (cell_box to cell) to.channels to.width (λ p c. or_zero (value_in m dataset from p c)) (said_raw to cell chunk) (cell_box-IsSome to cell is) (said_len to cell chunk) (said_bytes to cell chunk)
        (λ p c covered h.
        let value : value_in m dataset from p c ≡ Ok (value_at from cell chunk p c) =
        ap (λ k. value_of from k (chunk_in m dataset from k) p c) (sym (here p covered)) ∙ ap (λ s. value_of from cell s p c) seen in
        said_holds to cell chunk bytes p c covered h ∙ sym (value_same chunk p c) ∙ sym (ap or_zero value))

    -- and so are values that were read of its cell
    pub values_copied : (out : List ℕ) → AreBytes out → length out ≡ raw_size to cell
        → ((p : List ℤ) (c : ℕ) → Covers (cell_box from cell) p → c < from.channels → value_of from cell (chunk_in m dataset from cell) p c ≡ Ok (digit out from.width (num (cell_box from cell) p c)))
        → out ≡ copied_raw m dataset from to cell
    values_copied out bytes len values =
        read_is_copied m dataset from to cell out twins.volume is bytes len
        (λ p c covered h.
        ap (λ k. value_of from k (chunk_in m dataset from k) p c) (sym (here p covered))
        ∙ values p c (subst (λ b. Covers b p) (sym box_same) covered) h
        ∙ ap (λ b. Ok (digit out from.width (num b p c))) box_same)

    -- and the first fault of the box is the cell's
    pub fault_here : first_fault m dataset from (cell_box to cell) ≡ faulty m dataset from cell
    fault_here = ap (first_fault m dataset from) (sym box_same) ∙ own_fault m dataset from cell (cell_same is)

  pub limit_same : limit_of from.encoding from.width from.channels from.size from.chunk ≡ limit_of to.encoding to.width to.channels to.size to.chunk
  limit_same = λ i. limit_of (twins.encodings i) (twins.volume.widths i) (twins.volume.channel_counts i) (twins.volume.sizes i) (twins.chunks i)
