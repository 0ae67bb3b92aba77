-- Every value is kept by a copy.
use Rattle.std.proofs.Common.{◌≡◌, ℕ, ◌+◌, ◌*◌, ◌^◌, ◌<◌, ◌≤◌, List, [], Bool, true, false, length, get_or, take, drop, Option, Some, None, IfSome, refl, ap, ◌∙◌, sym, subst, arith, length-take}
use Rattle.std.specs.Prelude.{Contains, Result, Ok, Err, ℤ}
use Rattle.std.specs.FinMap as fin
use Rattle.std.proofs.lemmas.List.Elements.{All-from_get_or, All-contains, filter_passes}
use Rattle.vol_base.specs.Boxes.{Covers, at, from_begin, on_axes}
use Rattle.vol_base.specs.Outside.{HaveBytes, Objects, any_under}
use Rattle.vol_base.specs.declared.faults.ChunkFault.{ChunkFault}
use Rattle.vol_base.specs.declared.faults.Fault.{Fault}
use Rattle.vol_base.specs.Bytes.{AreBytes}
use Rattle.vol_spec.specs.CellNames.{folder_of}
use Rattle.vol_spec.specs.Chunks.{chunk_in, fault_in, fault_of, judged, unless, value_in, value_of}
use Rattle.vol_spec.specs.Encodings.{by_encoding, cell_limit, chunk_fault, raw_size, sizes_in, value_at}
use Rattle.vol_spec.specs.FoundChunks.{found}
use Rattle.vol_spec.specs.Grid.{IsCell, cell_at, cell_box, cells_on, numbers_on, whole}
use Rattle.vol_spec.specs.Places.{id_of}
use Rattle.vol_spec.specs.Raw.{raw_at}
use Rattle.vol_spec.specs.SegBlocks.{block_of, number_in, width}
use Rattle.vol_spec.specs.SegChunks.{entry, entry_at, index, seg_at}
use Rattle.vol_spec.specs.StoredBytes.{held, held_by, object_of, spanned, stored_bytes}
use Rattle.vol_spec.specs.StoredCells.{put_in}
use Rattle.vol_spec.specs.StoredLists.{stored_list}
use Rattle.vol_spec.specs.declared.encoding.Encoding.{Encoding}
use Rattle.vol_spec.specs.declared.encoding.Encoding.TheVariants.{Raw, Seg}
use Rattle.vol_spec.specs.declared.scale.Scale.{Scale}
use Rattle.vol_spec.specs.declared.sharding.Sharding.{Sharding}
use Rattle.vol_spec.specs.declared.span.ChunkSpan.{ChunkSpan}
use Rattle.vol_spec.specs.Writable.{IsWritable}
use Rattle.vol_spec.proofs.CutSteps.{bytes_part}
use Rattle.vol_spec.proofs.RawSteps.{digit-lt, digit-raw_bytes, number-lt, zeros_are}
use Rattle.chunk_grid.proofs.GridSteps.{cell_at-Covers, cell_at-IsCell}
use Rattle.chunk_laws.proofs.Law.{chunk_empty, chunk_there, value_there}
use Rattle.segment_cells.proofs.SegSteps.{width_is}
use Rattle.chunk_laws.proofs.WrittenSteps.{AreBytes-raw_bytes}
use Rattle.chunk_laws.specs.Storable.{AreStorable, with_bytes}
use Rattle.vol_spec.specs.Copies.{AreOfOneVolume, copied_cells, copied_raw, copy, is_copied, is_there, or_zero}
use Rattle.copy_laws.proofs.CopyValues.{AreInOrder-copied_cells, Contains-copied, length-copied_raw, position_copied, value_absent, value_sound, whole_same}

-- what is said of a cell is bytes, where its object is
abbrev IsFine : Result (Option (List ℕ)) Fault → Type 0
IsFine (Ok None) = Unit {0}
IsFine (Ok (Some bytes)) = AreBytes bytes
IsFine (Err fault) = Unit {0}

fine_spanned : (object : List ℕ) (span : Result (Option ChunkSpan) Fault) → AreBytes object → IsFine (spanned object span)
fine_spanned object (Ok None) h = tt
fine_spanned object (Ok (Some span)) h = bytes_part span.len span.start object h
fine_spanned object (Err fault) h = tt

fine_held_by : (o : Option Sharding) (s : Scale) (cell object : List ℕ) → AreBytes object → IsFine (held_by o s cell object)
fine_held_by None s cell object h = bytes_part (cell_limit s cell + 1) 0 object h
fine_held_by (Some sharding) s cell object h = fine_spanned object (found object sharding (cell_limit s cell) (id_of s cell)) h

fine_held : (s : Scale) (cell : List ℕ) (object : Option (List ℕ)) → IfSome object AreBytes → IsFine (held s cell object)
fine_held s cell None h = tt
fine_held s cell (Some object) h = fine_held_by s.sharding s cell object h

fine_unless : (fault : Option ChunkFault) (bytes : List ℕ) → AreBytes bytes → IsFine (unless fault bytes)
fine_unless None bytes h = h
fine_unless (Some fault) bytes h = tt

fine_judged : (s : Scale) (cell : List ℕ) (seen : Result (Option (List ℕ)) Fault) → IsFine seen → IsFine (judged s cell seen)
fine_judged s cell (Ok None) h = tt
fine_judged s cell (Ok (Some bytes)) h = fine_unless (chunk_fault s cell bytes) bytes h
fine_judged s cell (Err fault) h = tt

fine_chunk : (m : Objects) (dataset : List ℕ) (s : Scale) (cell : List ℕ) → IfSome (fin.get m (object_of dataset s cell)) AreBytes → IsFine (chunk_in m dataset s cell)
unfolding chunk_in stored_bytes
fine_chunk m dataset s cell h = fine_judged s cell (held s cell (fin.get m (object_of dataset s cell))) (fine_held s cell (fin.get m (object_of dataset s cell)) h)

-- so each value has the scale's width
some_power : (w : ℕ) → 0 < 256 ^ w
some_power w = (zeros_are w).fit [] 0

seg_narrow : (s : Scale) (cell block : List ℕ) (bytes : List ℕ) (x y z c : ℕ) → s.encoding ≡ Seg block → AreBytes bytes → seg_at bytes (sizes_in s cell) x y z c < 256 ^ s.width
unfolding entry
seg_narrow s cell block bytes x y z c seg h =
    let sizes = sizes_in s cell in
    let from : ℕ = 4 * entry_at bytes sizes c (block_of sizes x y z) (index bytes c (block_of sizes x y z) (number_in sizes x y z)) in
    let same : width (sizes_in s cell) ≡ s.width = width_is s cell block seg in
    number-lt s.width (take (width (sizes_in s cell)) (drop from bytes)) (omega (arith, length-take (width (sizes_in s cell)) (drop from bytes))) (bytes_part (width (sizes_in s cell)) from bytes h)

pub value_narrow : (s : Scale) (cell bytes : List ℕ) (p : List ℤ) (c : ℕ) → AreBytes bytes → value_at s cell bytes p c < 256 ^ s.width
value_narrow s cell bytes p c h = by s.encoding refl
  where
    by : (e : Encoding) → s.encoding ≡ e
        → by_encoding e (raw_at (cell_box s cell) s.width bytes p c) (seg_at bytes (sizes_in s cell) (from_begin (cell_box s cell) p 0) (from_begin (cell_box s cell) p 1) (from_begin (cell_box s cell) p 2) c) < 256 ^ s.width
    by Raw e = digit-lt bytes s.width _ h
    by (Seg block) e = seg_narrow s cell block bytes _ _ _ c e h

narrow_by : (s : Scale) (cell : List ℕ) (seen : Result (Option (List ℕ)) Fault) (p : List ℤ) (c : ℕ) → IsFine seen → or_zero (value_of s cell seen p c) < 256 ^ s.width
narrow_by s cell (Ok None) p c h = some_power s.width
narrow_by s cell (Ok (Some bytes)) p c h = value_narrow s cell bytes p c h
narrow_by s cell (Err fault) p c h = some_power s.width

pub value_in-narrow : (m : Objects) (dataset : List ℕ) (s : Scale) (p : List ℤ) (c : ℕ) → HaveBytes m → or_zero (value_in m dataset s p c) < 256 ^ s.width
value_in-narrow m dataset s p c h = narrow_by s (cell_at s p) (chunk_in m dataset s (cell_at s p)) p c (fine_chunk m dataset s (cell_at s p) (h (object_of dataset s (cell_at s p))))

-- bytes of the copy
pub AreBytes-copied_raw : (m : Objects) (dataset : List ℕ) (from to : Scale) (cell : List ℕ) → AreBytes (copied_raw m dataset from to cell)
unfolding copied_raw
AreBytes-copied_raw m dataset from to cell = AreBytes-raw_bytes (cell_box to cell) to.channels to.width (λ p c. or_zero (value_in m dataset from p c))

-- a value is told by the three coordinates
value_of-axes : (s : Scale) (cell : List ℕ) (seen : Result (Option (List ℕ)) Fault) (p : List ℤ) (c : ℕ) → value_of s cell seen (on_axes (at p)) c ≡ value_of s cell seen p c
value_of-axes s cell (Ok None) p c = refl
value_of-axes s cell (Ok (Some bytes)) p c = refl
value_of-axes s cell (Err fault) p c = refl

pub value_in-axes : (m : Objects) (dataset : List ℕ) (s : Scale) (p : List ℤ) (c : ℕ) → value_in m dataset s (on_axes (at p)) c ≡ value_in m dataset s p c
value_in-axes m dataset s p c = value_of-axes s (cell_at s p) (chunk_in m dataset s (cell_at s p)) p c

-- hold the source's values
pub raw_at-copied_raw : (m : Objects) (dataset : List ℕ) (from to : Scale) (cell : List ℕ) (p : List ℤ) (c : ℕ) → or_zero (value_in m dataset from p c) < 256 ^ to.width → Covers (cell_box to cell) p → c < to.channels
    → raw_at (cell_box to cell) to.width (copied_raw m dataset from to cell) p c ≡ or_zero (value_in m dataset from p c)
unfolding copied_raw
raw_at-copied_raw m dataset from to cell p c small covered h =
    let axes : or_zero (value_in m dataset from (on_axes (at p)) c) ≡ or_zero (value_in m dataset from p c) = ap or_zero (value_in-axes m dataset from p c) in
    digit-raw_bytes (cell_box to cell) to.channels to.width (λ q k. or_zero (value_in m dataset from q k)) p c covered h (subst (λ n. n < 256 ^ to.width) (sym axes) small)
    ∙ axes

pub copy_is : (m : Objects) (dataset : List ℕ) (from to : Scale) → copy m dataset from to ≡ with_bytes (copied_raw m dataset from to) (copied_cells m dataset from to)
unfolding copy
copy_is m dataset from to = refl

listed_copied : (m : Objects) (dataset : List ℕ) (from to : Scale) (cell : List ℕ) → Contains (copied_cells m dataset from to) cell → is_copied m dataset from to cell ≡ true
unfolding copied_cells
listed_copied m dataset from to cell c = All-contains (λ cell. is_copied m dataset from to cell ≡ true) (copied_cells m dataset from to) cell (filter_passes (is_copied m dataset from to) (numbers_on (cells_on to))) c

module _ (m : Objects) (dataset other : List ℕ) (from to : Scale) (same : AreOfOneVolume from to) (few : length (copied_cells m dataset from to) ≤ 2 ^ 22)
    (can : IsWritable to) (none : any_under m (folder_of other to) ≡ false) where
  pub copy_storable : AreStorable to (copied_raw m dataset from to) (copied_cells m dataset from to)
  copy_storable = record {
    order = AreInOrder-copied_cells m dataset from to;
    lens = All-from_get_or (λ cell. length (copied_raw m dataset from to cell) ≡ raw_size to cell) (copied_cells m dataset from to) [] (λ i l. length-copied_raw m dataset from to (get_or (copied_cells m dataset from to) i []));
    few = few;
    writable = can;
  }

  -- a copy keeps every value
  pub copied_value : (p : List ℤ) (c : ℕ) → HaveBytes m → ((cell : List ℕ) → IsCell from cell → fault_in m dataset from cell ≡ None) → Covers (whole to) p → c < to.channels
      → value_in (put_in m (stored_list other to (copy m dataset from to))) other to p c ≡ value_in m dataset from p c
  copied_value p c bytes sound inside l = by (is_copied m dataset from to (cell_at to p)) refl
    where
      source : Covers (whole from) p
      source = subst (λ w. Covers w p) (sym (whole_same from to same)) inside

      is : IsCell to (cell_at to p)
      is = cell_at-IsCell to p inside

      small : or_zero (value_in m dataset from p c) < 256 ^ to.width
      small = subst (λ w. or_zero (value_in m dataset from p c) < 256 ^ w) same.widths (value_in-narrow m dataset from p c bytes)

      not_there : (b : Bool) → is_there (chunk_in m dataset from (cell_at from p)) ≡ b → is_copied m dataset from to (cell_at to p) ≡ false → is_there (chunk_in m dataset from (cell_at from p)) ≡ false
      not_there false e f = e
      not_there true e f = let copied = position_copied from to same m dataset p inside e in absurd (cc (copied, f))

      by : (b : Bool) → is_copied m dataset from to (cell_at to p) ≡ b → value_in (put_in m (stored_list other to (copy m dataset from to))) other to p c ≡ value_in m dataset from p c
      by true e =
          ap (λ cs. value_in (put_in m (stored_list other to cs)) other to p c) (copy_is m dataset from to)
          ∙ value_there other to (copied_raw m dataset from to) (copied_cells m dataset from to) copy_storable m (cell_at to p) p c (Contains-copied from to same m dataset (cell_at to p) is e)
          (AreBytes-copied_raw m dataset from to (cell_at to p)) (cell_at-Covers to p inside) l
          ∙ ap Ok (raw_at-copied_raw m dataset from to (cell_at to p) p c small (cell_at-Covers to p inside) l)
          ∙ sym (value_sound m dataset from p c (sound (cell_at from p) (cell_at-IsCell from p source)))
      by false e =
          ap (λ cs. value_in (put_in m (stored_list other to cs)) other to p c) (copy_is m dataset from to)
          ∙ ap (λ chunk. value_of to (cell_at to p) chunk p c) (chunk_empty other to (copied_raw m dataset from to) (copied_cells m dataset from to) copy_storable m (cell_at to p) none is
          (λ listed. let yes = listed_copied m dataset from to (cell_at to p) listed in absurd (cc (yes, e))))
          ∙ sym (value_absent m dataset from p c (not_there (is_there (chunk_in m dataset from (cell_at from p))) refl e))

  -- and has no fault
  pub copied_sound : (cell : List ℕ) → IsCell to cell → fault_in (put_in m (stored_list other to (copy m dataset from to))) other to cell ≡ None
  copied_sound cell is = ap (λ cs. fault_in (put_in m (stored_list other to cs)) other to cell) (copy_is m dataset from to) ∙ by (is_copied m dataset from to cell) refl
    where
      by : (b : Bool) → is_copied m dataset from to cell ≡ b → fault_in (put_in m (stored_list other to (with_bytes (copied_raw m dataset from to) (copied_cells m dataset from to)))) other to cell ≡ None
      by true e = ap fault_of (chunk_there other to (copied_raw m dataset from to) (copied_cells m dataset from to) copy_storable m cell (Contains-copied from to same m dataset cell is e))
      by false e =
          ap fault_of (chunk_empty other to (copied_raw m dataset from to) (copied_cells m dataset from to) copy_storable m cell none is
          (λ listed. let yes = listed_copied m dataset from to cell listed in absurd (cc (yes, e))))
