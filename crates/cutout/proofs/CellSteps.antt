-- Reading the cells of a part, one cell on.
use Rattle.std.proofs.Common.{◌≡◌, ◌↔◌, ◌⊎◌, ℕ, ◌+◌, true, false, List, [], ◌∷◌, ◌++◌, map, Some, None, Ok, Err, arith, refl, ap, ◌∙◌, sym, subst, inl, inr, ⊎_elim}
use Rattle.std.specs.Prelude.{Contains}
use Rattle.std.specs.Option.{option_map}
use Rattle.std.proofs.lemmas.Bool.{cases_Bool}
use Rattle.std.proofs.lemmas.List.{map-append}
use Rattle.std.proofs.lemmas.List.Elements.{Contains-push_cases}
use Rattle.std.proofs.lemmas.Slice.Eq.{bytes_eq-Decides}
use Rattle.std.specs.Str.{bytes_eq}
use Rattle.vol_base.specs.declared.boxes.Box3.{Box3}
use Rattle.vol_base.specs.declared.faults.Fault.{Fault}
use Rattle.vol_base.specs.Boxes.{Covers, num}
use Rattle.vol_base.specs.Outside.{Objects}
use Rattle.vol_spec.specs.Chunks.{chunk_in, fault_of, value_of}
use Rattle.vol_spec.specs.Cut.{faulty, first_fault}
use Rattle.vol_spec.specs.BoxValues.{first_some}
use Rattle.vol_spec.specs.Grid.{cell_at, cell_box, cells_in}
use Rattle.vol_spec.specs.Raw.{digit, number}
use Rattle.vol_spec.specs.Types.{Bytes, Cell, Name, Position}
use Rattle.vol_spec.specs.declared.scale.Scale.{Scale}
use Rattle.vol_spec.proofs.Firsts.{first_some-append}
use Rattle.shard_reader.specs.declared.bytes.LookupFault.{LookupFault}
use Rattle.shard_reader.specs.declared.bytes.LookupFault.TheVariants.{NotRead, Faulty}
use Rattle.cutout.specs.declared.channels.Channels.{Channels}
use Rattle.cutout.specs.Reading.{placed, ReadSoFar, Reads, ReadsAll, ReadWhole, Took}
use Rattle.cutout.specs.declared.fault.CutFault.{CutFault}

-- two lists of numbers are equal or not
same_or_not : (xs ys : List ℕ) → (xs ≡ ys) ⊎ (xs ≡ ys → ⊥)
same_or_not xs ys =
    let decides = bytes_eq-Decides xs ys in
    ⊎_elim (λ (t : bytes_eq xs ys ≡ true). inl (decides.0 t))
    (λ (f : bytes_eq xs ys ≡ false). inr (λ e. let t : bytes_eq xs ys ≡ true = decides.1 e in cc (t, f)))
    (cases_Bool (bytes_eq xs ys))

-- nothing is read yet
pub read_none : (m : Objects) (dataset : Name) (s : Scale) (part : Box3) (picked : Channels) (out : Bytes) → ReadSoFar m dataset s part picked [] out
read_none m dataset s part picked out = record { sound = refl; values = λ p c cov con lc. absurd (omega (arith, con.1)) }

-- a cell covers a position of the part exactly where it is the position's
abbrev pub IsHome : Scale → Box3 → Cell → Type 0
IsHome s part cell = (p : Position) → Covers part p → Covers (cell_box s cell) p ↔ (cell ≡ cell_at s p)

-- one cell more
pub read_more : (m : Objects) (dataset : Name) (s : Scale) (part : Box3) (picked : Channels) (cells : List Cell) (cell : Cell) (out new : Bytes)
    → IsHome s part cell → ReadSoFar m dataset s part picked cells out
    → (fault_of (chunk_in m dataset s cell) ≡ None) × Took s cell part picked (chunk_in m dataset s cell) out new
    → ReadSoFar m dataset s part picked (cells ++ cell ∷ []) new
read_more m dataset s part picked cells cell out new home was one = record {
  sound =
      let none : faulty m dataset s cell ≡ None = ap (option_map (λ fault. (cell, fault))) one.0 in
      ap first_some (map-append (faulty m dataset s) cells (cell ∷ []))
      ∙ first_some-append (map (faulty m dataset s) cells) (faulty m dataset s cell ∷ []) was.sound
      ∙ ap (λ x. first_some (x ∷ [])) none;
  values = λ p c cov con lc.
      ⊎_elim (λ (same : cell ≡ cell_at s p).
      subst (λ k. value_of s k (chunk_in m dataset s k) p (picked.first + c) ≡ Ok (digit new s.width (num part p c))) same
      (one.1.taken p c ((home p cov).1 same) cov lc))
      (λ (other : cell ≡ cell_at s p → ⊥).
      let old : Contains cells (cell_at s p) = ⊎_elim (λ (in_cells : Contains cells (cell_at s p)). in_cells) (λ (e : cell ≡ cell_at s p). absurd (other e)) (Contains-push_cases cells cell (cell_at s p) con) in
      was.values p c cov old lc ∙ ap (λ xs. Ok (number xs)) (sym (one.1.kept p c cov (λ in_cell. other ((home p cov).0 in_cell)) lc)))
      (same_or_not cell (cell_at s p));
}

pub first_fault-is : (m : Objects) (dataset : Name) (s : Scale) (part : Box3) → first_fault m dataset s part ≡ first_some (map (faulty m dataset s) (cells_in s part))
unfolding first_fault
first_fault-is m dataset s part = refl

-- the first cell that has a fault
read_fault : (m : Objects) (dataset : Name) (s : Scale) (part : Box3) (picked : Channels) (cells left rest : List Cell) (cell : Cell) (fault : Fault) (out : Bytes)
    → ReadSoFar m dataset s part picked cells out → left ≡ cell ∷ rest → cells ++ left ≡ cells_in s part → chunk_in m dataset s cell ≡ Err fault
    → first_fault m dataset s part ≡ Some (cell, fault)
read_fault m dataset s part picked cells left rest cell fault out was e is err =
    let one : faulty m dataset s cell ≡ Some (cell, fault) = ap (λ seen. option_map (λ fault. (cell, fault)) (fault_of seen)) err in
    first_fault-is m dataset s part
    ∙ ap (λ xs. first_some (map (faulty m dataset s) xs)) (sym is ∙ ap (λ r. cells ++ r) e)
    ∙ ap first_some (map-append (faulty m dataset s) cells (cell ∷ rest))
    ∙ first_some-append (map (faulty m dataset s) cells) (faulty m dataset s cell ∷ map (faulty m dataset s) rest) was.sound
    ∙ ap (λ x. first_some (x ∷ map (faulty m dataset s) rest)) one

-- the same, by what reading the cell answered
refused_as : (m : Objects) (dataset : Name) (s : Scale) (part : Box3) (picked : Channels) (cells left rest : List Cell) (cell : Cell) (fault : LookupFault) (out new : Bytes) (taken : Type 0)
    → ReadSoFar m dataset s part picked cells out → left ≡ cell ∷ rest → cells ++ left ≡ cells_in s part → Reads (Err fault) (chunk_in m dataset s cell) taken
    → ReadsAll (Err (placed cell fault)) m dataset s part picked new
refused_as m dataset s part picked cells left rest cell NotRead out new taken was e is h = tt
refused_as m dataset s part picked cells left rest cell (Faulty fault) out new taken was e is h = read_fault m dataset s part picked cells left rest cell fault out was e is h

pub read_refused : (m : Objects) (dataset : Name) (s : Scale) (part : Box3) (picked : Channels) (cells left rest : List Cell) (cell : Cell) (fault : LookupFault) (out new : Bytes) (taken : Type 0) (told : CutFault)
    → told ≡ placed cell fault → ReadSoFar m dataset s part picked cells out → left ≡ cell ∷ rest → cells ++ left ≡ cells_in s part → Reads (Err fault) (chunk_in m dataset s cell) taken
    → ReadsAll (Err told) m dataset s part picked new
read_refused m dataset s part picked cells left rest cell fault out new taken told as_placed was e is h =
    subst (λ x. ReadsAll (Err x) m dataset s part picked new) (sym as_placed) (refused_as m dataset s part picked cells left rest cell fault out new taken was e is h)

-- the whole part is read
pub read_whole : (m : Objects) (dataset : Name) (s : Scale) (part : Box3) (picked : Channels) (out : Bytes) → ReadSoFar m dataset s part picked (cells_in s part) out
    → ((p : Position) → Covers part p → Contains (cells_in s part) (cell_at s p)) → ReadWhole m dataset s part picked out
read_whole m dataset s part picked out so_far home = record {
  sound = first_fault-is m dataset s part ∙ so_far.sound;
  values = λ p c cov lc. so_far.values p c cov (home p cov) lc;
}
