-- Which cells are found to be there, and which are made.
use Rattle.std.proofs.Common.{◌≡◌, ◌&&◌, ℕ, List, Bool, true, false, Option, Some, None, IfSome, refl, ap, ◌∙◌, sym, subst}
use Rattle.std.specs.Prelude.{Err, Ok, Result, filter}
use Rattle.std.specs.FinMap as fin
use Rattle.vol_base.specs.Boxes.{Covers}
use Rattle.vol_base.specs.Outside.{Objects}
use Rattle.vol_base.specs.declared.boxes.Box3.{Box3}
use Rattle.vol_base.specs.declared.faults.Fault.{Fault}
use Rattle.vol_spec.specs.Chunks.{chunk_in}
use Rattle.vol_spec.specs.Copies.{AreOfOneVolume, is_there}
use Rattle.vol_spec.specs.Encodings.{cell_limit}
use Rattle.vol_spec.specs.FoundChunks.{found}
use Rattle.vol_spec.specs.Grid.{Inside, IsCell, cell_box, cells_on, meets, numbers_on}
use Rattle.vol_spec.specs.Places.{id_of}
use Rattle.vol_spec.specs.StoredBytes.{held, held_by, object_of, spanned, stored_bytes}
use Rattle.vol_spec.specs.declared.scale.Scale.{Scale}
use Rattle.vol_spec.specs.declared.sharding.Sharding.{Sharding}
use Rattle.vol_spec.specs.declared.span.ChunkSpan.{ChunkSpan}
use Rattle.chunk_grid.proofs.GridSteps.{cell_box-Inside}
use Rattle.copy_laws.proofs.CopyValues.{there_held, whole_same}
use Rattle.cutout.specs.Reading.{Locates, span_by, span_in, span_of}
use Rattle.cutout.specs.declared.fault.CutFault.{CutFault}
use Rattle.cutout.specs.declared.fault.CutFault.TheVariants.{Damaged}
use Rattle.cutout.specs.declared.found.Found.{Found}
use Rattle.cutout.specs.declared.found.Found.TheVariants.{Absent, At}
use Rattle.copier.specs.Marks.{AddsMarks, AreMarked, marked}
use Rattle.copier.specs.Placed.{is_placed, placed_cells}
use Rattle.copier.proofs.MarkSteps.{marked_list, stored_in, unstored_in}

-- whether a search for a chunk finds something
abbrev has_span : Result (Option ChunkSpan) Fault → Bool
has_span (Ok None) = false
has_span (Ok (Some span)) = true
has_span (Err fault) = true

by_span : (object : List ℕ) (span : Result (Option ChunkSpan) Fault) → is_there (spanned object span) ≡ has_span span
by_span object (Ok None) = refl
by_span object (Ok (Some span)) = refl
by_span object (Err fault) = refl

by_sharding : (o : Option Sharding) (s : Scale) (cell object : List ℕ) → is_there (held_by o s cell object) ≡ has_span (span_by o s cell object)
by_sharding None s cell object = refl
by_sharding (Some sharding) s cell object = by_span object (found object sharding (cell_limit s cell) (id_of s cell))

by_object : (s : Scale) (cell : List ℕ) (object : Option (List ℕ)) → is_there (held s cell object) ≡ has_span (span_of s cell object)
by_object s cell None = refl
by_object s cell (Some object) = by_sharding s.sharding s cell object

stored_span : (m : Objects) (dataset : List ℕ) (s : Scale) (cell : List ℕ) → is_there (stored_bytes m dataset s cell) ≡ has_span (span_in m dataset s cell)
unfolding stored_bytes
stored_span m dataset s cell = by_object s cell (fin.get m (object_of dataset s cell))

-- a cell is there exactly where the search for its chunk finds something
there_span : (m : Objects) (dataset : List ℕ) (s : Scale) (cell : List ℕ) → is_there (chunk_in m dataset s cell) ≡ has_span (span_in m dataset s cell)
there_span m dataset s cell = there_held m dataset s cell ∙ stored_span m dataset s cell

absent_one : (m : Objects) (dataset : List ℕ) (s : Scale) (cell : List ℕ) → Locates (Ok Absent) m dataset s cell → false ≡ is_there (chunk_in m dataset s cell)
absent_one m dataset s cell h = sym (there_span m dataset s cell ∙ ap has_span h)

found_one : (m : Objects) (dataset : List ℕ) (s : Scale) (cell name : List ℕ) (start len : ℕ) → Locates (Ok (At name start len)) m dataset s cell → true ≡ is_there (chunk_in m dataset s cell)
found_one m dataset s cell name start len h = sym (there_span m dataset s cell ∙ ap has_span h.1)

faulty_one : (m : Objects) (dataset : List ℕ) (s : Scale) (cell at : List ℕ) (fault : Fault) → Locates (Err (Damaged at fault)) m dataset s cell → true ≡ is_there (chunk_in m dataset s cell)
faulty_one m dataset s cell at fault h = sym (there_span m dataset s cell ∙ ap has_span h.1)

pub absent_there : (o : Option Objects) (dataset : List ℕ) (s : Scale) (cell : List ℕ) (f : Found) → f ≡ Absent → IfSome o (λ m. Locates (Ok f) m dataset s cell)
    → IfSome o (λ m. false ≡ is_there (chunk_in m dataset s cell))
absent_there None dataset s cell f e h = tt
absent_there (Some m) dataset s cell f e h = absent_one m dataset s cell (subst (λ x. Locates (Ok x) m dataset s cell) e h)

pub found_there : (o : Option Objects) (dataset : List ℕ) (s : Scale) (cell : List ℕ) (f : Found) (name : List ℕ) (start len : ℕ) → f ≡ At name start len → IfSome o (λ m. Locates (Ok f) m dataset s cell)
    → IfSome o (λ m. true ≡ is_there (chunk_in m dataset s cell))
found_there None dataset s cell f name start len e h = tt
found_there (Some m) dataset s cell f name start len e h = found_one m dataset s cell name start len (subst (λ x. Locates (Ok x) m dataset s cell) e h)

pub faulty_there : (o : Option Objects) (dataset : List ℕ) (s : Scale) (cell : List ℕ) (refusal : CutFault) (at : List ℕ) (fault : Fault) → refusal ≡ Damaged at fault
    → IfSome o (λ m. Locates (Err refusal) m dataset s cell)
    → IfSome o (λ m. true ≡ is_there (chunk_in m dataset s cell))
faulty_there None dataset s cell refusal at fault e h = tt
faulty_there (Some m) dataset s cell refusal at fault e h = faulty_one m dataset s cell at fault (subst (λ x. Locates (Err x) m dataset s cell) e h)

-- the box of a cell of the source lies in the target
inside_back : (from to : Scale) → AreOfOneVolume from to → (b : Box3) → Inside from b → Inside to b
inside_back from to same b h = record { some = h.some; within = λ p c. subst (λ w. Covers w p) (whole_same from to same) (h.within p c) }

pub source_inside : (from to : Scale) (cell : List ℕ) (b : Box3) → AreOfOneVolume from to → IsCell from cell → b ≡ cell_box from cell → Inside to b
source_inside from to cell b same is e = subst (Inside to) (sym e) (inside_back from to same (cell_box from cell) (cell_box-Inside from cell is))

-- the cells that are marked are those that are made
pub found_placed : (place : List ℕ → Box3) (made : Objects → List (List ℕ)) (o : Option Objects) (dataset : List ℕ) (from to : Scale) (marks : List Bool) (list : List (List ℕ))
    → ((m : Objects) → made m ≡ placed_cells place m dataset from to) → list ≡ filter (marked to marks) (numbers_on (cells_on to))
    → IfSome o (λ m. AreMarked to (is_placed place m dataset from to) marks) → IfSome o (λ m. list ≡ made m)
found_placed place made None dataset from to marks list is e h = tt
found_placed place made (Some m) dataset from to marks list is e h = e ∙ marked_list to (is_placed place m dataset from to) marks h ∙ sym (is m)

-- a cell of the source that it has nothing of marks nothing; another one marks those that a box meets
pub source_skipped : (o : Option Objects) (dataset : List ℕ) (s to : Scale) (cell : List ℕ) (part : Box3) (marks : List Bool) (stored : Bool) → stored ≡ false
    → IfSome o (λ m. stored ≡ is_there (chunk_in m dataset s cell)) → IfSome o (λ m. AddsMarks to (λ c. is_there (chunk_in m dataset s cell) && meets to part c) marks marks)
source_skipped o dataset s to cell part marks stored is h =
    unstored_in o (λ m. is_there (chunk_in m dataset s cell)) to (meets to part) marks
    (subst (λ b. IfSome o (λ m. b ≡ is_there (chunk_in m dataset s cell))) is h)

pub source_marked : (o : Option Objects) (dataset : List ℕ) (s to : Scale) (cell : List ℕ) (part : Box3) (old new : List Bool) (stored : Bool) → stored ≡ true
    → IfSome o (λ m. stored ≡ is_there (chunk_in m dataset s cell)) → AddsMarks to (meets to part) old new → IfSome o (λ m. AddsMarks to (λ c. is_there (chunk_in m dataset s cell) && meets to part c) old new)
source_marked o dataset s to cell part old new stored is h marks =
    stored_in o (λ m. is_there (chunk_in m dataset s cell)) to (meets to part) old new
    (subst (λ q. IfSome o (λ m. q ≡ is_there (chunk_in m dataset s cell))) is h) marks

-- where a box is that of a source's cell, and the reader's scale is the source
pub source_added : (m : Objects) (dataset name : List ℕ) (s from to : Scale) (cell : List ℕ) (part box : Box3) (old new : List Bool) → name ≡ dataset → s ≡ from → part ≡ box
    → AddsMarks to (λ c. is_there (chunk_in m name s cell) && meets to part c) old new → AddsMarks to (λ c. is_there (chunk_in m dataset from cell) && meets to box c) old new
source_added m dataset name s from to cell part box old new names same here h =
    subst (λ b. AddsMarks to (λ c. is_there (chunk_in m dataset from cell) && meets to b c) old new) here
    (subst (λ x. AddsMarks to (λ c. is_there (chunk_in m dataset x cell) && meets to part c) old new) same
    (subst (λ d. AddsMarks to (λ c. is_there (chunk_in m d s cell) && meets to part c) old new) names h))
