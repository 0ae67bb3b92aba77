-- What reading the cells of a part leaves (this project's).
use Rattle.std.specs.Prelude.{◌≡◌, ℕ, ◌+◌, ◌<◌, None, Option, Some, Result, Ok, Err, ⊤, map, Contains, length, List}
use Rattle.std.specs.FinMap as fin
use Rattle.vol_base.specs.declared.boxes.Box3.{Box3}
use Rattle.vol_base.specs.declared.faults.Fault.{Fault}
use Rattle.vol_base.specs.Boxes.{Covers, num, value}
use Rattle.vol_base.specs.Outside.{Objects}
use Rattle.vol_spec.specs.BoxValues.{first_some}
use Rattle.vol_spec.specs.Chunks.{chunk_in, fault_of, value_in, value_of}
use Rattle.vol_spec.specs.Cut.{cut, faulty, first_fault}
use Rattle.vol_spec.specs.Encodings.{cell_limit}
use Rattle.vol_spec.specs.FoundChunks.{found}
use Rattle.vol_spec.specs.Grid.{cell_at, cell_box}
use Rattle.vol_spec.specs.Places.{id_of}
use Rattle.vol_spec.specs.Raw.{digit, raw_at}
use Rattle.vol_spec.specs.StoredBytes.{object_of}
use Rattle.vol_spec.specs.Types.{Bytes, Cell, Name, Position}
use Rattle.vol_spec.specs.declared.scale.Scale.{Scale}
use Rattle.vol_spec.specs.declared.sharding.Sharding.{Sharding}
use Rattle.vol_spec.specs.declared.span.ChunkSpan.{ChunkSpan}
use Rattle.shard_reader.specs.declared.bytes.LookupFault.{LookupFault}
use Rattle.shard_reader.specs.declared.bytes.LookupFault.TheVariants.{NotRead, Faulty}
use Rattle.cutout.specs.declared.channels.Channels.{Channels}
use Rattle.cutout.specs.declared.fault.CutFault.{CutFault}
use Rattle.cutout.specs.declared.fault.CutFault.TheVariants.{OutsideScale, StoreFault, Damaged}
use Rattle.cutout.specs.declared.found.Found.{Found}
use Rattle.cutout.specs.declared.found.Found.TheVariants.{Absent, At}
use Rattle.vol_spec.specs.declared.stored_scale.StoredScale.{StoredScale}

-- what putting values of a cell, in some channels, into those of a part leaves: they stand where both have the position, the part's elsewhere
pub record Puts (s : Scale) (cell : Cell) (part : Box3) (picked : Channels)
    (values old new : Bytes) : Type 0 where
  pub put : (p : Position) (c : ℕ) → Covers (cell_box s cell) p → Covers part p → c < picked.count →
      digit new s.width (num part p c) ≡ raw_at (cell_box s cell) s.width values p (picked.first + c)
  pub kept : (p : Position) (c : ℕ) → Covers part p → (Covers (cell_box s cell) p → ⊥) → c < picked.count →
      value s.width new (num part p c) ≡ value s.width old (num part p c)

-- what putting the values of a cell, in some channels, into those of a part leaves: the cell's values where both have the position, the part's elsewhere
pub record Took (s : Scale) (cell : Cell) (part : Box3) (picked : Channels)
    (seen : Result (Option Bytes) Fault) (old new : Bytes) : Type 0 where
  pub taken : (p : Position) (c : ℕ) → Covers (cell_box s cell) p → Covers part p → c < picked.count →
      value_of s cell seen p (picked.first + c) ≡ Ok (digit new s.width (num part p c))
  pub kept : (p : Position) (c : ℕ) → Covers part p → (Covers (cell_box s cell) p → ⊥) → c < picked.count →
      value s.width new (num part p c) ≡ value s.width old (num part p c)

-- what reading a cell answers: its fault, or else its values were taken, by what is seen of its chunk,
abbrev pub Reads : Result ⊤ LookupFault → Result (Option Bytes) Fault → Type 0 → Type 0
Reads (Ok done) seen taken = (fault_of seen ≡ None) × taken
Reads (Err (Faulty fault)) seen taken = seen ≡ Err fault
Reads (Err NotRead) seen taken = Unit {0}

-- and by what the objects have of it
abbrev pub ReadsCell : Result ⊤ LookupFault → Objects → StoredScale → Cell → Box3 → Channels → Bytes → Bytes → Type 0
ReadsCell result m origin cell part picked old new = Reads result (chunk_in m origin.dataset origin.scale cell)
    (Took origin.scale cell part picked (chunk_in m origin.dataset origin.scale cell) old new)

-- what reading some cells of a part leaves: none of them has a fault, and each voxel of the part in one of them has its value, in some channels
pub record ReadSoFar (m : Objects) (dataset : Name) (s : Scale) (part : Box3) (picked : Channels)
    (cells : List Cell) (out : Bytes) : Type 0 where
  pub sound : first_some (map (faulty m dataset s) cells) ≡ None
  pub values : (p : Position) (c : ℕ) → Covers part p → Contains cells (cell_at s p) → c < picked.count →
      value_in m dataset s p (picked.first + c) ≡ Ok (digit out s.width (num part p c))

-- the fault of a cell, with the cell
abbrev pub placed : Cell → LookupFault → CutFault
placed cell NotRead = StoreFault
placed cell (Faulty fault) = Damaged cell fault

-- what reading all cells of a part leaves: none has a fault, and each voxel of the part has its value, in some channels
pub record ReadWhole (m : Objects) (dataset : Name) (s : Scale) (part : Box3) (picked : Channels)
    (out : Bytes) : Type 0 where
  pub sound : first_fault m dataset s part ≡ None
  pub values : (p : Position) (c : ℕ) → Covers part p → c < picked.count →
      value_in m dataset s p (picked.first + c) ≡ Ok (digit out s.width (num part p c))

-- what reading the cells of a part answers: the first that has a fault, or else each voxel has its value
abbrev pub ReadsAll : Result ⊤ CutFault → Objects → Name → Scale → Box3 → Channels → Bytes → Type 0
ReadsAll (Ok done) m dataset s part picked out = ReadWhole m dataset s part picked out
ReadsAll (Err (Damaged cell fault)) m dataset s part picked out =
    first_fault m dataset s part ≡ Some (cell, fault)
ReadsAll (Err StoreFault) m dataset s part picked out = Unit {0}
ReadsAll (Err OutsideScale) m dataset s part picked out = ⊥

-- what a cutout answers: its bytes, or the first cell that has a fault
abbrev pub HasCut : Result ⊤ CutFault → Objects → Name → Scale → Box3 → Bytes → Type 0
HasCut (Ok done) m dataset s part out = (first_fault m dataset s part ≡ None) × (out ≡ cut m dataset s part)
HasCut (Err (Damaged cell fault)) m dataset s part out = first_fault m dataset s part ≡ Some (cell, fault)
HasCut (Err StoreFault) m dataset s part out = Unit {0}
HasCut (Err OutsideScale) m dataset s part out = Unit {0}

-- where an object has a cell's chunk: its own object is the chunk, a shard has it where it is found
abbrev pub span_by : Option Sharding → Scale → Cell → Bytes → Result (Option ChunkSpan) Fault
span_by None s cell object = Ok (Some (record { start = 0; len = length object }))
span_by (Some sharding) s cell object = found object sharding (cell_limit s cell) (id_of s cell)

abbrev pub span_of : Scale → Cell → Option Bytes → Result (Option ChunkSpan) Fault
span_of s cell None = Ok None
span_of s cell (Some object) = span_by s.sharding s cell object

-- where the objects have it, none where it is absent, or a fault on the way to it
abbrev pub span_in : Objects → Name → Scale → Cell → Result (Option ChunkSpan) Fault
span_in m dataset s cell = span_of s cell (fin.get m (object_of dataset s cell))

-- what a search for a cell's chunk answers: the object's name and the span in it
abbrev pub Locates : Result Found CutFault → Objects → Name → Scale → Cell → Type 0
Locates (Ok Absent) m dataset s cell = span_in m dataset s cell ≡ Ok None
Locates (Ok (At name start len)) m dataset s cell = (name ≡ object_of dataset s cell) ×
    (span_in m dataset s cell ≡ Ok (Some (record { start = start; len = len })))
Locates (Err (Damaged at fault)) m dataset s cell = (at ≡ cell) × (span_in m dataset s cell ≡ Err fault)
Locates (Err StoreFault) m dataset s cell = Unit {0}
Locates (Err OutsideScale) m dataset s cell = ⊥
