-- What reading and judging the chunk of a cell answers.
use Rattle.std.proofs.Common.{◌≡◌, take, Bool, true, false, Option, Some, None, Result, Ok, Err, refl, ap, ◌∙◌, sym, subst, IfSome}
use Rattle.chunk_pool.specs.Frames.{Filled}
use Rattle.vol_base.specs.Outside.{Objects}
use Rattle.vol_base.specs.declared.faults.ChunkFault.{ChunkFault}
use Rattle.vol_base.specs.declared.faults.Fault.{Fault}
use Rattle.vol_base.specs.declared.faults.Fault.TheVariants.{Chunk}
use Rattle.vol_spec.specs.Chunks.{chunk_in, judged, unless}
use Rattle.vol_spec.specs.Encodings.{chunk_fault}
use Rattle.vol_spec.specs.StoredBytes.{stored_bytes}
use Rattle.vol_spec.specs.Types.{Bytes, Cell, Name}
use Rattle.vol_spec.specs.declared.scale.Scale.{Scale}
use Rattle.shard_reader.specs.declared.bytes.LookupFault.{LookupFault}
use Rattle.shard_reader.specs.declared.bytes.LookupFault.TheVariants.{NotRead, Faulty}
use Rattle.cutout.specs.Finding.{Finds, HasRead}

chunk_in-is : (m : Objects) (dataset : Name) (s : Scale) (cell : Cell) → chunk_in m dataset s cell ≡ judged s cell (stored_bytes m dataset s cell)
unfolding chunk_in
chunk_in-is m dataset s cell = refl

-- what the objects have of a cell, by what was read of it: nothing,
pub seen_absent : (m : Objects) (dataset : Name) (s : Scale) (cell : Cell) (frame : Filled) (there : Bool) → there ≡ false → HasRead (Ok there) frame (stored_bytes m dataset s cell) → chunk_in m dataset s cell ≡ Ok None
seen_absent m dataset s cell frame there is read =
    let none : stored_bytes m dataset s cell ≡ Ok None = subst (λ b. HasRead (Ok b) frame (stored_bytes m dataset s cell)) is read in
    chunk_in-is m dataset s cell ∙ ap (judged s cell) none

-- or bytes
pub seen_bytes : (m : Objects) (dataset : Name) (s : Scale) (cell : Cell) (frame : Filled) (there : Bool) (bytes : Bytes) (fault : Option ChunkFault) → there ≡ true → bytes ≡ take frame.used frame.bytes
    → HasRead (Ok there) frame (stored_bytes m dataset s cell) → fault ≡ chunk_fault s cell bytes → chunk_in m dataset s cell ≡ unless fault bytes
seen_bytes m dataset s cell frame there bytes fault is used read judge =
    let some : stored_bytes m dataset s cell ≡ Ok (Some (take frame.used frame.bytes)) = subst (λ b. HasRead (Ok b) frame (stored_bytes m dataset s cell)) is read in
    chunk_in-is m dataset s cell ∙ ap (judged s cell) (some ∙ ap (λ xs. Ok (Some xs)) (sym used)) ∙ ap (λ f. unless f bytes) (sym judge)

-- or a fault on the way to them
pub seen_refused : (m : Objects) (dataset : Name) (s : Scale) (cell : Cell) (fault : Fault) → stored_bytes m dataset s cell ≡ Err fault → chunk_in m dataset s cell ≡ Err fault
seen_refused m dataset s cell fault e = chunk_in-is m dataset s cell ∙ ap (judged s cell) e

-- what judging a cell answers: that it is absent,
pub finds_absent : (o : Option Objects) (dataset : Name) (s : Scale) (cell : Cell) (frame : Filled) (there : Bool) → there ≡ false
    → IfSome o (λ m. HasRead (Ok there) frame (stored_bytes m dataset s cell)) → IfSome o (λ m. Finds (Ok false) (chunk_in m dataset s cell))
finds_absent None dataset s cell frame there is read = tt
finds_absent (Some m) dataset s cell frame there is read = seen_absent m dataset s cell frame there is read

-- bytes without a fault,
pub finds_stored : (o : Option Objects) (dataset : Name) (s : Scale) (cell : Cell) (frame : Filled) (there : Bool) (bytes : Bytes) → there ≡ true → bytes ≡ take frame.used frame.bytes
    → IfSome o (λ m. HasRead (Ok there) frame (stored_bytes m dataset s cell)) → None ≡ chunk_fault s cell bytes → IfSome o (λ m. Finds (Ok true) (chunk_in m dataset s cell))
finds_stored None dataset s cell frame there bytes is used read judge = tt
finds_stored (Some m) dataset s cell frame there bytes is used read judge = (bytes, seen_bytes m dataset s cell frame there bytes None is used read judge)

-- bytes with one,
pub finds_fault : (o : Option Objects) (dataset : Name) (s : Scale) (cell : Cell) (frame : Filled) (there : Bool) (bytes : Bytes) (fault : ChunkFault) → there ≡ true → bytes ≡ take frame.used frame.bytes
    → IfSome o (λ m. HasRead (Ok there) frame (stored_bytes m dataset s cell)) → Some fault ≡ chunk_fault s cell bytes → IfSome o (λ m. Finds (Err (Faulty (Chunk fault))) (chunk_in m dataset s cell))
finds_fault None dataset s cell frame there bytes fault is used read judge = tt
finds_fault (Some m) dataset s cell frame there bytes fault is used read judge = seen_bytes m dataset s cell frame there bytes (Some fault) is used read judge

-- or a fault on the way to them
refused_as : (s : Scale) (cell : Cell) (frame : Filled) (fault : LookupFault) (stored : Result (Option Bytes) Fault) → HasRead (Err fault) frame stored → Finds (Err fault) (judged s cell stored)
refused_as s cell frame NotRead stored h = tt
refused_as s cell frame (Faulty fault) stored h = ap (judged s cell) h

pub finds_refused : (o : Option Objects) (dataset : Name) (s : Scale) (cell : Cell) (frame : Filled) (fault : LookupFault)
    → IfSome o (λ m. HasRead (Err fault) frame (stored_bytes m dataset s cell)) → IfSome o (λ m. Finds (Err fault) (chunk_in m dataset s cell))
finds_refused None dataset s cell frame fault h = tt
finds_refused (Some m) dataset s cell frame fault h = subst (Finds (Err fault)) (sym (chunk_in-is m dataset s cell)) (refused_as s cell frame fault (stored_bytes m dataset s cell) h)
