-- Reading the chunk of a cell.
use Rattle.std.proofs.Common.{◌≡◌, ℕ, ◌-◌, ◌^◌, ◌≤◌, ◌<◌, min, take, Bool, true, false, Option, Some, None, Result, Ok, Err, arith, refl, sym, subst, IfSome}
use Rattle.chunk_pool.specs.Frames.{Filled}
use Rattle.vol_base.specs.declared.boxes.Box3.{Box3}
use Rattle.vol_base.specs.Outside.{Objects}
use Rattle.vol_base.specs.declared.faults.Fault.{Fault}
use Rattle.vol_spec.specs.Chunks.{chunk_in}
use Rattle.vol_spec.specs.Encodings.{chunk_fault, raw_size}
use Rattle.vol_spec.specs.Grid.{cell_box}
use Rattle.vol_spec.specs.Limits.{first_bytes}
use Rattle.vol_spec.specs.Raw.{raw_len}
use Rattle.vol_spec.specs.StoredBytes.{stored_bytes}
use Rattle.vol_spec.specs.Types.{Bytes, Cell, Name}
use Rattle.vol_spec.specs.declared.scale.Scale.{Scale}
use Rattle.chunk_grid.proofs.GridSteps.{cell_box-short}
use Rattle.shard_reader.specs.declared.bytes.LookupFault.{LookupFault}
use Rattle.shard_reader.specs.declared.bytes.LookupFault.TheVariants.{NotRead, Faulty}
use Rattle.cutout.specs.declared.channels.Channels.{Channels}
use Rattle.cutout.proofs.FindSteps.{seen_absent, seen_bytes}
use Rattle.cutout.specs.Finding.{Finds, HasRead}
use Rattle.cutout.specs.Reading.{Reads, Took}

-- the length of a cell's chunk
pub record CellLen (s : Scale) (cell : Cell) (n : ℕ) : Type 0 where
  pub is : n ≡ raw_size s cell
  pub first : n ≤ first_bytes s.width s.channels s.size s.chunk
  pub small : first_bytes s.width s.channels s.size s.chunk ≤ 2 ^ 27

pub cell_len : (s : Scale) (cell : Cell) (b : Box3) (n : ℕ) → b ≡ cell_box s cell → n ≡ min (raw_len b s.channels s.width) (2 ^ 128 - 1) → CellLen s cell n
cell_len s cell b n is e =
    let first : raw_size s cell ≤ first_bytes s.width s.channels s.size s.chunk = cell_box-short s cell in
    let same : n ≡ min (raw_size s cell) (2 ^ 128 - 1) = subst (λ x. n ≡ min (raw_len x s.channels s.width) (2 ^ 128 - 1)) is e in
    let small = s.first_ok in
    record { is = omega (arith, same, first, small); first = omega (arith, same, first); small = small }

-- a chunk that was read and put has no fault, and its values were taken
pub taken_as : (s : Scale) (cell : Cell) (part : Box3) (picked : Channels) (chunk : Option Bytes) (old new : Bytes) (seen : Result (Option Bytes) Fault) → seen ≡ Ok chunk → Took s cell part picked (Ok chunk) old new
    → Reads (Ok tt) seen (Took s cell part picked seen old new)
taken_as s cell part picked chunk old new seen e took = subst (λ x. Reads (Ok tt) x (Took s cell part picked x old new)) (sym e) (refl, took)

-- what reading a cell answers: that it is absent,
pub reads_absent : (o : Option Objects) (dataset : Name) (s : Scale) (cell : Cell) (part : Box3) (picked : Channels) (frame : Filled) (there : Bool) (old new : Bytes) → there ≡ false
    → IfSome o (λ m. HasRead (Ok there) frame (stored_bytes m dataset s cell)) → Took s cell part picked (Ok None) old new
    → IfSome o (λ m. Reads (Ok tt) (chunk_in m dataset s cell) (Took s cell part picked (chunk_in m dataset s cell) old new))
reads_absent None dataset s cell part picked frame there old new is read took = tt
reads_absent (Some m) dataset s cell part picked frame there old new is read took =
    taken_as s cell part picked None old new (chunk_in m dataset s cell) (seen_absent m dataset s cell frame there is read) took

-- bytes without a fault,
pub reads_chunk : (o : Option Objects) (dataset : Name) (s : Scale) (cell : Cell) (part : Box3) (picked : Channels) (frame : Filled) (there : Bool) (bytes old new : Bytes) → there ≡ true → bytes ≡ take frame.used frame.bytes
    → IfSome o (λ m. HasRead (Ok there) frame (stored_bytes m dataset s cell)) → None ≡ chunk_fault s cell bytes → Took s cell part picked (Ok (Some bytes)) old new
    → IfSome o (λ m. Reads (Ok tt) (chunk_in m dataset s cell) (Took s cell part picked (chunk_in m dataset s cell) old new))
reads_chunk None dataset s cell part picked frame there bytes old new is used read judge took = tt
reads_chunk (Some m) dataset s cell part picked frame there bytes old new is used read judge took =
    taken_as s cell part picked (Some bytes) old new (chunk_in m dataset s cell) (seen_bytes m dataset s cell frame there bytes None is used read judge) took

-- or the fault that judging it finds
pub reads_refused : (o : Option Objects) (dataset : Name) (s : Scale) (cell : Cell) (part : Box3) (picked : Channels) (old new : Bytes) (fault : LookupFault)
    → IfSome o (λ m. Finds (Err fault) (chunk_in m dataset s cell)) → IfSome o (λ m. Reads (Err fault) (chunk_in m dataset s cell) (Took s cell part picked (chunk_in m dataset s cell) old new))
reads_refused None dataset s cell part picked old new fault h = tt
reads_refused (Some m) dataset s cell part picked old new NotRead h = tt
reads_refused (Some m) dataset s cell part picked old new (Faulty fault) h = h

-- the values of a cell are few
pub cell_small : (s : Scale) (cell : Cell) → raw_size s cell ≤ 2 ^ 27
cell_small s cell =
    let first : raw_size s cell ≤ first_bytes s.width s.channels s.size s.chunk = cell_box-short s cell in
    let small = s.first_ok in
    omega (arith, first, small)

pub part_small : (s : Scale) (cell : Cell) (b : Box3) → b ≡ cell_box s cell → raw_len b s.channels s.width < 2 ^ 64
part_small s cell b is =
    let small = cell_small s cell in
    let less : raw_size s cell < 2 ^ 64 = omega (arith, small) in
    subst (λ x. raw_len x s.channels s.width < 2 ^ 64) (sym is) less
