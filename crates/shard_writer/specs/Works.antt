-- What a writer of jobs puts into a store (this project's).
use Rattle.std.specs.Prelude.{Bool, ◌≡◌, ◌≢◌, ◌⊎◌, ℕ, ◌-◌, ◌^◌, ◌≤◌, ◌<◌, List, length, map, replicate, Option, Some, None, IfOk, IfSome, OnOk, OnErr, Result, Ok, Err}
use Rattle.std.specs.FinMap as fin
use Rattle.std.specs.List.{range_with_len}
use Rattle.std.specs.Option.{option_map}
use Rattle.vol_base.specs.Outside.{Draft, Objects, Passes}
use Rattle.vol_base.specs.declared.faults.Fault.{Fault}
use Rattle.vol_spec.specs.Encodings.{encoded, raw_size}
use Rattle.vol_spec.specs.StoredBytes.{object_of}
use Rattle.vol_spec.specs.StoredCells.{cell_of, put_in}
use Rattle.vol_spec.specs.StoredLists.{stored_list}
use Rattle.vol_spec.specs.Types.{Bytes, Cell, Chunks, Listed, Name}
use Rattle.vol_spec.specs.Writable.{IsWritable}
use Rattle.vol_spec.specs.declared.encoding.Encoding.TheVariants.{Raw}
use Rattle.vol_spec.specs.declared.scale.Scale.{Scale}
use Rattle.write_plan.specs.Jobs.{FitsWindow, Work, jobs_fault}
use Rattle.shard_writer.specs.declared.written.WriteFault.{WriteFault}
use Rattle.shard_writer.specs.declared.written.WriteFault.TheVariants.{StoreFault, Damaged, OutOfMemory}
use Rattle.shard_writer.specs.declared.written.Written.{Written}
use Rattle.shard_writer.specs.Writing.{joint_len, PutsFront, Drops, BeginsNext}

-- the chunks of jobs: the cell of each with its raw bytes
abbrev pub chunks_with : Work → (ℕ → Bytes) → Chunks
chunks_with work raw = map (λ job. (cell_of work.cells job, raw job)) (range_with_len 0 (length work.cells))

-- and over objects
abbrev pub job_chunks : Work → Objects → Chunks
job_chunks work m = chunks_with work (work.raw m)

-- the chunk that is stored of a job
abbrev pub stored_by : Work → Objects → ℕ → Bytes
stored_by work m job = encoded work.scale (cell_of work.cells job) (work.raw m job)

-- the objects that the jobs' chunks are stored as
abbrev pub job_objects : Name → Work → Objects → Listed
job_objects dataset work m = stored_list dataset work.scale (job_chunks work m)

-- how many bytes the values of a job's cell have
abbrev pub job_len : Work → ℕ → ℕ
job_len work job = raw_size work.scale (cell_of work.cells job)

-- the bytes of jobs over objects; where none are told, as many zeros
abbrev pub raw_in : Option Objects → (Objects → ℕ → Bytes) → (ℕ → ℕ) → ℕ → Bytes
raw_in None raw len job = replicate (len job) 0
raw_in (Some m) raw len job = raw m job

-- the objects that the jobs' chunks are stored as, of which only the number, and of raw chunks the lengths, are known where no objects are told
abbrev pub told_objects : Name → Work → Option Objects → Listed
told_objects dataset work o = stored_list dataset work.scale
    (chunks_with work (raw_in o work.raw (job_len work)))

-- and the chunk that is stored of a job there
abbrev pub told_chunk : Work → Option Objects → ℕ → Bytes
told_chunk work o job = encoded work.scale (cell_of work.cells job) (raw_in o work.raw (job_len work) job)

-- the lengths of the jobs' chunks are known: over objects that are told, and of raw chunks always
abbrev pub KnowsLens : Work → Option Objects → Type 0
KnowsLens work None = work.scale.encoding ≡ Raw
KnowsLens work (Some m) = Unit {0}

-- the first fault of all jobs
abbrev pub first_of_jobs : Work → Objects → Option (Cell × Fault)
first_of_jobs work m = jobs_fault work m 0 (length work.cells)

-- some objects were put in, and how many bytes they have is told; or a front of them was
pub record Puts {E : Type 0} (list : Listed) (old new : Option Objects) (result : Result ℕ E) : Type 0 where
  pub put : OnOk result (new ≡ option_map (λ m. put_in m list) old)
  pub bytes : IfOk result (λ len. len ≡ joint_len list)
  pub front : OnErr result (IfSome old (λ m. PutsFront list m new))

-- the objects of all jobs were put in
abbrev pub PutsJobs : Name → Work → Option Objects → Option Objects → Type 0
PutsJobs dataset work old new = IfSome old (λ m. new ≡ Some (put_in m (job_objects dataset work m)))

-- a front of them was
abbrev pub PutsSome : Name → Work → Option Objects → Option Objects → Type 0
PutsSome dataset work old new = IfSome old (λ m. PutsFront (job_objects dataset work m) m new)

-- at each moment that passed a front of some objects was put in, where objects are told
abbrev pub PassesFronts : (Objects → Listed) → Option Objects → List Objects → List Objects → Type 0
PassesFronts list old was now = Passes (λ moment. IfSome old (λ m. PutsFront (list m) m (Some moment))) was now

-- the name of the object that a job's chunk is in
abbrev pub name_in : Name → Work → ℕ → Name
name_in dataset work job = object_of dataset work.scale (cell_of work.cells job)

-- the object of each job that has a fault is as before
abbrev pub SparesFaulty : Name → Work → Option Objects → Option Objects → Type 0
SparesFaulty dataset work old new = IfSome old (λ m. IfSome new (λ now. (job : ℕ) →
    job < length work.cells → work.fault m job ≢ None →
    fin.get now (name_in dataset work job) ≡ fin.get m (name_in dataset work job)))

-- nothing is being written, or what was being written before, or the next of the jobs' objects
abbrev pub DropsOrBegins : Name → Work → Option Objects → Option Objects → Option Draft → Option Draft → Type 0
DropsOrBegins dataset work old new before after = Drops before after ⊎
    IfSome old (λ m. BeginsNext (job_objects dataset work m) m new after)

-- all is written exactly where no job has a fault, and the first fault is told, but for a store that fails and want of memory
abbrev pub WritesAll : {A : Type 0} → Result A WriteFault → Option (Cell × Fault) → Type 0
WritesAll (Ok done) first = first ≡ None
WritesAll (Err StoreFault) first = Unit {0}
WritesAll (Err (Damaged cell fault)) first = first ≡ Some (cell, fault)
WritesAll (Err OutOfMemory) first = Unit {0}

-- no fault of a chunk is told
abbrev pub NeverDamaged : {A : Type 0} → Result A WriteFault → Type 0
NeverDamaged result = (cell : Cell) (fault : Fault) → result ≢ Err (Damaged cell fault)

-- what a writer is given: jobs of a scale that can be written, and a data set's name that isn't long
pub record IsGiven (dataset : Name) (s : Scale) (work : Work) : Type 0 where
  pub short : length dataset ≤ 200
  pub writable : IsWritable s
  pub scale : work.scale ≡ s
  pub few : length work.cells ≤ 2 ^ 22

-- the jobs from one number up to, not with, another are at most a window where they hold their values
pub record IsWindow (holding : Bool) (work : Work) (from to : ℕ) : Type 0 where
  pub order : from ≤ to
  pub within : to ≤ length work.cells
  pub size : FitsWindow holding work.scale (to - from)

-- What a writer of all jobs ensures, over the objects and what was being written before and after: where it succeeds all jobs' objects were
-- put in, and are counted; else a front of them. `sure` says that preparing them never fails.
pub record WritesJobs (dataset : Name) (work : Work) (sure : Type 0) (old new : Option Objects) (before after : Option Draft)
    (result : Result Written WriteFault) : Type 0 where
  pub put : OnOk result (PutsJobs dataset work old new)
  pub front : OnErr result (PutsSome dataset work old new)
  pub spares : OnErr result (SparesFaulty dataset work old new)
  pub objects : IfOk result (λ (written : Written). written.objects ≡ length (told_objects dataset work old))
  pub cells : IfOk result (λ (written : Written). written.cells ≡ length work.cells)
  pub bytes : KnowsLens work old →
      IfOk result (λ (written : Written). written.bytes ≡ joint_len (told_objects dataset work old))
  pub answer : IfSome old (λ m. WritesAll result (first_of_jobs work m))
  pub sound : sure → NeverDamaged result
  pub draft : OnOk result (Drops before after)
  pub dropped : sure → Drops before after
  pub begun : DropsOrBegins dataset work old new before after
