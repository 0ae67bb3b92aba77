-- What a copier holds, and the jobs that it has (this project's).
use Rattle.std.specs.Prelude.{◌≡◌, ℕ, ◌+◌, ◌-◌, ◌<◌, ◌≤◌, ◌++◌, ◌&&◌, min, nat_le, nat_lt, List, [], Vec, vec_capacity, take, map, filter, length, Option, Some, None, Result, Ok, Err, ⊤, if◌then◌else◌, slice_index_or, replicate, All}
use Rattle.std.specs.Global.{Global}
use Rattle.std.specs.List.{range_with_len}
use Rattle.vol_base.specs.Outside.{Objects}
use Rattle.vol_base.specs.declared.boxes.Box3.{Box3}
use Rattle.vol_base.specs.declared.faults.Fault.{Fault}
use Rattle.vol_spec.specs.BoxValues.{first_some}
use Rattle.vol_spec.specs.Copies.{AreOfOneVolume, copied_raw}
use Rattle.vol_spec.specs.Cut.{cut, first_fault}
use Rattle.vol_spec.specs.Encodings.{raw_size}
use Rattle.vol_spec.specs.Grid.{cell_box, cells_on, numbers_on}
use Rattle.vol_spec.specs.Limits.{first_bytes}
use Rattle.vol_spec.specs.StoredCells.{cell_of}
use Rattle.vol_spec.specs.StoredLists.{in_key_order}
use Rattle.vol_spec.specs.Types.{Bytes, Cell, Name}
use Rattle.vol_spec.specs.declared.scale.Scale.{Scale}
use Rattle.chunk_laws.specs.Told.{is_listed}
use Rattle.copy_laws.specs.Agreement.{AreApart}
use Rattle.cutout.specs.Keeping.{KeepsShards}
use Rattle.shard_reader.specs.declared.reader.ShardReader.{ShardReader}
use Rattle.write_plan.specs.Jobs.{Work, cells_in, jobs_of, window_of}
use Rattle.write_plan.specs.declared.jobs.Job.{Job}
use Rattle.write_plan.specs.declared.chunks.PrepareFault.{PrepareFault}
use Rattle.write_plan.specs.declared.chunks.PrepareFault.TheVariants.{StoreFault, Damaged}

-- where it reads and what it makes, which cells of the target, the first job that is prepared, how many are, frames with their bytes,
-- and the reader of shards that keeps an index from call to call, where one does
pub record Held : Type 0 where
  pub dataset : Name
  pub from : Scale
  pub to : Scale
  pub cells : List Cell
  pub first : ℕ
  pub count : ℕ
  pub frames : List Bytes
  pub shards : Option ShardReader

-- what is held by its parts, with jobs in place of their cells and frames in place of their bytes
abbrev pub holding : Name → Scale → Scale → List Job → ℕ → ℕ → List (Vec ℕ Global) → Held
holding dataset from to jobs first count frames = record {
  dataset = dataset;
  from = from;
  to = to;
  cells = cells_in jobs;
  first = first;
  count = count;
  frames = map (λ f. f.items) frames;
  shards = None;
}

-- and with a reader of shards
abbrev pub keeping : Held → ShardReader → Held
keeping h shards = record h { shards = Some shards }

-- what is kept from call to call is what the objects say
abbrev pub KeepsBy : Option ShardReader → Option Objects → Name → Scale → Type 0
KeepsBy None objects dataset from = Unit {0}
KeepsBy (Some shards) objects dataset from = KeepsShards objects dataset from shards

abbrev pub Keeps : Held → Option Objects → Type 0
Keeps h objects = KeepsBy h.shards objects h.dataset h.from

-- the cells of the jobs: those of the target's grid that are held, in the order of their keys
abbrev pub cells_of : Held → List Cell
cells_of h = in_key_order h.to (filter (is_listed h.cells) (numbers_on (cells_on h.to)))

-- over objects the source's values in the box of a job's cell, and the first fault there
abbrev pub raw_of : Held → Objects → ℕ → Bytes
raw_of h m job = copied_raw m h.dataset h.from h.to (cell_of (cells_of h) job)

abbrev pub fault_of : Held → Objects → ℕ → Option (Cell × Fault)
fault_of h m job = first_fault m h.dataset h.from (cell_box h.to (cell_of (cells_of h) job))

abbrev pub work_of : Held → Work
work_of h = record { scale = h.to; cells = cells_of h; raw = raw_of h; fault = fault_of h }

-- where there is a job, the source's folder isn't that of the other scale
abbrev pub IsApart : Held → Name → Scale → Type 0
IsApart h dataset s = 0 < length (cells_of h) → AreApart h.dataset h.from dataset s

-- so many bytes in front of a frame, with zeros where there are no more
abbrev pub front : ℕ → Bytes → Bytes
front n frame = take n (frame ++ replicate n 0)

-- the bytes of a job that is prepared
abbrev pub ready_of : Held → ℕ → Option Bytes
ready_of h job =
    if nat_le h.first job && nat_lt job (h.first + h.count)
    then Some (front (raw_size h.to (cell_of (cells_of h) job)) (slice_index_or h.frames (job - h.first) []))
    else None

-- a job's frame, of those for the jobs from a number on, has so many bytes or more
pub record HasFront (first job n : ℕ) (frames : List Bytes) : Type 0 where
  pub low : first ≤ job
  pub within : job - first < length frames
  pub long : n ≤ length (slice_index_or frames (job - first) [])

-- a frame has room for the values of each cell,
abbrev pub Holds : Scale → Vec ℕ Global → Type 0
Holds to frame = first_bytes to.width to.channels to.size to.chunk ≤ vec_capacity frame

-- when it is filled it has as many bytes,
abbrev pub IsFilled : Scale → Bytes → Type 0
IsFilled to frame = length frame ≡ first_bytes to.width to.channels to.size to.chunk

-- and so many frames in front are
abbrev pub AreFilled : Scale → ℕ → List Bytes → Type 0
AreFilled to count frames = (k : ℕ) → k < count → IsFilled to (slice_index_or frames k [])

-- the jobs are those of the cells, there is a frame for each job that is prepared at once, and those of the jobs that are prepared are filled
pub record HasFrames (h : Held) (jobs : List Job) (frames : List (Vec ℕ Global)) : Type 0 where
  pub jobs_are : jobs ≡ jobs_of h.to (cells_of h)
  pub room : min (window_of h.to) (length (cells_of h)) ≤ length h.frames
  pub within : h.count ≤ length h.frames
  pub filled : AreFilled h.to h.count h.frames
  pub each : All (Holds h.to) frames

-- and both scales are of one volume
pub record IsHeld (h : Held) (jobs : List Job) (frames : List (Vec ℕ Global)) : Type 0 where
  pub volume : AreOfOneVolume h.from h.to
  pub held : HasFrames h jobs frames

-- cutting a box out: its values, or its first fault
abbrev pub CutsBox : Result ⊤ PrepareFault → Objects → Name → Scale → Box3 → Bytes → Type 0
CutsBox (Ok done) m dataset s b raw = (first_fault m dataset s b ≡ None) × (raw ≡ cut m dataset s b)
CutsBox (Err (Damaged at fault)) m dataset s b raw = first_fault m dataset s b ≡ Some (at, fault)
CutsBox (Err StoreFault) m dataset s b raw = Unit {0}

-- what each cell is read as: its first fault, if any, and its raw bytes where it has none
pub record Readings : Type 0 where
  pub fault : Cell → Option (Cell × Fault)
  pub raw : Cell → Bytes

-- reading a job: its raw bytes, or its first fault
abbrev pub Reads : Result ⊤ PrepareFault → Readings → Cell → Bytes → Type 0
Reads (Ok done) readings cell out = (readings.fault cell ≡ None) × (out ≡ readings.raw cell)
Reads (Err (Damaged at fault)) readings cell out = readings.fault cell ≡ Some (at, fault)
Reads (Err StoreFault) readings cell out = Unit {0}

-- the first fault of so many jobs, from a number on
abbrev pub first_of : Readings → List Cell → ℕ → ℕ → Option (Cell × Fault)
first_of readings cells first count =
    first_some (map (λ job. readings.fault (cell_of cells job)) (range_with_len first count))

-- jobs are read: none has a fault, and each frame has its job's raw bytes
pub record AreRead (readings : Readings) (to : Scale) (cells : List Cell) (first count : ℕ)
    (frames : List Bytes) : Type 0 where
  pub sound : first_of readings cells first count ≡ None
  pub bytes : (k : ℕ) → k < count → take (raw_size to (cell_of cells (first + k)))
      (slice_index_or frames k []) ≡ readings.raw (cell_of cells (first + k))

-- reading jobs: all of them, or the first fault
abbrev pub ReadsAll : Result ⊤ PrepareFault → Readings → Scale → List Cell → ℕ → ℕ → List Bytes → Type 0
ReadsAll (Ok done) readings to cells first count frames = AreRead readings to cells first count frames
ReadsAll (Err (Damaged at fault)) readings to cells first count frames =
    first_of readings cells first count ≡ Some (at, fault)
ReadsAll (Err StoreFault) readings to cells first count frames = Unit {0}

-- a copy reads the source's values in the box of the target's cell
abbrev pub copies_of : Objects → Name → Scale → Scale → Readings
copies_of m dataset from to = record {
  fault = λ cell. first_fault m dataset from (cell_box to cell);
  raw = copied_raw m dataset from to;
}

abbrev pub ReadsJob : Result ⊤ PrepareFault → Objects → Name → Scale → Scale → Cell → Bytes → Type 0
ReadsJob result m dataset from to cell out = Reads result (copies_of m dataset from to) cell out

abbrev pub ReadsJobs : Result ⊤ PrepareFault → Objects → Name → Scale → Scale → List Cell → ℕ → ℕ →
    List Bytes → Type 0
ReadsJobs result m dataset from to cells first count frames =
    ReadsAll result (copies_of m dataset from to) to cells first count frames
