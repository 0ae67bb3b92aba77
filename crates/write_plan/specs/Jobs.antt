-- The jobs of a writer, and what preparing them answers (this project's).
use Rattle.std.specs.Prelude.{◌≡◌, ◌≢◌, ℕ, ◌/◌, ◌^◌, ◌≤◌, ◌<◌, min, max, ◌↔◌, Contains, List, [], length, map, slice_index_or, Option, Some, None, Result, Ok, Err, ⊤, Bool, true, false}
use Rattle.std.specs.FinMap as fin
use Rattle.std.specs.List.{range_with_len}
use Rattle.vol_base.specs.Outside.{Objects}
use Rattle.vol_base.specs.declared.faults.Fault.{Fault}
use Rattle.vol_spec.specs.BoxValues.{first_some}
use Rattle.vol_spec.specs.Encodings.{raw_size}
use Rattle.vol_spec.specs.Grid.{IsCell}
use Rattle.vol_spec.specs.Limits.{first_bytes, limit_of}
use Rattle.vol_spec.specs.Places.{id_of, minishard_of, shard_of}
use Rattle.vol_spec.specs.StoredBytes.{object_of}
use Rattle.vol_spec.specs.StoredCells.{cell_of}
use Rattle.vol_spec.specs.Types.{Bytes, Cell, Name}
use Rattle.vol_spec.specs.declared.scale.Scale.{Scale}
use Rattle.vol_spec.specs.declared.sharding.Sharding.{Sharding}
use Rattle.write_plan.specs.declared.jobs.Job.{Job}
use Rattle.write_plan.specs.declared.chunks.PrepareFault.{PrepareFault}
use Rattle.write_plan.specs.declared.chunks.PrepareFault.TheVariants.{StoreFault, Damaged}

-- The job of a cell: with the id of its chunk and the place of the id in a sharded scale; in an unsharded one all three numbers are 0.
abbrev pub job_by : Option Sharding → Scale → Cell → Job
job_by None s cell = record { cell = cell; id = 0; place = record { shard = 0; minishard = 0 } }
job_by (Some sharding) s cell =
    record {
      cell = cell;
      id = id_of s cell;
      place =
          record {
            shard = shard_of sharding (id_of s cell);
            minishard =
                minishard_of sharding (id_of s cell);
          };
    }

abbrev pub job_of : Scale → Cell → Job
job_of s cell = job_by s.sharding s cell

abbrev pub jobs_of : Scale → List Cell → List Job
jobs_of s cells = map (job_of s) cells

-- the job of a cell of the grid
pub record IsJob (s : Scale) (job : Job) : Type 0 where
  pub in_grid : IsCell s job.cell
  pub is : job ≡ job_of s job.cell

abbrev pub cells_in : List Job → List Cell
cells_in jobs = map (λ (job : Job). job.cell) jobs

-- jobs of just these cells
abbrev pub HaveCells : List Job → List Cell → Type 0
HaveCells jobs cells = (cell : Cell) → Contains (cells_in jobs) cell ↔ Contains cells cell

-- a job of a list of jobs
abbrev pub job_at : List Job → ℕ → Job
job_at jobs n = slice_index_or jobs n (record {
  cell = [];
  id = 0;
  place =
      record { shard = 0; minishard = 0 };
})

-- jobs: the cells of a scale, and over objects the raw bytes of each job's cell, and its fault with the cell that has it, or none
pub record Work : Type 0 where
  pub scale : Scale
  pub cells : List Cell
  pub raw : Objects → ℕ → Bytes
  pub fault : Objects → ℕ → Option (Cell × Fault)

-- the first fault of so many jobs over objects, from a number on
abbrev pub jobs_fault : Work → Objects → ℕ → ℕ → Option (Cell × Fault)
jobs_fault work m from count = first_some (map (work.fault m) (range_with_len from count))

-- the bytes of the jobs from one number up to, not with, another are ready
abbrev pub AreReady : (ℕ → Option Bytes) → (ℕ → Bytes) → ℕ → ℕ → Type 0
AreReady ready raw from to = (job : ℕ) → from ≤ job → job < to → ready job ≡ Some (raw job)

-- as many bytes as the values of a job's cell have
abbrev pub FitsJob : Work → ℕ → Bytes → Type 0
FitsJob work job bytes = length bytes ≡ raw_size work.scale (cell_of work.cells job)

-- what is told of jobs over objects stays where only another job's object is stored
abbrev pub StaysBeside : {A : Type 0} → Name → Scale → List Cell → (Objects → ℕ → A) → Type 0
StaysBeside dataset s cells told = (m : Objects) (bytes : Bytes) (i j : ℕ) → i < length cells →
    j < length cells
    → object_of dataset s (cell_of cells i) ≢ object_of dataset s (cell_of cells j)
    → told (fin.insert m (object_of dataset s (cell_of cells i)) bytes) j ≡ told m j

-- storing the object of a job leaves the raw bytes and the faults of jobs in other objects
pub record KeepsOthers (dataset : Name) (s : Scale) (work : Work) : Type 0 where
  pub raws : StaysBeside dataset s work.cells work.raw
  pub faults : StaysBeside dataset s work.cells work.fault

-- the bytes of the larger of a cell's raw and encoded chunks at most
abbrev pub frame_len : Scale → ℕ
frame_len s = max (first_bytes s.width s.channels s.size s.chunk)
    (limit_of s.encoding s.width s.channels s.size s.chunk)

-- how many jobs are prepared at once: as many as have 2^28 bytes, at least 2 and at most 256 (this project's limit)
abbrev pub window_of : Scale → ℕ
window_of s = max 2 (min 256 (2 ^ 28 / frame_len s))

-- so many jobs may be prepared at once: at most a window of them where they hold values
abbrev pub FitsWindow : Bool → Scale → ℕ → Type 0
FitsWindow true s count = count ≤ window_of s
FitsWindow false s count = ⊤

-- jobs are prepared exactly where none has a fault, and the first fault is told, but for a store that fails
abbrev pub Prepares : Result ⊤ PrepareFault → Option (List ℕ × Fault) → Type 0
Prepares (Ok done) first = first ≡ None
Prepares (Err StoreFault) first = Unit {0}
Prepares (Err (Damaged cell fault)) first = first ≡ Some (cell, fault)
