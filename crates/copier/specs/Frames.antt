-- The frames of jobs, with values or with a chunk as it is stored (this project's).
use Rattle.std.specs.Prelude.{◌≡◌, ◌≢◌, ℕ, ◌+◌, ◌<◌, ◌≤◌, All, Bool, List, get_or, length, map, take, vec_capacity, Option, Some, None, IfSome, Result, Ok, Err, IsTrue}
use Rattle.vol_base.specs.Bytes.{AreBytes}
use Rattle.vol_base.specs.Outside.{Objects}
use Rattle.vol_spec.specs.Copies.{AreOfOneVolume}
use Rattle.vol_spec.specs.Encodings.{chunk_fault, encoded, raw_size}
use Rattle.vol_spec.specs.Grid.{IsCell}
use Rattle.vol_spec.specs.Limits.{first_bytes, limit_of}
use Rattle.vol_spec.specs.StoredCells.{cell_of}
use Rattle.vol_spec.specs.Types.{Bytes, Cell, Name}
use Rattle.vol_spec.specs.declared.encoding.Encoding.TheVariants.{Raw}
use Rattle.vol_spec.specs.declared.scale.Scale.{Scale}
use Rattle.cutout.specs.Taking.{TakesCell}
use Rattle.cutout.specs.declared.fault.CutFault.TheVariants.{Damaged as CutDamaged}
use Rattle.copy_laws.specs.Twins.{AreTwins, said_raw}
use Rattle.write_plan.specs.Jobs.{cells_in}
use Rattle.write_plan.specs.declared.jobs.Job.{Job}
use Rattle.write_plan.specs.declared.chunks.PrepareFault.{PrepareFault}
use Rattle.write_plan.specs.declared.chunks.PrepareFault.TheVariants.{StoreFault, Damaged}
use Rattle.copier.specs.Held.{HasFrames, Held, ReadsJob, cells_of, front}
use Rattle.copier.specs.declared.frame.JobFrame.{JobFrame}
use Rattle.copier.specs.declared.frame.OwnChunk.{OwnChunk}

-- the values of a frame: those in front of it, or those that the chunk of a cell says that it has there
abbrev pub values_by : Scale → Option OwnChunk → Bytes → Bytes
values_by to None bytes = bytes
values_by to (Some own) bytes = front (first_bytes to.width to.channels to.size to.chunk)
    (said_raw to own.cell (take own.len bytes))

abbrev pub values_in : Scale → JobFrame → Bytes
values_in to frame = values_by to frame.own frame.bytes.items

-- what is held by its parts, with jobs in place of their cells and frames in place of their values
abbrev pub holding_frames : Name → Scale → Scale → List Job → ℕ → ℕ → List JobFrame → Held
holding_frames dataset from to jobs first count frames = record {
  dataset = dataset;
  from = from;
  to = to;
  cells = cells_in jobs;
  first = first;
  count = count;
  frames = map (values_in to) frames;
  shards = None;
}

-- a chunk in front of a frame is the cell's as this writer spells it
pub record IsKept (to : Scale) (own : OwnChunk) (bytes : Bytes) : Type 0 where
  pub in_grid : IsCell to own.cell
  pub within : own.len ≤ length bytes
  pub small : AreBytes (take own.len bytes)
  pub blocks : to.encoding ≢ Raw
  pub sound : chunk_fault to own.cell (take own.len bytes) ≡ None
  pub again : encoded to own.cell (said_raw to own.cell (take own.len bytes)) ≡ take own.len bytes
  pub room : own.len ≤ limit_of to.encoding to.width to.channels to.size to.chunk

-- where a frame has a chunk it is that of a cell
abbrev pub KeepsBy : Scale → Cell → Option OwnChunk → Bytes → Type 0
KeepsBy to cell own bytes = IfSome own (λ chunk. (chunk.cell ≡ cell) × IsKept to chunk bytes)

abbrev pub KeepsOwn : Scale → Cell → JobFrame → Type 0
KeepsOwn to cell frame = KeepsBy to cell frame.own frame.bytes.items

-- so many frames in front have the chunks of the cells from one on, where they have chunks
abbrev pub KeepChunks : Scale → List Cell → ℕ → ℕ → List JobFrame → Type 0
KeepChunks to cells first count frames = (k : ℕ) (d : JobFrame) → k < count → KeepsOwn to (cell_of cells (first + k)) (get_or frames k d)

-- a frame has room for the values of each cell
abbrev pub HasRoom : Scale → JobFrame → Type 0
HasRoom to frame = first_bytes to.width to.channels to.size to.chunk ≤ vec_capacity frame.bytes

-- the chunk of a cell in front of a frame, where so many bytes are one
abbrev pub owned : Cell → Option ℕ → Option OwnChunk
owned cell None = None
owned cell (Some n) = Some (record { cell = cell; len = n })

-- what taking a cell of a source answers
abbrev pub Takes : Result (Option ℕ) PrepareFault → Objects → Name → Scale → Cell → Bytes → Type 0
Takes (Ok len) m dataset s cell out = TakesCell (Ok len) m dataset s cell out
Takes (Err (Damaged at fault)) m dataset s cell out = TakesCell (Err (CutDamaged at fault)) m dataset s cell out
Takes (Err StoreFault) m dataset s cell out = Unit {0}

-- what taking a job leaves in a frame: its values or its chunk, or its fault
abbrev pub TakesJob : Result (Option OwnChunk) PrepareFault → Objects → Name → Scale → Scale → Cell → Bytes → Type 0
TakesJob (Ok own) m dataset from to cell bytes = ReadsJob (Ok tt) m dataset from to cell
    (take (raw_size to cell) (values_by to own bytes))
TakesJob (Err fault) m dataset from to cell bytes = ReadsJob (Err fault) m dataset from to cell bytes

-- both scales are of one volume, the cells that are taken as they are stored are of both, and the frames are those of the jobs
pub record IsHeldIn (h : Held) (jobs : List Job) (twins : Bool) (frames : List JobFrame) : Type 0 where
  pub volume : AreOfOneVolume h.from h.to
  pub alike : IsTrue twins → AreTwins h.from h.to
  pub held : HasFrames h jobs (map (λ f. f.bytes) frames)
  pub rooms : All (HasRoom h.to) frames
  pub chunks : KeepChunks h.to (cells_of h) h.first h.count frames
