-- The jobs of a reduction (this project's).
use Rattle.std.specs.Prelude.{ℕ, List, Option, Vec, IfSome}
use Rattle.std.specs.Global.{Global}
use Rattle.vol_base.specs.Outside.{Objects}
use Rattle.vol_base.specs.declared.faults.Fault.{Fault}
use Rattle.vol_spec.specs.Cut.{first_fault}
use Rattle.vol_spec.specs.StoredCells.{cell_of}
use Rattle.vol_spec.specs.Types.{Bytes, Cell, Name}
use Rattle.vol_spec.specs.declared.scale.Scale.{Scale}
use Rattle.write_plan.specs.Jobs.{Work}
use Rattle.write_plan.specs.declared.jobs.Job.{Job}
use Rattle.copier.specs.Held.{HasFrames, Held, cells_of}
use Rattle.copier.specs.Held as held
use Rattle.reduce_laws.specs.Reduced.{IsNext, reduced_raw, source_box}
use Rattle.reduce_laws.specs.declared.method.Method.{Method}
use Rattle.reducer.specs.Reading.{HasRoom}

-- how values are reduced; and where they are read, which cells of the target are made, and the frames of those that are prepared
pub record Reduction : Type 0 where
  pub method : Method
  pub held : Held

-- over objects the reduced values in a job's cell, and the first fault of its source box
abbrev pub raw_of : Reduction → Objects → ℕ → Bytes
raw_of r m job =
    reduced_raw r.method m r.held.dataset r.held.from r.held.to (cell_of (cells_of r.held) job)

abbrev pub fault_of : Reduction → Objects → ℕ → Option (Cell × Fault)
fault_of r m job = first_fault m r.held.dataset r.held.from
    (source_box r.held.from r.held.to (cell_of (cells_of r.held) job))

abbrev pub work_of : Reduction → Work
work_of r = record { scale = r.held.to; cells = cells_of r.held; raw = raw_of r; fault = fault_of r }

-- the bytes of a job that is prepared
abbrev pub ready_of : Reduction → ℕ → Option Bytes
ready_of r job = held.ready_of r.held job

-- where there is a job, the source's folder isn't that of the other scale
abbrev pub IsApart : Reduction → Name → Scale → Type 0
IsApart r dataset s = held.IsApart r.held dataset s

-- the target is the scale after the source, the jobs and the frames are those of the cells, and the buffer has room for each source box,
-- as has the other one, where there is one
pub record IsReduction (h : Held) (jobs : List Job) (frames : List (Vec ℕ Global)) (buffer : Vec ℕ Global)
    (ahead : Option (Vec ℕ Global)) : Type 0 where
  pub next : IsNext h.from h.to
  pub held : HasFrames h jobs frames
  pub room : HasRoom h.from h.to buffer
  pub room_ahead : IfSome ahead (HasRoom h.from h.to)
