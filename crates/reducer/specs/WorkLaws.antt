-- What makes a reducer the chunks of a writer (this project's).
use Rattle.std.proofs.Common.{◌≡◌, ℕ, List, length, arith, IfSome}
use Rattle.vol_base.specs.Outside.{Objects}
use Rattle.vol_spec.specs.Encodings.{raw_size}
use Rattle.vol_spec.specs.Grid.{cell_box}
use Rattle.vol_spec.specs.StoredCells.{cell_of}
use Rattle.vol_spec.specs.StoredLists.{AreJobs}
use Rattle.vol_spec.specs.declared.scale.Scale.{Scale}
use Rattle.vol_spec.proofs.RawSteps.{length-raw_bytes}
use Rattle.copy_laws.proofs.CopySteps.{fault_apart}
use Rattle.write_plan.specs.Jobs.{FitsJob, KeepsOthers}
use Rattle.copier.specs.Held.{cells_of}
use Rattle.copier.specs.HeldLaws as laws
use Rattle.reduce_laws.specs.Reduced.{reduced, reduced_raw, source_box}
use Rattle.reduce_laws.specs.declared.method.Method.{Method}
use Rattle.coarse_laws.proofs.CoarseLaw.{reduced_beside}
use Rattle.reducer.specs.Works.{IsApart, Reduction, raw_of, ready_of, work_of}

pub work_jobs : (r : Reduction) → AreJobs r.held.to (cells_of r.held)
work_jobs r = laws.held_jobs r.held

pub ready_fits : (r : Reduction) (job : ℕ) → IfSome (ready_of r job) (FitsJob (work_of r) job)
ready_fits r job = laws.ready_fits r.held job

-- without a premise on the scales, since the writer's laws are of all that can be held
length-raw : (method : Method) (m : Objects) (dataset : List ℕ) (from to : Scale) (cell : List ℕ) → length (reduced_raw method m dataset from to cell) ≡ raw_size to cell
unfolding reduced_raw
length-raw method m dataset from to cell = length-raw_bytes (cell_box to cell) to.channels to.width (reduced method m dataset from)

pub raw_fits : (r : Reduction) (m : Objects) (job : ℕ) → FitsJob (work_of r) job (raw_of r m job)
raw_fits r m job = length-raw r.method m r.held.dataset r.held.from r.held.to (cell_of (cells_of r.held) job)

pub work_keeps : (r : Reduction) (dataset : List ℕ) (s : Scale) → IsApart r dataset s → KeepsOthers dataset s (work_of r)
work_keeps r dataset s apart = record {
  raws = λ m bytes i j before behind other. reduced_beside r.method r.held.dataset dataset r.held.from r.held.to s m (cell_of (cells_of r.held) i) bytes (cell_of (cells_of r.held) j) (apart (omega (arith, before)));
  faults = λ m bytes i j before behind other. fault_apart r.held.dataset dataset r.held.from s m (cell_of (cells_of r.held) i) bytes (source_box r.held.from r.held.to (cell_of (cells_of r.held) j)) (apart (omega (arith, before)));
}
