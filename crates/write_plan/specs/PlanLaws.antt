-- What makes a plan the chunks of a writer (this project's): its jobs are in the order of their keys, and
-- their bytes are as many as the values of their cells.
use Rattle.std.proofs.Common.{◌≡◌, ℕ, List, length, refl, Some, IfSome, Bool, true, false, nat_lt}
use Rattle.std.specs.Prelude.{None, if◌then◌else◌}
use Rattle.vol_spec.specs.LastWrite.{zeros}
use Rattle.vol_spec.specs.StoredCells.{cell_of, met_cells, written_raw}
use Rattle.vol_spec.specs.StoredLists.{AreJobs, in_key_order}
use Rattle.vol_spec.specs.declared.scale.Scale.{Scale}
use Rattle.vol_spec.proofs.RawSteps.{length-written_raw}
use Rattle.chunk_grid.proofs.JobOrder.{AreJobs-in_key_order}
use Rattle.chunk_grid.proofs.OrderSteps.{AreInOrder-met_cells}
use Rattle.write_plan.specs.Jobs.{FitsJob, KeepsOthers}
use Rattle.write_plan.specs.Plans.{Planned, planned_cells, ready_of, work_of}
use Rattle.write_plan.specs.WriteLists.{BoxWrite}

-- the cells that writes meet, in the order of their keys, are jobs
pub met_jobs : (s : Scale) (ws : List BoxWrite) → AreJobs s (in_key_order s (met_cells s ws))
met_jobs s ws = AreJobs-in_key_order s (met_cells s ws) (AreInOrder-met_cells s ws).each

-- a job that is ready has as many bytes as the values of its cell
some_fits : (b : Bool) (bytes : List ℕ) (n : ℕ) → length bytes ≡ n →
    IfSome (if b then Some bytes else None) (λ bytes. length bytes ≡ n)
some_fits true bytes n e = e
some_fits false bytes n e = tt

pub ready_fits : (plan : Planned) (job : ℕ) → IfSome (ready_of plan job) (FitsJob (work_of plan) job)
ready_fits plan job =
    some_fits (nat_lt job (length (planned_cells plan)))
    (written_raw plan.scale zeros plan.writes (cell_of (planned_cells plan) job)) _
    (length-written_raw plan.scale zeros plan.writes (cell_of (planned_cells plan) job))

pub plan_fits : (plan : Planned) (job : ℕ) → FitsJob (work_of plan) job
    (written_raw plan.scale zeros plan.writes (cell_of (planned_cells plan) job))
plan_fits plan job = length-written_raw plan.scale zeros plan.writes (cell_of (planned_cells plan) job)

-- nothing that a plan tells depends on objects
pub plan_keeps : (plan : Planned) (dataset : List ℕ) (s : Scale) → KeepsOthers dataset s (work_of plan)
plan_keeps plan dataset s = record {
  raws = λ m bytes i j before behind other. refl;
  faults =
      λ m bytes i j before behind other. refl;
}
