-- Plans of writes (this project's).
use Rattle.std.specs.Prelude.{ℕ, List, Option, Some, None, if◌then◌else◌, length, map, nat_lt, sum}
use Rattle.vol_base.specs.declared.faults.Fault.{Fault}
use Rattle.vol_base.specs.Outside.{Objects}
use Rattle.vol_spec.specs.Grid.{cells_in}
use Rattle.vol_spec.specs.LastWrite.{zeros}
use Rattle.vol_spec.specs.StoredCells.{cell_of, met_cells, written_raw}
use Rattle.vol_spec.specs.StoredLists.{in_key_order}
use Rattle.vol_spec.specs.Types.{Cell}
use Rattle.vol_spec.specs.declared.scale.Scale.{Scale}
use Rattle.write_plan.specs.Jobs.{Work}
use Rattle.write_plan.specs.WriteLists.{BoxWrite}

-- what is to be written: writes in order, into a scale
pub record Planned : Type 0 where
  pub scale : Scale
  pub writes : List BoxWrite

-- how many pairs of a write and a cell that it meets there are
abbrev pub pairs : Scale → List BoxWrite → ℕ
pairs s writes = sum (map (λ w. length (cells_in s w.0)) writes)

-- the cells of the jobs: those that the writes meet, in the order of their keys
abbrev pub planned_cells : Planned → List Cell
planned_cells plan = in_key_order plan.scale (met_cells plan.scale plan.writes)

-- the raw bytes of a job's cell, whatever objects there are
abbrev pub raw_of : Planned → Objects → ℕ → List ℕ
raw_of plan m job = written_raw plan.scale zeros plan.writes (cell_of (planned_cells plan) job)

-- no job has a fault
abbrev pub no_fault : Planned → Objects → ℕ → Option (List ℕ × Fault)
no_fault plan m job = None

-- the jobs of a plan
abbrev pub work_of : Planned → Work
work_of plan = record {
  scale = plan.scale;
  cells = planned_cells plan;
  raw = raw_of plan;
  fault =
      no_fault plan;
}

-- each job's raw bytes are ready
abbrev pub ready_of : Planned → ℕ → Option (List ℕ)
ready_of plan job =
    if nat_lt job (length (planned_cells plan))
    then Some (written_raw plan.scale zeros plan.writes (cell_of (planned_cells plan) job))
    else None
