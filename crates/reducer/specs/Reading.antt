-- What reading and reducing jobs answers (this project's).
use Rattle.std.specs.Prelude.{◌≡◌, ◌≤◌, ℕ, List, length, Result, Vec, vec_capacity, ⊤}
use Rattle.std.specs.Global.{Global}
use Rattle.vol_base.specs.Bytes.{AreBytes}
use Rattle.vol_base.specs.Outside.{Objects}
use Rattle.vol_spec.specs.Cut.{first_fault}
use Rattle.vol_spec.specs.Encodings.{raw_size}
use Rattle.vol_spec.specs.Grid.{IsCell, cell_box}
use Rattle.vol_spec.specs.Raw.{raw_len}
use Rattle.vol_spec.specs.Types.{Bytes, Cell, Name}
use Rattle.vol_spec.specs.declared.scale.Scale.{Scale}
use Rattle.write_plan.specs.declared.chunks.PrepareFault.{PrepareFault}
use Rattle.copier.specs.Held.{Readings, Reads, ReadsAll}
use Rattle.reduce_boxes.specs.Volumes.{HasReduced}
use Rattle.reduce_laws.specs.Reduced.{reduced_raw, source_box}
use Rattle.reduce_laws.specs.declared.method.Method.{Method}

-- the values of a cell are those of its source box, reduced
pub record IsReducedOf (method : Method) (from to : Scale) (cell : Cell) (raw out : Bytes) : Type 0 where
  pub digits : HasReduced method (source_box from to cell) (cell_box to cell) to.channels to.width raw out
  pub bytes : AreBytes out
  pub len : length out ≡ raw_size to cell

-- what the cells of the target are read as: the reduced values, or the first fault of the source box
abbrev pub reductions_of : Method → Objects → Name → Scale → Scale → Readings
reductions_of method m dataset from to = record {
  fault = λ cell. first_fault m dataset from (source_box from to cell);
  raw = reduced_raw method m dataset from to;
}

-- reducing a job, and jobs
abbrev pub ReadsReduced : Result ⊤ PrepareFault → Method → Objects → Name → Scale → Scale → Cell → Bytes →
    Type 0
ReadsReduced result method m dataset from to cell out =
    Reads result (reductions_of method m dataset from to) cell out

abbrev pub ReadsReductions : Result ⊤ PrepareFault → Method → Objects → Name → Scale → Scale → List Cell →
    ℕ → ℕ → List Bytes → Type 0
ReadsReductions result method m dataset from to cells first count frames =
    ReadsAll result (reductions_of method m dataset from to) to cells first count frames

-- a buffer has room for the source box of each cell
pub record HasRoom (from to : Scale) (buffer : Vec ℕ Global) : Type 0 where
  pub fits : (cell : Cell) → IsCell to cell
      → raw_len (source_box from to cell) from.channels from.width ≤ vec_capacity buffer
