-- A judge of cells, over its calls.
use Rattle.std.proofs.Common.{Option}
use Rattle.vol_base.specs.Outside.{Objects}
use Rattle.cutout.proofs.ServeSteps.{serves_none}
use Rattle.vol_spec.specs.declared.stored_scale.StoredScale.{StoredScale}
use Rattle.verify_cmd.specs.Judges.{IsFresh, Serves}
use Rattle.verify_cmd.specs.declared.cell.CellJudge.{CellJudge}
use Rattle.verify_cmd.proofs.JudgeSteps.{knows_none}

-- one that knows nothing serves every scale that it has room for
pub fresh_serves : (o : Option Objects) (origin : StoredScale) (judge : CellJudge) → IsFresh origin.scale judge → Serves o origin judge
fresh_serves o origin judge fresh = record {
  cells = serves_none o origin judge.cells fresh.cells.room fresh.cells.keeps;
  knows = knows_none o origin.dataset origin.scale judge.indexes fresh.knows;
}
