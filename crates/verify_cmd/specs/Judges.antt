-- A judge of cells (this project's).
use Rattle.std.specs.Prelude.{Option, None, Some}
use Rattle.vol_base.specs.Outside.{Objects}
use Rattle.vol_spec.specs.Types.{Name}
use Rattle.vol_spec.specs.declared.scale.Scale.{Scale}
use Rattle.vol_spec.specs.declared.sharding.Sharding.{Sharding}
use Rattle.index_judge.specs.Knowing.{Knows, KnowsNothing}
use Rattle.index_judge.specs.declared.judge.IndexJudge.{IndexJudge}
use Rattle.cutout.specs.Serving.{IsFresh as KeepsNoIndex, Serves as ServesCells}
use Rattle.vol_spec.specs.declared.stored_scale.StoredScale.{StoredScale}
use Rattle.verify_cmd.specs.declared.cell.CellJudge.{CellJudge}

-- what is remembered of the indexes of a scale, where it has shards
abbrev pub KnowsBy : Option Sharding → Option Objects → Name → Scale → IndexJudge → Type 0
KnowsBy None objects dataset s indexes = Unit {0}
KnowsBy (Some sharding) objects dataset s indexes = Knows objects dataset s sharding indexes

abbrev pub KnowsIndexes : Option Objects → Name → Scale → IndexJudge → Type 0
KnowsIndexes objects dataset s indexes = KnowsBy s.sharding objects dataset s indexes

-- a judge reads the cells of a scale, and what it knows of indexes is what the objects say
pub record Serves (objects : Option Objects) (origin : StoredScale) (judge : CellJudge) : Type 0 where
  pub cells : ServesCells objects origin judge.cells
  pub knows : KnowsIndexes objects origin.dataset origin.scale judge.indexes

-- it reads them, and knows nothing
pub record IsFresh (s : Scale) (judge : CellJudge) : Type 0 where
  pub cells : KeepsNoIndex s judge.cells
  pub knows : KnowsNothing judge.indexes
