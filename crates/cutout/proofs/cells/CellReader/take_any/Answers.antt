use Rattle.cutout.proofs.TakingSteps.{no_own}
use Rattle.cutout.proofs.cells.CellReader.take_any.Goals as goal

pub returns-in-Some-clause-own : goal.returns-in-Some-clause-own
returns-in-Some-clause-own g c = no_own c.take_raw.result _ c.take_raw.ensures.values
