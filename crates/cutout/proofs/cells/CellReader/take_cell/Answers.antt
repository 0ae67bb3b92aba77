use Rattle.cutout.proofs.TakingSteps.{cell_told}
use Rattle.cutout.proofs.cells.CellReader.take_cell.Goals as goal

pub returns-in-Ok-clause-taken : goal.returns-in-Ok-clause-taken
returns-in-Ok-clause-taken g c = cell_told (g.S.Source.objects c.args.store.now) c.args.origin.now c.args.cell c.in-Ok.len c.take_any-taken.new.out c.in-Ok.ensures.taken
