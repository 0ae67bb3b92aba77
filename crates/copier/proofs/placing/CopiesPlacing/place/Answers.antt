use Rattle.copier.proofs.FoundSteps.{source_inside}
use Rattle.copier.proofs.placing.CopiesPlacing.place.Goals as goal

pub returns-clause-inside : goal.returns-clause-inside
returns-clause-inside c = source_inside c.args.from.now c.args._to.now c.args.source c.cell_box.result c.requires.fits c.requires.source c.cell_box.ensures.positions
