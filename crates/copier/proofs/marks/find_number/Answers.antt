use Rattle.std.proofs.Common.{arith}
use Rattle.write_plan.proofs.NumberSteps.{number_fits}
use Rattle.copier.proofs.marks.find_number.Goals as goal

pub overflow_mul-result : goal.overflow_mul-result
overflow_mul-result c = let fits = number_fits c.args.scale.now c.args.cell c.grid.result.size c.grid.ensures c.requires.cell in omega (arith, fits.product)

pub overflow_add-result : goal.overflow_add-result
overflow_add-result c = let fits = number_fits c.args.scale.now c.args.cell c.grid.result.size c.grid.ensures c.requires.cell in omega (arith, fits.whole)

pub overflow_cast-result-3 : goal.overflow_cast-result-3
overflow_cast-result-3 c = let fits = number_fits c.args.scale.now c.args.cell c.grid.result.size c.grid.ensures c.requires.cell in omega (arith, fits.below, c.requires.few)

pub returns-clause-below : goal.returns-clause-below
returns-clause-below c = (number_fits c.args.scale.now c.args.cell c.grid.result.size c.grid.ensures c.requires.cell).below
