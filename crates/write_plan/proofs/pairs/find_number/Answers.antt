use Rattle.std.proofs.Common.{arith}
use Rattle.write_plan.proofs.NumberSteps.{number_fits}
use Rattle.write_plan.proofs.pairs.find_number.Goals as goal

pub overflow_mul-result : goal.overflow_mul-result
overflow_mul-result c = let fits = number_fits c.args.scale.now c.args.cell c.grid.result.size c.grid.ensures c.requires in omega (arith, fits.product)

pub overflow_add-result : goal.overflow_add-result
overflow_add-result c = let fits = number_fits c.args.scale.now c.args.cell c.grid.result.size c.grid.ensures c.requires in omega (arith, fits.whole)
