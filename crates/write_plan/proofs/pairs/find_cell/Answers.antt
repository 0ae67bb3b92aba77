use Rattle.std.proofs.Common.{arith}
use Rattle.write_plan.proofs.NumberSteps.{found_cell, plane_below}
use Rattle.write_plan.proofs.pairs.find_cell.Goals as goal

pub overflow_cast-result-6 : goal.overflow_cast-result-6
overflow_cast-result-6 c = let below = plane_below c.args.scale.now c.args.number c.grid.result.size c.grid.ensures c.requires in omega arith

pub returns-clause-cell : goal.returns-clause-cell
returns-clause-cell c = (found_cell c.args.scale.now c.args.number c.grid.result.size c.grid.ensures c.requires).in_grid

pub returns-clause-number : goal.returns-clause-number
returns-clause-number c = (found_cell c.args.scale.now c.args.number c.grid.result.size c.grid.ensures c.requires).number
