use Rattle.std.proofs.Common.{refl}
use Rattle.cell_lists.proofs.CountSteps.{count_one, short_one}
use Rattle.cell_lists.proofs.counting.count_cell.Goals as goal

pub returns-clause-counted : goal.returns-clause-counted
returns-clause-counted c = λ s test h is none. count_one s test c.args.found.now _ c.args.cell h is none refl c.in_ok-keep_cell.ensures

pub returns-clause-short : goal.returns-clause-short
returns-clause-short c = λ h. short_one c.args.found.now _ c.args.cell h refl c.in_ok-keep_cell.ensures
