use Rattle.std.proofs.Common.{arith}
use Rattle.chunk_grid.proofs.GridSteps.{cell_begins}
use Rattle.reducer.proofs.sources.find_own.Goals as goal

pub overflow_mul-before : goal.overflow_mul-before
overflow_mul-before c =
    let begins = cell_begins c.args.scale.now c.args.cell c.requires.cell c.args.axis c.requires.axis in
    let size = c.args.scale.now.size_ok c.args.axis c.requires.axis in
    omega (arith, begins, size.1)

pub overflow_sub-scale : goal.overflow_sub-scale
overflow_sub-scale c =
    let begins = cell_begins c.args.scale.now c.args.cell c.requires.cell c.args.axis c.requires.axis in
    omega (arith, begins)

pub returns-clause-before : goal.returns-clause-before
returns-clause-before c = cell_begins c.args.scale.now c.args.cell c.requires.cell c.args.axis c.requires.axis

pub returns-clause-within : goal.returns-clause-within
returns-clause-within c =
    let begins = cell_begins c.args.scale.now c.args.cell c.requires.cell c.args.axis c.requires.axis in
    omega (arith, begins)

pub returns-clause-small : goal.returns-clause-small
returns-clause-small c = (c.args.scale.now.size_ok c.args.axis c.requires.axis).1
