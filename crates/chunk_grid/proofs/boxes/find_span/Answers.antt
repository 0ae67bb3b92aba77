use Rattle.std.proofs.Common.{arith}
use Rattle.std.proofs.lemmas.Int.{ints}
use Rattle.chunk_grid.proofs.GridSteps.{cell_begins}
use Rattle.chunk_grid.proofs.boxes.find_span.Goals as goal

pub overflow_mul-before : goal.overflow_mul-before
overflow_mul-before c =
    let begins = cell_begins c.args.scale.now c.args.cell c.requires.cell c.args.axis c.requires.axis in
    let size = c.args.scale.now.size_ok c.args.axis c.requires.axis in
    omega (arith, begins, size.1)

pub overflow_cast-result : goal.overflow_cast-result
overflow_cast-result c =
    let begins = cell_begins c.args.scale.now c.args.cell c.requires.cell c.args.axis c.requires.axis in
    let size = c.args.scale.now.size_ok c.args.axis c.requires.axis in
    omega (arith, begins, size.1)

pub overflow_add-result : goal.overflow_add-result
overflow_add-result c =
    let begins = cell_begins c.args.scale.now c.args.cell c.requires.cell c.args.axis c.requires.axis in
    let size = c.args.scale.now.size_ok c.args.axis c.requires.axis in
    let offset = c.args.scale.now.offset_ok c.args.axis c.requires.axis in
    omega (arith, ints, begins, size.1, offset.0, offset.1)

pub overflow_sub-size : goal.overflow_sub-size
overflow_sub-size c =
    let begins = cell_begins c.args.scale.now c.args.cell c.requires.cell c.args.axis c.requires.axis in
    omega (arith, begins)

pub returns-clause-begin : goal.returns-clause-begin
returns-clause-begin c =
    let begins = cell_begins c.args.scale.now c.args.cell c.requires.cell c.args.axis c.requires.axis in
    let size = c.args.scale.now.size_ok c.args.axis c.requires.axis in
    let offset = c.args.scale.now.offset_ok c.args.axis c.requires.axis in
    omega (arith, ints, begins, size.1, offset.0, offset.1)
