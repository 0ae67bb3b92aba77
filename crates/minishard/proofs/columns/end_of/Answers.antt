use Rattle.std.proofs.Common.{arith}
use Rattle.minishard.proofs.ColumnSteps.{end_at}
use Rattle.minishard.proofs.columns.end_of.Goals as goal

pub overflow_add-result : goal.overflow_add-result
overflow_add-result c =
    let fits = c.requires.rows.fit c.args.r c.requires.row in
    let is = end_at c.args.rows.now c.args.r c.requires.row in
    omega arith
