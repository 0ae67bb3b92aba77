use Rattle.std.proofs.Common.{arith}
use Rattle.bench.proofs.ids.find_grid.Goals as goal

pub invariant_of-grid : goal.invariant_of-grid
invariant_of-grid c = record { size_ok = λ a h. c.loop-axis.invariant a (omega arith) }
