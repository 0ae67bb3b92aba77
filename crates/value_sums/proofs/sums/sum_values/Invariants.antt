use Rattle.std.proofs.Common.{◌≡◌}
use Rattle.value_sums.specs.Sums.{sum_in}
use Rattle.value_sums.proofs.sums.sum_values.Given as goal

-- the sum so far
abbrev pub invariant-loop-n : goal.invariant-loop-n
invariant-loop-n l = l.sum ≡ sum_in l.width l.n l.values
