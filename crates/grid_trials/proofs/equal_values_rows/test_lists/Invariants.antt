use Rattle.std.proofs.Common.{◌≡◌}
use Rattle.equal_values.specs.Reserved.{most_of}
use Rattle.grid_trials.proofs.equal_values_rows.test_lists.Given as goal

abbrev pub invariant-loop-len : goal.invariant-loop-len
invariant-loop-len g l = most_of l.finder ≡ 3000
