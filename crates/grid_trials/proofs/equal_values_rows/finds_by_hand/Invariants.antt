use Rattle.std.proofs.Common.{◌≡◌}
use Rattle.equal_values.specs.Reserved.{most_of}
use Rattle.grid_trials.proofs.equal_values_rows.finds_by_hand.Given as goal

abbrev pub invariant-loop-values : goal.invariant-loop-values
invariant-loop-values g l = most_of l.finder ≡ 3000
