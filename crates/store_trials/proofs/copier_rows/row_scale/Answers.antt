use Rattle.std.proofs.Common.{lit≤}
use Rattle.vol_base.specs.Grids.{pairs}
use Rattle.store_trials.proofs.copier_rows.row_scale.Goals as goal

pub invariant_of-result-clause-codes_ok : goal.invariant_of-result-clause-codes_ok
unfolding pairs
invariant_of-result-clause-codes_ok c = λ sharding is. lit≤ tt
