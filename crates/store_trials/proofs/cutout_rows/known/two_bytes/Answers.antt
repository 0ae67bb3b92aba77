use Rattle.std.proofs.Common.{lit≤}
use Rattle.vol_base.specs.Grids.{pairs}
use Rattle.store_trials.proofs.cutout_rows.known.two_bytes.Goals as goal

pub invariant_of-result-clause-codes_ok : goal.invariant_of-result-clause-codes_ok
unfolding pairs
invariant_of-result-clause-codes_ok c = λ sharding is. lit≤ tt
