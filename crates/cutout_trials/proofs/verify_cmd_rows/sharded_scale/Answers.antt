use Rattle.std.proofs.Common.{lit≤}
use Rattle.vol_base.specs.Grids.{pairs}
use Rattle.cutout_trials.proofs.verify_cmd_rows.sharded_scale.Goals as goal

pub invariant_of-result-clause-codes_ok : goal.invariant_of-result-clause-codes_ok
unfolding pairs
invariant_of-result-clause-codes_ok c = λ sharding is. lit≤ tt
