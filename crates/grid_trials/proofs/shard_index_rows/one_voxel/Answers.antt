use Rattle.grid_trials.proofs.KnownScales.{one_code}
use Rattle.grid_trials.proofs.shard_index_rows.one_voxel.Goals as goal

pub invariant_of-result-clause-codes_ok : goal.invariant_of-result-clause-codes_ok
invariant_of-result-clause-codes_ok c = λ sharding is. one_code
