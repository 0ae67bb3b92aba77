use Rattle.std.proofs.Common.{Some}
use Rattle.vol_base.specs.Memory.{seen}
use Rattle.store_trials.proofs.index_judge_rows.check_rows.Goals as goal

pub check_thrice-requires-clause-knows : goal.check_thrice-requires-clause-knows
check_thrice-requires-clause-knows g c = c.in_ok-judge.ensures (Some (seen c.in_ok-store.store).objects) c.expect-dataset.result c.one_voxel-scale.result c.two_shards-sharding.result
