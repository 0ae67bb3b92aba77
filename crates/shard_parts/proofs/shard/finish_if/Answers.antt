use Rattle.std.proofs.Common.{refl}
use Rattle.vol_base.proofs.Moments.{turns_none}
use Rattle.shard_parts.proofs.shard.finish_if.Goals as goal

pub returns-else-ends-clause-history : goal.returns-else-ends-clause-history
returns-else-ends-clause-history g c = turns_none _ _ _ _ refl
