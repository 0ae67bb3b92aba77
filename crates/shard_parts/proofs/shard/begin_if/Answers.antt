use Rattle.std.proofs.Common.{refl}
use Rattle.vol_base.proofs.Moments.{turns_none}
use Rattle.shard_parts.proofs.shard.begin_if.Goals as goal

pub returns-else-fresh-clause-history : goal.returns-else-fresh-clause-history
returns-else-fresh-clause-history g c = turns_none _ _ _ _ refl
