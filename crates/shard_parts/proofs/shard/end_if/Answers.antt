use Rattle.std.proofs.Common.{refl}
use Rattle.vol_base.proofs.Moments.{turns_none}
use Rattle.shard_parts.proofs.shard.end_if.Goals as goal

pub returns-then-not-ends-clause-history : goal.returns-then-not-ends-clause-history
returns-then-not-ends-clause-history g c = turns_none _ _ _ _ refl
