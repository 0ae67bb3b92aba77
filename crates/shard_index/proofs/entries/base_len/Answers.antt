use Rattle.std.proofs.Common.{arith}
use Rattle.shard_index.proofs.EntrySteps.{base_small}
use Rattle.shard_index.proofs.entries.base_len.Goals as goal

pub returns-clause-small : goal.returns-clause-small
returns-clause-small c = let small = base_small c.args.sharding.now.minishard_bits c.args.sharding.now.minishard_ok in omega arith
