use Rattle.std.proofs.Common.{rules}
use Rattle.shard_index.proofs.EntrySteps.{bytes_back}
use Rattle.shard_index.proofs.entries.read_entry.Goals as goal

pub returns-clause-written : goal.returns-clause-written
returns-clause-written c = bytes_back c.args.bytes.now c.read_u64.result c.read_u64-2.result (search rules) (search rules) c.read_u64.ensures c.read_u64-2.ensures
