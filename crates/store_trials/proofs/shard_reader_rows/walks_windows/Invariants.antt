use Rattle.std.proofs.Common.{Some}
use Rattle.vol_base.specs.Memory.{seen}
use Rattle.shard_reader.specs.Readers.{Keeps}
use Rattle.store_trials.proofs.shard_reader_rows.walks_windows.Given as goal

abbrev pub invariant-loop-id : goal.invariant-loop-id
invariant-loop-id g l = Keeps (Some (seen l.store).objects) l.stored.dataset l.stored.scale l.sharding l.reader
