use Rattle.std.proofs.Common.{◌≡◌, ◌-◌, length, take, map}
use Rattle.std.specs.List.{range_with_len}
use Rattle.vol_spec.specs.ShardNames.{hex_at}
use Rattle.shard_index.proofs.names.put_hex.Given as goal

abbrev pub invariant-loop-i : goal.invariant-loop-i
invariant-loop-i l = record {
  len : length l.to ≡ l.count;
  put : take l.i l.to ≡ map (λ i. hex_at l.number (l.count - 1 - i)) (range_with_len 0 l.i);
}
