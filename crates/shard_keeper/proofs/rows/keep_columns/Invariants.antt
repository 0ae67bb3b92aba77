use Rattle.std.proofs.Common.{◌≡◌, ◌≤◌, ◌+◌, ℕ, List, length}
use Rattle.vol_spec.specs.Rows.{Columns}
use Rattle.shard_reader.specs.Reading.{Holds}
use Rattle.shard_keeper.specs.Keeping.{HasAdded, HasKept}
use Rattle.shard_keeper.proofs.rows.keep_columns.Given as goal

abbrev pub invariant-loop-i : goal.invariant-loop-i
invariant-loop-i l = record {
  rows : l.walk.rows ≡ l.fn.walk.rows + l.i;
  few : length l.kept.items ≤ length l.fn.kept.items + l.i;
  past : (c : Columns) (first : List ℕ) → HasKept c l.sharding l.home.shard l.home.minishard first l.fn.walk l.fn.kept.items → Holds c l.fn.walk.rows l.count l.ids l.starts l.sizes
      → HasKept c l.sharding l.home.shard l.home.minishard first l.walk l.kept.items;
  added : (first : List ℕ) → HasAdded l.sharding l.home.shard l.home.minishard first l.fn.walk l.fn.kept.items → HasAdded l.sharding l.home.shard l.home.minishard first l.walk l.kept.items;
}
