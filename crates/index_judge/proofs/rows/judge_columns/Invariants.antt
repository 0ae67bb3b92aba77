use Rattle.std.proofs.Common.{◌≡◌, ◌+◌}
use Rattle.vol_spec.specs.Rows.{Columns}
use Rattle.shard_reader.specs.Reading.{Holds}
use Rattle.index_judge.specs.Judging.{IsPast}
use Rattle.index_judge.proofs.rows.judge_columns.Given as goal

abbrev pub invariant-loop-i : goal.invariant-loop-i
invariant-loop-i l = record {
  rows : l.walk.rows ≡ l.fn.walk.rows + l.i;
  past : (c : Columns) → IsPast c l.sharding l.home.shard l.home.minishard l.fn.walk → Holds c l.fn.walk.rows l.count l.ids l.starts l.sizes → IsPast c l.sharding l.home.shard l.home.minishard l.walk;
}
