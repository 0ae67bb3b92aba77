use Rattle.std.proofs.Common.{◌≡◌, ◌+◌, ◌-◌, ◌*◌, ◌≤◌}
use Rattle.vol_base.specs.Outside.{OnlyReads}
use Rattle.vol_spec.specs.Rows.{columns_of}
use Rattle.shard_reader.specs.Reading.{OnIndex}
use Rattle.index_judge.specs.Judging.{IsPast}
use Rattle.index_judge.proofs.rows.judge_rows.Given as goal

abbrev pub invariant-loop-walk : goal.invariant-loop-walk
invariant-loop-walk g l = record {
  within : l.walk.rows ≤ l.span.rows;
  past : OnIndex (g.S.Source.objects l.fn.store) l.name l.span.at l.span.rows (λ bytes. IsPast (columns_of bytes) l.sharding l.home.shard l.home.minishard l.walk);
  kept : OnlyReads (g.S.Source.objects l.fn.store) (g.S.Source.objects l.store) (g.S.Source.draft l.fn.store) (g.S.Source.draft l.store);
  history : g.S.Source.history l.store ≡ g.S.Source.history l.fn.store;
  asked : g.S.Source.asked l.store ≤ g.S.Source.asked l.fn.store + 24 * l.walk.rows;
  later : g.S.Source.faults l.store ≡ g.S.Source.faults l.fn.store;
}

abbrev pub decreases-loop-walk : goal.decreases-loop-walk
decreases-loop-walk g l = l.span.rows - l.walk.rows
