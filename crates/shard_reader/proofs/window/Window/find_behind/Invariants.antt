use Rattle.std.proofs.Common.{◌≡◌, true, ◌+◌, ◌-◌, ◌*◌, ◌≤◌}
use Rattle.vol_base.specs.Outside.{OnlyReads}
use Rattle.vol_spec.specs.Rows.{columns_of}
use Rattle.shard_reader.specs.Reading.{IsAt, IsWindow, OnIndex, resumes}
use Rattle.shard_reader.proofs.window.Window.find_behind.Given as goal

abbrev pub invariant-loop-walk : goal.invariant-loop-walk
invariant-loop-walk g l = record {
  rows : l.walk.rows ≡ l.self.before.rows + l.self.count;
  within : l.walk.rows ≤ l.index.rows;
  front : l.fn.self.before.rows + l.fn.self.count ≤ l.walk.rows;
  at : OnIndex (g.S.Source.objects l.fn.store) l.name l.index.at l.index.rows (λ bytes. IsAt (columns_of bytes) l.walk l.id);
  window : OnIndex (g.S.Source.objects l.fn.store) l.name l.index.at l.index.rows (IsWindow l.self.before l.self.count l.self.columns.bytes);
  behind : OnIndex (g.S.Source.objects l.fn.store) l.name l.index.at l.index.rows (λ bytes. resumes l.self.before l.id ≡ true);
  kept : OnlyReads (g.S.Source.objects l.fn.store) (g.S.Source.objects l.store) (g.S.Source.draft l.fn.store) (g.S.Source.draft l.store);
  history : g.S.Source.history l.store ≡ g.S.Source.history l.fn.store;
  asked : g.S.Source.asked l.store + 24 * (l.fn.self.before.rows + l.fn.self.count) ≤ g.S.Source.asked l.fn.store + 24 * l.walk.rows;
  later : g.S.Source.faults l.store ≡ g.S.Source.faults l.fn.store;
}

abbrev pub decreases-loop-walk : goal.decreases-loop-walk
decreases-loop-walk g l = l.index.rows - l.walk.rows
