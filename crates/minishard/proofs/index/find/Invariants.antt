use Rattle.std.proofs.Common.{◌≡◌, ◌<◌, ℕ, false}
use Rattle.minishard.specs.Walks.{IsWalked}
use Rattle.vol_spec.specs.Rows.{columns_of, stops}
use Rattle.minishard.proofs.index.find.Given as goal

abbrev pub invariant-loop-row : goal.invariant-loop-row
invariant-loop-row l = record {
  walked : IsWalked (columns_of l.index) l.walk;
  rows : l.walk.rows ≡ l.row;
  before : (k : ℕ) → k < l.row → stops (columns_of l.index) l.id k ≡ false;
}
