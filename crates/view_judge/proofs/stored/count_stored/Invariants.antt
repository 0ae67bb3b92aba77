use Rattle.std.proofs.Common.{◌≡◌, ◌≤◌, ◌+◌, ◌++◌, length, IfSome, Some}
use Rattle.vol_base.specs.Outside.{Objects, OnlyReads}
use Rattle.vol_spec.specs.Grid.{cells_in}
use Rattle.view_judge.specs.Answers.{AreNamed}
use Rattle.view_judge.proofs.stored.count_stored.Given as goal

abbrev pub invariant-loop-cell : goal.invariant-loop-cell
invariant-loop-cell g l = record {
  left : l.yielded ++ l.cell-iterator ≡ cells_in l.view.scale l.part;
  cells : l.report.cells ≡ length l.yielded;
  both : l.report.stored + l.report.absent ≡ l.report.cells;
  named : (m : Objects) → g.S.Source.objects l.fn.store ≡ Some m → AreNamed m l.view.dataset l.view.scale l.yielded l.report;
  asked : g.S.Source.asked l.store ≡ g.S.Source.asked l.fn.store;
  kept : OnlyReads (g.S.Source.objects l.fn.store) (g.S.Source.objects l.store) (g.S.Source.draft l.fn.store) (g.S.Source.draft l.store);
  history : g.S.Source.history l.store ≡ g.S.Source.history l.fn.store;
  later : g.S.Source.faults l.store ≡ g.S.Source.faults l.fn.store;
}
