use Rattle.std.proofs.Common.{◌≡◌, ◌≤◌, ◌+◌, length, take, IfSome, Some}
use Rattle.vol_base.specs.Outside.{Objects, OnlyReads}
use Rattle.size_laws.specs.Further.{further}
use Rattle.view_judge.specs.Answers.{AreAllNamed}
use Rattle.view_judge.specs.Judging.{cells_of}
use Rattle.view_judge.proofs.judge.ViewJudge.count.Given as goal

abbrev pub invariant-loop-view : goal.invariant-loop-view
invariant-loop-view g l = record {
  within : l.view-index ≤ length l.self.scale.more;
  cells : l.report.cells ≡ cells_of (take l.view-index (further l.self.scale)) l.part;
  both : l.report.stored + l.report.absent ≡ l.report.cells;
  named : (m : Objects) → g.S.Source.objects l.fn.store ≡ Some m → AreAllNamed m l.self.dataset l.part (take l.view-index (further l.self.scale)) l.report;
  asked : g.S.Source.asked l.store ≡ g.S.Source.asked l.fn.store;
  kept : OnlyReads (g.S.Source.objects l.fn.store) (g.S.Source.objects l.store) (g.S.Source.draft l.fn.store) (g.S.Source.draft l.store);
  history : g.S.Source.history l.store ≡ g.S.Source.history l.fn.store;
  later : g.S.Source.faults l.store ≡ g.S.Source.faults l.fn.store;
}
