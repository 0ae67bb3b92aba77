use Rattle.std.proofs.Common.{◌≡◌, ◌≤◌, ◌+◌, ◌-◌, length, take, IfSome, Some}
use Rattle.std.specs.List.{sum_by}
use Rattle.vol_base.specs.Outside.{Objects, OnlyReads}
use Rattle.size_laws.specs.Further.{further}
use Rattle.view_judge.specs.Judging.{cells_cost, cells_of}
use Rattle.view_judge.proofs.ViewSteps.{AreViews}
use Rattle.view_judge.proofs.judge.judge_views.Given as goal

abbrev pub invariant-loop-k : goal.invariant-loop-k
invariant-loop-k g l = record {
  within : l.k ≤ length l.fn.first.scale.more;
  cells : l.report.cells ≡ cells_of (take l.k (further l.fn.first.scale)) l.part;
  both : l.report.stored + l.report.absent ≡ l.report.cells;
  agree : (m : Objects) → g.S.Source.objects l.fn.store ≡ Some m → AreViews m l.fn.first.dataset l.fn.first.scale l.part l.k l.report;
  views : l.further ≡ l.fn.further;
  first : l.first ≡ l.fn.first;
  asked : IfSome (g.S.Source.objects l.fn.store) (λ m. g.S.Source.asked l.store ≤ g.S.Source.asked l.fn.store + sum_by (cells_cost m l.fn.first.dataset l.fn.first.scale l.part) (take l.k (further l.fn.first.scale)));
  kept : OnlyReads (g.S.Source.objects l.fn.store) (g.S.Source.objects l.store) (g.S.Source.draft l.fn.store) (g.S.Source.draft l.store);
  history : g.S.Source.history l.store ≡ g.S.Source.history l.fn.store;
  later : g.S.Source.faults l.store ≡ g.S.Source.faults l.fn.store;
}

abbrev pub decreases-loop-k : goal.decreases-loop-k
decreases-loop-k g l = length l.further - l.k
