use Rattle.std.proofs.Common.{◌≡◌, ◌≤◌, ◌+◌, ◌++◌, length, IfSome, Some}
use Rattle.std.specs.List.{sum_by}
use Rattle.vol_base.specs.Outside.{Objects, OnlyReads}
use Rattle.vol_spec.specs.Grid.{cell_box, cells_in}
use Rattle.size_laws.specs.Findings.{common}
use Rattle.view_judge.specs.Answers.{AreCells}
use Rattle.view_judge.specs.Judging.{pair_cost}
use Rattle.view_judge.proofs.further.FurtherView.judge_cells.Given as goal

abbrev pub invariant-loop-cell : goal.invariant-loop-cell
invariant-loop-cell g l = record {
  left : l.yielded ++ l.cell-iterator ≡ cells_in l.fn.self.scale l.part;
  cells : l.report.cells ≡ length l.yielded;
  both : l.report.stored + l.report.absent ≡ l.report.cells;
  agree : (m : Objects) → g.S.Source.objects l.fn.store ≡ Some m → AreCells m l.fn.first.dataset l.fn.first.scale l.number l.fn.self.scale l.part l.yielded l.report;
  same : l.self ≡ l.fn.self;
  first : l.first ≡ l.fn.first;
  asked : IfSome (g.S.Source.objects l.fn.store) (λ m. g.S.Source.asked l.store ≤ g.S.Source.asked l.fn.store + sum_by (λ cell. pair_cost m l.fn.first.dataset l.fn.first.scale l.fn.self.scale (common (cell_box l.fn.self.scale cell) l.part)) l.yielded);
  kept : OnlyReads (g.S.Source.objects l.fn.store) (g.S.Source.objects l.store) (g.S.Source.draft l.fn.store) (g.S.Source.draft l.store);
  history : g.S.Source.history l.store ≡ g.S.Source.history l.fn.store;
  later : g.S.Source.faults l.store ≡ g.S.Source.faults l.fn.store;
}
