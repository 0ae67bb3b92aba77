use Rattle.std.proofs.Common.{◌≡◌, ◌≤◌, ◌+◌, ◌++◌, IfSome, Some}
use Rattle.std.specs.List.{sum_by}
use Rattle.vol_base.specs.Outside.{Objects, OnlyReads}
use Rattle.vol_spec.specs.Grid.{cells_in}
use Rattle.view_judge.specs.Answers.{AllAgree}
use Rattle.view_judge.specs.Judging.{region_cost}
use Rattle.view_judge.proofs.joint.judge_regions.Given as goal

abbrev pub invariant-loop-region : goal.invariant-loop-region
invariant-loop-region g l = record {
  left : l.yielded ++ l.region-iterator ≡ cells_in l.regions l.part;
  agree : (m : Objects) → g.S.Source.objects l.fn.store ≡ Some m → AllAgree m l.fn.first.dataset l.fn.first.scale l.part l.yielded;
  first : l.first ≡ l.fn.first;
  further : l.further ≡ l.fn.further;
  asked : IfSome (g.S.Source.objects l.fn.store) (λ m. g.S.Source.asked l.store ≤ g.S.Source.asked l.fn.store + sum_by (region_cost m l.fn.first.dataset l.fn.first.scale l.part) l.yielded);
  kept : OnlyReads (g.S.Source.objects l.fn.store) (g.S.Source.objects l.store) (g.S.Source.draft l.fn.store) (g.S.Source.draft l.store);
  history : g.S.Source.history l.store ≡ g.S.Source.history l.fn.store;
  later : g.S.Source.faults l.store ≡ g.S.Source.faults l.fn.store;
}
