use Rattle.std.proofs.Common.{◌≡◌, ◌≤◌, ◌<◌, ◌+◌, ◌-◌, ℕ, get_or, length, take, IfSome, Some}
use Rattle.std.specs.List.{sum_by}
use Rattle.vol_base.specs.Outside.{Objects, OnlyReads}
use Rattle.size_laws.specs.Further.{further}
use Rattle.view_judge.specs.Answers.{AgreesSo}
use Rattle.view_judge.specs.Judging.{own_cost}
use Rattle.view_judge.proofs.joint.judge_apart.Given as goal

abbrev pub invariant-loop-number : goal.invariant-loop-number
invariant-loop-number g l = record {
  within : l.number ≤ length l.fn.first.scale.more;
  agree : (m : Objects) → g.S.Source.objects l.fn.store ≡ Some m → (i : ℕ) → i < l.number → AgreesSo m l.fn.first.dataset l.fn.first.scale (i + 1) (get_or (further l.fn.first.scale) i l.fn.first.scale) l.part;
  views : l.further ≡ l.fn.further;
  first : l.first ≡ l.fn.first;
  asked : IfSome (g.S.Source.objects l.fn.store) (λ m. g.S.Source.asked l.store ≤ g.S.Source.asked l.fn.store + sum_by (own_cost m l.fn.first.dataset l.fn.first.scale l.part) (take l.number (further l.fn.first.scale)));
  kept : OnlyReads (g.S.Source.objects l.fn.store) (g.S.Source.objects l.store) (g.S.Source.draft l.fn.store) (g.S.Source.draft l.store);
  history : g.S.Source.history l.store ≡ g.S.Source.history l.fn.store;
  later : g.S.Source.faults l.store ≡ g.S.Source.faults l.fn.store;
}

abbrev pub decreases-loop-number : goal.decreases-loop-number
decreases-loop-number g l = length l.further - l.number
