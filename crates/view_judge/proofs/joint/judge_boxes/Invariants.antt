use Rattle.std.proofs.Common.{◌≡◌, ◌≤◌, ◌<◌, ◌+◌, ◌-◌, ℕ, get_or, length, take, IfSome, Ok, Some}
use Rattle.std.specs.List.{sum_by}
use Rattle.vol_base.specs.Outside.{Objects, OnlyReads}
use Rattle.vol_spec.specs.Costs.{cost}
use Rattle.size_laws.specs.Further.{further}
use Rattle.view_judge.specs.Answers.{JudgesBox}
use Rattle.view_judge.proofs.joint.judge_boxes.Given as goal

abbrev pub invariant-loop-k : goal.invariant-loop-k
invariant-loop-k g l = record {
  within : l.k ≤ length l.fn.first.scale.more;
  agree : (m : Objects) → g.S.Source.objects l.fn.store ≡ Some m → (i : ℕ) → i < l.k → JudgesBox (Ok tt) m l.fn.first.dataset l.fn.first.scale (i + 1) (get_or (further l.fn.first.scale) i l.fn.first.scale) l.part;
  views : l.further ≡ l.fn.further;
  asked : IfSome (g.S.Source.objects l.fn.store) (λ m. g.S.Source.asked l.store ≤ g.S.Source.asked l.initial.store + sum_by (λ v. cost m l.fn.first.dataset v l.part) (take l.k (further l.fn.first.scale)));
  kept : OnlyReads (g.S.Source.objects l.fn.store) (g.S.Source.objects l.store) (g.S.Source.draft l.fn.store) (g.S.Source.draft l.store);
  history : g.S.Source.history l.store ≡ g.S.Source.history l.fn.store;
  later : g.S.Source.faults l.store ≡ g.S.Source.faults l.fn.store;
}

abbrev pub decreases-loop-k : goal.decreases-loop-k
decreases-loop-k g l = length l.further - l.k
