use Rattle.std.proofs.Common.{◌≡◌, ◌+◌, ◌-◌, ◌≤◌, length, take, None}
use Rattle.size_laws.specs.Further.{all_views}
use Rattle.write_plan.specs.Plans.{pairs}
use Rattle.view_writer.specs.Views.{first_over}
use Rattle.view_writer.proofs.pairs.find_many.Given as goal

abbrev pub invariant-loop-k : goal.invariant-loop-k
invariant-loop-k l = record {
  within : l.k ≤ length l.scale.more;
  kept : first_over (λ v. pairs v l.writes) (take (l.k + 1) (all_views l.scale)) ≡ None;
}

abbrev pub decreases-loop-k : goal.decreases-loop-k
decreases-loop-k l = length l.scale.more - l.k
