use Rattle.std.proofs.Common.{◌≡◌, ◌+◌, ◌-◌, ◌≤◌, length, take, None}
use Rattle.size_laws.specs.Further.{all_views}
use Rattle.vol_spec.specs.Writable.{padded}
use Rattle.view_writer.specs.Views.{first_over}
use Rattle.view_writer.proofs.pairs.find_wide.Given as goal

abbrev pub invariant-loop-k : goal.invariant-loop-k
invariant-loop-k l = record {
  within : l.k ≤ length l.scale.more;
  kept : first_over padded (take (l.k + 1) (all_views l.scale)) ≡ None;
}

abbrev pub decreases-loop-k : goal.decreases-loop-k
decreases-loop-k l = length l.scale.more - l.k
