use Rattle.std.proofs.Common.{◌≡◌, map}
use Rattle.std.specs.List.{range_with_len}
use Rattle.vol_spec.specs.Views.{view}
use Rattle.view_judge.specs.Further.{opened}
use Rattle.view_judge.proofs.judge.reserve_views.Given as goal

abbrev pub invariant-loop-k : goal.invariant-loop-k
invariant-loop-k l = record {
  views : l.views.items ≡ map (opened l.stored.dataset) (map (view l.stored.scale) (range_with_len 1 l.k));
}
