use Rattle.std.proofs.Common.{◌≡◌, ◌+◌, ◌-◌, ◌≤◌, length}
use Rattle.shard_writer.specs.Writing.{Drops}
use Rattle.shard_writer.specs.Works.{PassesFronts}
use Rattle.size_laws.specs.Further.{all_views}
use Rattle.size_laws.specs.Sizes.{stored_all}
use Rattle.view_writer.proofs.LoopSteps.{IsDone}
use Rattle.view_writer.proofs.views.put_views.Given as goal

abbrev pub invariant-loop-k : goal.invariant-loop-k
invariant-loop-k g l = record {
  within : l.k ≤ length l.scale.more;
  done : IsDone (l.k + 1) (g.S.Source.objects l.fn.store) (g.S.Source.objects l.store) l.dataset l.scale l.fn.writes l.written;
  passed : PassesFronts (λ _. stored_all l.dataset (all_views l.scale) l.fn.writes) (g.S.Source.objects l.fn.store) (g.S.Source.history l.fn.store) (g.S.Source.history l.store);
  same : l.left ≡ l.fn.writes;
  draft : Drops (g.S.Source.draft l.fn.store) (g.S.Source.draft l.store);
  stands : g.S.Source.faults l.store ≡ g.S.Source.faults l.fn.store;
}

abbrev pub decreases-loop-k : goal.decreases-loop-k
decreases-loop-k g l = length l.scale.more - l.k
