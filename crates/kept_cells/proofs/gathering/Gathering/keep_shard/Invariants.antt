use Rattle.std.proofs.Common.{◌≡◌, ◌+◌, ◌*◌, ◌^◌, ◌≤◌}
use Rattle.vol_base.specs.Outside.{OnlyReads}
use Rattle.kept_cells.proofs.OwnSteps.{CountsOfFront}
use Rattle.kept_cells.proofs.ShardSteps.{SomeTold}
use Rattle.kept_cells.proofs.gathering.Gathering.keep_shard.Given as goal

abbrev pub invariant-loop-minishard : goal.invariant-loop-minishard
invariant-loop-minishard g l = record {
  few : l.self.found.count ≤ l.fn.self.found.count + 2 ^ 22 * l.minishard;
  past : SomeTold l.over.stored.now.scale l.over.sharding.now l.over.plan.now.writes l.shard (g.S.Source.objects l.fn.store) l.name l.minishard l.fn.self.found l.self.found;
  own : CountsOfFront l.over.stored.now.scale l.over.sharding.now l.over.plan.now.writes l.shard l.minishard l.fn.self.found l.self.found;
  kept : OnlyReads (g.S.Source.objects l.fn.store) (g.S.Source.objects l.store) (g.S.Source.draft l.fn.store) (g.S.Source.draft l.store);
  history : g.S.Source.history l.store ≡ g.S.Source.history l.fn.store;
  later : g.S.Source.faults l.store ≡ g.S.Source.faults l.fn.store;
}
