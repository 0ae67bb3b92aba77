use Rattle.std.proofs.Common.{◌≡◌, ◌^◌, ◌≤◌, take}
use Rattle.vol_base.specs.Outside.{OnlyReads}
use Rattle.vol_spec.specs.StoredCells.{met}
use Rattle.update_laws.specs.Judged.{touched_shards}
use Rattle.cell_lists.specs.Counted.{CountsBut}
use Rattle.kept_cells.proofs.OwnSteps.{is_of}
use Rattle.kept_cells.proofs.TouchedSteps.{WithTold}
use Rattle.kept_cells.proofs.gathering.Gathering.keep_touched.Given as goal

abbrev pub invariant-loop-shard : goal.invariant-loop-shard
invariant-loop-shard g l = record {
  few : l.self.found.count ≤ 2 ^ 22;
  past : WithTold l.over.stored.now.scale l.over.sharding.now l.over.plan.now.writes (g.S.Source.objects l.fn.store) l.over.stored.now.dataset l.shard-index l.self.found;
  own : CountsBut l.over.stored.now.scale (met l.over.stored.now.scale l.over.plan.now.writes) (is_of l.over.stored.now.scale l.over.sharding.now (take l.shard-index (touched_shards l.over.stored.now.scale l.over.sharding.now l.over.plan.now.writes))) l.self.found;
  kept : OnlyReads (g.S.Source.objects l.fn.store) (g.S.Source.objects l.store) (g.S.Source.draft l.fn.store) (g.S.Source.draft l.store);
  history : g.S.Source.history l.store ≡ g.S.Source.history l.fn.store;
  later : g.S.Source.faults l.store ≡ g.S.Source.faults l.fn.store;
}
