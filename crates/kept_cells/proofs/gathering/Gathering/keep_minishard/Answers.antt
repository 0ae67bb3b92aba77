use Rattle.std.specs.Prelude.{IfSome}
use Rattle.std.proofs.Common.{subst, sym}
use Rattle.std.specs.FinMap as fin
use Rattle.shard_keeper.specs.Keeping.{KeepsIndex}
use Rattle.kept_cells.proofs.MinishardSteps.{minishard_counted}
use Rattle.kept_cells.proofs.OwnSteps.{index_counted}
use Rattle.kept_cells.proofs.gathering.Gathering.keep_minishard.Goals as goal

pub returns-in-Ok-count_ids-clause-keeps : goal.returns-in-Ok-count_ids-clause-keeps
returns-in-Ok-count_ids-clause-keeps g c =
    minishard_counted c.args.over.now.stored.now.scale c.args.over.now.sharding.now c.args.over.now.plan.now.writes c.args.home.now.shard c.args.home.now.minishard (g.S.Source.objects c.args.store.now) c.args.name.now c.keep_index.result c.in-Ok.there c.clear.new.self.items c.as_slice.result.now c.args.self.now.found c.count_ids.new.found c.in-Ok.is c.clear.ensures.items
    (subst (λ xs. IfSome (g.S.Source.objects c.args.store.now) (λ m. KeepsIndex (fin.get m c.args.name.now) c.args.over.now.sharding.now c.args.home.now.shard c.args.home.now.minishard c.clear.new.self.items c.keep_index.result xs)) (sym c.as_slice.ensures.value) c.keep_index.ensures.keeps)
    c.in-Ok-count_ids.ensures.counted

pub returns-in-Ok-count_ids-clause-own : goal.returns-in-Ok-count_ids-clause-own
returns-in-Ok-count_ids-clause-own g c =
    index_counted c.args.over.now.stored.now.scale c.args.over.now.sharding.now c.args.over.now.plan.now.writes c.args.home.now.shard c.args.home.now.minishard c.clear.new.self.items _ c.as_slice.result.now c.args.self.now.found c.count_ids.new.found c.clear.ensures.items c.as_slice.ensures.value
    c.in-Ok.ensures.added c.in-Ok-count_ids.ensures.counted
