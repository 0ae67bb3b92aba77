use Rattle.cell_lists.specs.Lists.{Lists}
use Rattle.update_laws.specs.Overlaid.{is_after}
use Rattle.kept_cells.proofs.GatherSteps.{sharded_lists, sharded_refused}
use Rattle.kept_cells.proofs.cells.gather_sharded.Goals as goal

pub returns-in-Ok-keep_touched-clause-gathers : goal.returns-in-Ok-keep_touched-clause-gathers
returns-in-Ok-keep_touched-clause-gathers g c =
    sharded_lists c.args.over.now.stored.now.dataset c.args.over.now.stored.now.scale c.args.over.now.plan.now.writes (g.S.Source.objects c.args.store.now) c.args.over.now.sharding.now c.keep_touched.result c.in-Ok-keep_touched.field-0 c.keep_touched.new.self.found
    c.args.over.now.is_sharding c.in-Ok-keep_touched.is c.in-Ok-keep_touched.ensures.few c.keep_touched.ensures.judged

pub returns-clause-gathers : goal.returns-clause-gathers
returns-clause-gathers g c =
    sharded_refused c.args.over.now.stored.now.dataset c.args.over.now.stored.now.scale c.args.over.now.plan.now.writes c.keep_touched.new.self.found.cells
    (λ m cells. Lists c.args.over.now.stored.now.scale (is_after m c.args.over.now.stored.now.dataset c.args.over.now.stored.now.scale c.args.over.now.plan.now.writes) cells.items) (g.S.Source.objects c.args.store.now) c.args.over.now.sharding.now c.keep_touched.result c.in-Err.refusal c.keep_touched.new.self.found
    c.args.over.now.is_sharding c.in-Err.is c.keep_touched.ensures.judged
