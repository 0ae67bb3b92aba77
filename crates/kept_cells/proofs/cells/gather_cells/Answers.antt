use Rattle.std.proofs.Common.{arith, subst}
use Rattle.vol_spec.specs.StoredCells.{met}
use Rattle.vol_spec.specs.declared.scale.Scale.{Scale}
use Rattle.cell_lists.proofs.CountSteps.{counts_whole}
use Rattle.cell_lists.specs.Counted.{Counts}
use Rattle.kept_cells.proofs.GatherSteps.{few_met, plain_lists}
use Rattle.kept_cells.proofs.cells.gather_cells.Goals as goal

pub gather_sharded-requires-clause-counted : goal.gather_sharded-requires-clause-counted
gather_sharded-requires-clause-counted g c =
    subst (λ (s : Scale). Counts s (met s c.args.plan.now.writes) c.in-Ok.found) c.requires.plan c.in-Ok.ensures

pub gather_sharded-requires-clause-few : goal.gather_sharded-requires-clause-few
gather_sharded-requires-clause-few g c =
    few_met c.args.stored.now.scale c.args.plan.now.writes c.in-Ok.found (subst (λ (s : Scale). Counts s (met s c.args.plan.now.writes) c.in-Ok.found) c.requires.plan c.in-Ok.ensures) c.requires.few

pub returns-in-None-clause-gathers : goal.returns-in-None-clause-gathers
returns-in-None-clause-gathers g c =
    let counted = subst (λ (s : Scale). Counts s (met s c.args.plan.now.writes) c.in-Ok.found) c.requires.plan c.in-Ok.ensures in
    plain_lists c.args.stored.now.dataset c.args.stored.now.scale c.args.plan.now.writes (g.S.Source.objects c.args.store.now) c.in-Ok.found c.in-None.is counted (few_met c.args.stored.now.scale c.args.plan.now.writes c.in-Ok.found counted c.requires.few)

pub returns-in-None-clause-distinct : goal.returns-in-None-clause-distinct
returns-in-None-clause-distinct g c =
    let counted = subst (λ (s : Scale). Counts s (met s c.args.plan.now.writes) c.in-Ok.found) c.requires.plan c.in-Ok.ensures in
    let few = few_met c.args.stored.now.scale c.args.plan.now.writes c.in-Ok.found counted c.requires.few in
    (counts_whole c.args.stored.now.scale (met c.args.stored.now.scale c.args.plan.now.writes) c.in-Ok.found few counted).distinct

pub returns-in-None-clause-few : goal.returns-in-None-clause-few
returns-in-None-clause-few g c =
    let counted = subst (λ (s : Scale). Counts s (met s c.args.plan.now.writes) c.in-Ok.found) c.requires.plan c.in-Ok.ensures in
    let few = few_met c.args.stored.now.scale c.args.plan.now.writes c.in-Ok.found counted c.requires.few in
    let whole = counts_whole c.args.stored.now.scale (met c.args.stored.now.scale c.args.plan.now.writes) c.in-Ok.found few counted in
    omega (arith, few, whole.count)
