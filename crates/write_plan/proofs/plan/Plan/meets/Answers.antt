use Rattle.std.proofs.Common.{◌≡◌, ◌∙◌, ap, subst, sym}
use Rattle.std.specs.Prelude.{not}
use Rattle.vol_spec.specs.Grid.{IsCell}
use Rattle.vol_spec.specs.StoredCells.{met}
use Rattle.write_plan.specs.Pairs.{run_of}
use Rattle.write_plan.specs.Plans.{Planned}
use Rattle.write_plan.proofs.PlanSteps.{met_by_run}
use Rattle.write_plan.proofs.plan.Plan.meets.Goals as goal

pub returns : goal.returns
returns c =
    let plan = c.self.inside in
    let in_grid : IsCell plan.scale c.args.cell = subst (λ (p : Planned). IsCell p.scale c.args.cell) (sym c.self.view_is) c.requires in
    subst (λ (p : Planned). not c.is_empty.result ≡ met p.scale p.writes c.args.cell) c.self.view_is
    (met_by_run plan.scale plan.writes plan.pairs.items c.find_run.result.now c.args.cell c.is_empty.result c.self.invariant.ready in_grid
    (c.find_run.ensures ∙ ap (λ ps. run_of ps c.find_number.result) c.deref.ensures.value ∙ ap (run_of plan.pairs.items) c.find_number.ensures) c.is_empty.ensures)
