use Rattle.std.proofs.Common.{◌≡◌, ◌∙◌, length, subst, sym}
use Rattle.vol_spec.specs.Encodings.{raw_size}
use Rattle.vol_spec.specs.Grid.{IsCell}
use Rattle.write_plan.specs.Plans.{Planned}
use Rattle.write_plan.proofs.FillSteps.{over_cleared}
use Rattle.write_plan.proofs.PlanSteps.{filled, room}
use Rattle.write_plan.proofs.plan.PlanChunks.fill.Goals as goal

pub overlay-requires-clause-cell : goal.overlay-requires-clause-cell
overlay-requires-clause-cell c =
    let own = room c.args.self.now c.self.inside.scale c.self.inside.writes c.self.inside.jobs c.get.result c.args.job _ (sym c.self.view_is) c.self.invariant.jobs_are c.get.ensures c.requires in
    subst (λ (p : Planned). IsCell p.scale c.get.result.cell) c.self.view_is own.in_grid

pub overlay-requires-clause-len : goal.overlay-requires-clause-len
overlay-requires-clause-len c =
    let own = room c.args.self.now c.self.inside.scale c.self.inside.writes c.self.inside.jobs c.get.result c.args.job _ (sym c.self.view_is) c.self.invariant.jobs_are c.get.ensures c.requires in
    c.clear.auto.raw ∙ subst (λ (p : Planned). length c.args.raw.now ≡ raw_size p.scale c.get.result.cell) c.self.view_is own.len

pub returns : goal.returns
returns c =
    filled c.args.self.now c.self.inside.scale c.self.inside.writes c.self.inside.jobs c.get.result c.args.job _ c.overlay.new.raw (sym c.self.view_is) c.self.invariant.jobs_are c.get.ensures c.requires
    (over_cleared c.args.self.now.scale c.args.self.now.writes c.get.result.cell c.clear.new.raw c.overlay.new.raw c.clear.ensures c.overlay.ensures)
