use Rattle.std.proofs.Common.{◌≡◌, ◌∙◌, ap, length, subst, sym}
use Rattle.std.specs.Prelude.{IsSomeAnd}
use Rattle.vol_spec.specs.Encodings.{raw_size}
use Rattle.vol_spec.specs.Grid.{IsCell}
use Rattle.updater.specs.Updates.{ready_of}
use Rattle.updater.proofs.UpdaterSteps.{filled_is, job_cell, job_in_grid, job_within, ready_facts}
use Rattle.updater.proofs.updater.UpdaterChunks.fill.Goals as goal

pub fill-requires : goal.fill-requires
fill-requires c =
    (ready_facts c.self.inside.copier c.self.inside.plan.writes c.args.job (length c.args.raw.now) (subst (λ u. IsSomeAnd (ready_of u c.args.job) (λ bytes. length bytes ≡ length c.args.raw.now)) (sym c.self.view_is) c.requires)).read

pub overlay-requires-clause-cell : goal.overlay-requires-clause-cell
overlay-requires-clause-cell c =
    let facts = ready_facts c.self.inside.copier c.self.inside.plan.writes c.args.job (length c.args.raw.now) (subst (λ u. IsSomeAnd (ready_of u c.args.job) (λ bytes. length bytes ≡ length c.args.raw.now)) (sym c.self.view_is) c.requires) in
    let at = job_cell c.self.inside.copier c.jobs.result.now c.get.result c.args.job c.jobs.ensures c.get.ensures facts.low in
    subst (λ s. IsCell s c.get.result.cell) (sym c.self.invariant) (subst (IsCell c.self.inside.copier.to) (sym at) (job_in_grid c.self.inside.copier c.args.job facts.low))

pub overlay-requires-clause-len : goal.overlay-requires-clause-len
overlay-requires-clause-len c =
    let facts = ready_facts c.self.inside.copier c.self.inside.plan.writes c.args.job (length c.args.raw.now) (subst (λ u. IsSomeAnd (ready_of u c.args.job) (λ bytes. length bytes ≡ length c.args.raw.now)) (sym c.self.view_is) c.requires) in
    let at = job_cell c.self.inside.copier c.jobs.result.now c.get.result c.args.job c.jobs.ensures c.get.ensures facts.low in
    c.fill.auto.raw ∙ sym facts.size ∙ ap (raw_size c.self.inside.copier.to) (sym at) ∙ ap (λ s. raw_size s c.get.result.cell) (sym c.self.invariant)

pub returns : goal.returns
returns c =
    let facts = ready_facts c.self.inside.copier c.self.inside.plan.writes c.args.job (length c.args.raw.now) (subst (λ u. IsSomeAnd (ready_of u c.args.job) (λ bytes. length bytes ≡ length c.args.raw.now)) (sym c.self.view_is) c.requires) in
    let at = job_cell c.self.inside.copier c.jobs.result.now c.get.result c.args.job c.jobs.ensures c.get.ensures facts.low in
    ap (λ u. ready_of u c.args.job) (sym c.self.view_is)
    ∙ filled_is c.self.inside.copier c.self.inside.plan.writes c.args.job c.self.inside.plan.scale c.get.result.cell c.fill.new.raw c.overlay.new.raw facts.low c.fill.ensures c.self.invariant at c.overlay.ensures

pub get-requires : goal.get-requires
get-requires c =
    let facts = ready_facts c.self.inside.copier c.self.inside.plan.writes c.args.job (length c.args.raw.now) (subst (λ u. IsSomeAnd (ready_of u c.args.job) (λ bytes. length bytes ≡ length c.args.raw.now)) (sym c.self.view_is) c.requires) in
    job_within c.self.inside.copier c.jobs.result.now c.args.job c.jobs.ensures facts.low
