use Rattle.std.proofs.Common.{◌≡◌, ◌<◌, ◌≤◌, ◌∙◌, [], IfSome, ap, length, subst, sym, take}
use Rattle.std.specs.Prelude.{IsSome, unwrap_or}
use Rattle.vol_spec.specs.Encodings.{encoded}
use Rattle.vol_spec.specs.Grid.{IsCell}
use Rattle.vol_spec.specs.Limits.{limit_of}
use Rattle.vol_spec.specs.StoredCells.{cell_of}
use Rattle.updater.specs.Updates.{Updates, ready_of, work_of}
use Rattle.updater.proofs.UpdaterSteps.{chunk_unmet, job_cell, job_in_grid, job_within, some_read}
use Rattle.updater.proofs.updater.UpdaterChunks.chunk.Goals as goal

pub get-requires : goal.get-requires
get-requires c =
    let low = (subst (λ u. c.args.job < length (work_of u).cells) (sym c.self.view_is) c.requires.job) in
    job_within c.self.inside.copier c.jobs.result.now c.args.job c.jobs.ensures low

pub meets-requires : goal.meets-requires
meets-requires c =
    let low = (subst (λ u. c.args.job < length (work_of u).cells) (sym c.self.view_is) c.requires.job) in
    let at = job_cell c.self.inside.copier c.jobs.result.now c.get.result c.args.job c.jobs.ensures c.get.ensures low in
    subst (λ s. IsCell s c.get.result.cell) (sym c.self.invariant) (subst (IsCell c.self.inside.copier.to) (sym at) (job_in_grid c.self.inside.copier c.args.job low))

pub chunk-requires-clause-job : goal.chunk-requires-clause-job
chunk-requires-clause-job c = (subst (λ u. c.args.job < length (work_of u).cells) (sym c.self.view_is) c.requires.job)

pub chunk-requires-clause-ready : goal.chunk-requires-clause-ready
chunk-requires-clause-ready c =
    let low = (subst (λ u. c.args.job < length (work_of u).cells) (sym c.self.view_is) c.requires.job) in
    (some_read c.self.inside.copier c.self.inside.plan.writes c.args.job low (subst (λ u. IsSome (ready_of u c.args.job)) (sym c.self.view_is) c.requires.ready))

pub chunk-requires-clause-room : goal.chunk-requires-clause-room
chunk-requires-clause-room c =
    subst (λ (u : Updates). limit_of u.held.to.encoding u.held.to.width u.held.to.channels u.held.to.size u.held.to.chunk ≤ length c.args.out.now) (sym c.self.view_is) c.requires.room

pub returns-clause-chunk : goal.returns-clause-chunk
returns-clause-chunk c =
    let low = (subst (λ u. c.args.job < length (work_of u).cells) (sym c.self.view_is) c.requires.job) in
    let at = job_cell c.self.inside.copier c.jobs.result.now c.get.result c.args.job c.jobs.ensures c.get.ensures low in
    let some = (some_read c.self.inside.copier c.self.inside.plan.writes c.args.job low (subst (λ u. IsSome (ready_of u c.args.job)) (sym c.self.view_is) c.requires.ready)) in
    subst (λ (u : Updates). IfSome c.chunk.result (λ n. take n c.chunk.new.out ≡ encoded u.held.to (cell_of (work_of u).cells c.args.job) (unwrap_or (ready_of u c.args.job) []))) c.self.view_is
    (chunk_unmet c.self.inside.copier c.self.inside.plan.writes c.args.job c.self.inside.plan.scale c.get.result.cell c.chunk.result c.chunk.new.out low c.self.invariant at (sym c.if-meets.false ∙ c.meets.ensures) some c.chunk.ensures.bytes c.chunk.ensures.chunk)
