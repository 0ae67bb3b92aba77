use Rattle.std.proofs.Common.{◌∙◌, ap, sym}
use Rattle.write_plan.specs.Jobs.{Work}
use Rattle.copier.specs.Held as held
use Rattle.updater.specs.Updates.{ready_of}
use Rattle.updater.proofs.UpdaterSteps.{ready_from}
use Rattle.updater.proofs.updater.UpdaterChunks.forget.Goals as goal

pub invariant_of-self : goal.invariant_of-self
invariant_of-self c = c.self.invariant ∙ sym (ap (λ (w : Work). w.scale) c.forget.ensures.work)

pub returns-clause-ready : goal.returns-clause-ready
returns-clause-ready c =
    ap (λ (w : Work). ready_from w (held.ready_of c.forget.new.self) c.self.inside.plan.writes) c.forget.ensures.work
    ∙ ap (λ ready. ready_from (held.work_of c.self.inside.copier) ready c.self.inside.plan.writes) c.forget.ensures.ready ∙ ap ready_of c.self.view_is
