use Rattle.std.specs.Prelude.{OnOk}
use Rattle.std.proofs.Common.{◌≡◌, ℕ, ◌∙◌, ◌+◌, ◌-◌, ◌≤◌, IfSome, ap, subst, sym}
use Rattle.write_plan.specs.Jobs.{Work}
use Rattle.copier.specs.Sources.{HasPrepared, window_cost}
use Rattle.updater.specs.Updates.{Updates, keeps_of}
use Rattle.updater.proofs.UpdaterSteps.{all_ready, told_ready}
use Rattle.updater.proofs.updater.UpdaterChunks.prepare.Goals as goal

pub invariant_of-self : goal.invariant_of-self
invariant_of-self g c = c.self.invariant ∙ sym (ap (λ (w : Work). w.scale) c.prepare.ensures.work)

pub returns-clause-prepared : goal.returns-clause-prepared
returns-clause-prepared g c =
    all_ready c.prepare.result c.prepare.new.self c.self.inside.copier c.args.self.now c.self.inside.plan.writes c.args.from c.args.to (sym c.self.view_is) c.prepare.ensures.work c.requires.within c.prepare.ensures.prepared

pub returns-clause-ready : goal.returns-clause-ready
returns-clause-ready g c =
    told_ready c.prepare.result (g.S.Source.objects c.args.store.now) c.prepare.new.self c.self.inside.copier c.args.self.now c.self.inside.plan.writes c.args.from c.args.to (sym c.self.view_is) c.prepare.ensures.work c.requires.within c.prepare.ensures.ready

pub returns-clause-asked : goal.returns-clause-asked
returns-clause-asked g c =
    subst (λ (u : Updates). IfSome (g.S.Source.objects c.args.store.now) (λ m. g.S.Source.asked c.prepare.new.store ≤ g.S.Source.asked c.args.store.now + window_cost u.held m c.args.from (c.args.to - c.args.from))) c.self.view_is c.prepare.ensures.asked

pub prepare-requires-clause-keeps : goal.prepare-requires-clause-keeps
prepare-requires-clause-keeps g c = subst (λ (u : Updates). keeps_of u (g.S.Source.objects c.args.store.now)) (sym c.self.view_is) c.requires.keeps

pub returns-clause-more : goal.returns-clause-more
returns-clause-more g c =
    subst (λ (u : Updates). IfSome (g.S.Source.objects c.args.store.now) (λ m. (first count begin : ℕ) → first + count ≡ c.args.from → HasPrepared u.held m first count begin (g.S.Source.asked c.args.store.now)
    → (g.S.Source.asked c.prepare.new.store ≤ begin + window_cost u.held m first (count + (c.args.to - c.args.from)))
    × OnOk c.prepare.result (HasPrepared c.prepare.new.self m first (count + (c.args.to - c.args.from)) begin (g.S.Source.asked c.prepare.new.store)))) c.self.view_is c.prepare.ensures.more
