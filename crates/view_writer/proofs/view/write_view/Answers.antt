use Rattle.std.proofs.Common.{◌≡◌, ◌∙◌, ap, arith, refl, rules, subst, sym, Err}
use Rattle.vol_base.proofs.Moments.{passes_none}
use Rattle.shard_writer.specs.Works.{PassesFronts}
use Rattle.write_plan.specs.Plans.{Planned}
use Rattle.view_writer.specs.declared.done.ViewsRefusal.TheVariants.{TooManyCells}
use Rattle.view_writer.proofs.PlanSteps.{front_none}
use Rattle.view_writer.specs.Views.{of_view}
use Rattle.view_writer.proofs.view.write_view.Goals as goal

pub unreachable-requires : goal.unreachable-requires
unreachable-requires g c =
    let many = (c.in-Err-TooManyCells.ensures.too_many c.in-Err-TooManyCells.field-0-0).0 (ap Err c.in-Err-TooManyCells.field-0-is) in
    let more = many.0 in
    let few = c.requires.few in
    absurd (omega (arith, more, few))

pub returns-in-Err-OutOfMemory-clause-front : goal.returns-in-Err-OutOfMemory-clause-front
returns-in-Err-OutOfMemory-clause-front g c = front_none (g.S.Source.objects c.args.store.now) (of_view c.args.dataset.now c.args.view.now c.args.writes)

pub returns-in-Err-OutOfMemory-clause-killed : goal.returns-in-Err-OutOfMemory-clause-killed
returns-in-Err-OutOfMemory-clause-killed g c = passes_none _ _ _ refl

pub returns-in_err-written-clause-few : goal.returns-in_err-written-clause-few
returns-in_err-written-clause-few g c cells e =
    let is : c.from_residual.result ≡ Err c.in_err-written.field-0.0 = search rules in
    let same : c.in_err-written.field-0.0 ≡ TooManyCells cells = (let both = sym is ∙ e in cc both) in
    c.put_plan.ensures.few cells (c.in_err-written.was ∙ ap Err same)

pub returns-in_err-written-clause-killed : goal.returns-in_err-written-clause-killed
returns-in_err-written-clause-killed g c =
    subst (λ ws. PassesFronts (λ m. of_view c.args.dataset.now c.args.view.now ws) (g.S.Source.objects c.args.store.now) (g.S.Source.history c.args.store.now) (g.S.Source.history c.put_plan.new.store))
    (ap (λ (p : Planned). p.writes) c.in-Ok.ensures.plan) c.put_plan.ensures.killed

pub returns-clause-killed : goal.returns-clause-killed
returns-clause-killed g c =
    subst (λ ws. PassesFronts (λ m. of_view c.args.dataset.now c.args.view.now ws) (g.S.Source.objects c.args.store.now) (g.S.Source.history c.args.store.now) (g.S.Source.history c.put_plan.new.store))
    (ap (λ (p : Planned). p.writes) c.in-Ok.ensures.plan) c.put_plan.ensures.killed
