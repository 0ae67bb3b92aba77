use Rattle.std.proofs.Common.{◌≤◌, ◌+◌, ◌^◌, IfSome, ap, arith, subst, sym}
use Rattle.vol_spec.specs.Grid.{Inside}
use Rattle.size_laws.specs.Further.{all_views}
use Rattle.view_judge.specs.Judging.{cells_of}
use Rattle.verify_cmd.specs.Judges.{IsFresh}
use Rattle.verify_cmd.specs.Verifying.{part_cost}
use Rattle.verify_cmd.specs.Parts.{Verifies}
use Rattle.verify_cmd.proofs.ServeSteps.{fresh_serves}
use Rattle.verify_cmd.proofs.ViewSteps.{counts_both, counts_cells}
use Rattle.verify_cmd.proofs.parts.verify.Goals as goal

pub judge_views-requires-clause-inside : goal.judge_views-requires-clause-inside
judge_views-requires-clause-inside g c = subst (λ s. Inside s c.args.part.now) (sym c.of-origin.ensures.scale) (c.inside.ensures.0 c.if-not-inside.false)

pub judge_views-requires-clause-few : goal.judge_views-requires-clause-few
judge_views-requires-clause-few g c =
    subst (λ s. cells_of (all_views s) c.args.part.now ≤ 2 ^ 22) (sym c.of-origin.ensures.scale) (omega (arith, c.count_all-count.ensures, c.if-count-gt-MOST_CELLS.false))

pub judge_views-requires-clause-serves : goal.judge_views-requires-clause-serves
judge_views-requires-clause-serves g c = fresh_serves (g.S.Source.objects c.args.store.now) c.of-origin.result c.in-Ok.judge (subst (λ s. IsFresh s c.in-Ok.judge) (sym c.of-origin.ensures.scale) c.in-Ok.ensures)

pub returns-clause-verified : goal.returns-clause-verified
returns-clause-verified g c =
    subst (λ d. IfSome (g.S.Source.objects c.args.store.now) (λ m. Verifies c.judge_views.result m d c.args.scale.now c.args.part.now)) c.of-origin.ensures.dataset
    (subst (λ s. IfSome (g.S.Source.objects c.args.store.now) (λ m. Verifies c.judge_views.result m c.of-origin.result.dataset s c.args.part.now)) c.of-origin.ensures.scale c.judge_views.ensures.verified)

pub returns-clause-cells : goal.returns-clause-cells
returns-clause-cells g c = counts_cells c.judge_views.result _ _ (ap (λ s. cells_of (all_views s) c.args.part.now) c.of-origin.ensures.scale) c.judge_views.ensures.counts

pub returns-clause-both : goal.returns-clause-both
returns-clause-both g c = counts_both c.judge_views.result _ c.judge_views.ensures.counts

pub returns-clause-asked : goal.returns-clause-asked
returns-clause-asked g c =
    subst (λ d. IfSome (g.S.Source.objects c.args.store.now) (λ m. g.S.Source.asked c.judge_views.new.store ≤ g.S.Source.asked c.args.store.now + part_cost m d c.args.scale.now c.args.part.now)) c.of-origin.ensures.dataset
    (subst (λ s. IfSome (g.S.Source.objects c.args.store.now) (λ m. g.S.Source.asked c.judge_views.new.store ≤ g.S.Source.asked c.args.store.now + part_cost m c.of-origin.result.dataset s c.args.part.now)) c.of-origin.ensures.scale c.judge_views.ensures.asks.asked)

pub returns-clause-too_many : goal.returns-clause-too_many
returns-clause-too_many g c = λ n. (
  (λ e. absurd (c.judge_views.ensures.begun.within n e)),
  (λ is. absurd (omega (arith, is.many, c.count_all-count.ensures, c.if-count-gt-MOST_CELLS.false))),
)

pub returns-clause-uncounted : goal.returns-clause-uncounted
returns-clause-uncounted g c = λ n e. absurd (c.judge_views.ensures.begun.within n e)
