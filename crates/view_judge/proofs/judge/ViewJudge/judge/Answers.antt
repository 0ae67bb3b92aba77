use Rattle.std.proofs.Common.{◌∙◌, ◌≤◌, ◌+◌, Err, Ok, ap, arith, eqb-true, refl, subst, sym, IfSome}
use Rattle.vol_spec.proofs.Told.{from_told, in_told}
use Rattle.vol_spec.specs.Verdicts.{Sound}
use Rattle.cutout.specs.Opened.{Opened}
use Rattle.view_judge.specs.Answers.{ComparesAll}
use Rattle.view_judge.specs.Further.{all_opened}
use Rattle.view_judge.specs.Judging.{FindsViews, views_cost}
use Rattle.view_judge.proofs.JointSteps.{all_agreeing, judge_again}
use Rattle.view_judge.proofs.ViewSteps.{cells_all, opened_length, views_all}
use Rattle.view_judge.proofs.WalkSteps.{moved, moved_told}
use Rattle.view_judge.proofs.judge.ViewJudge.judge.Goals as goal

pub returns-then-is_empty-clause-cells : goal.returns-then-is_empty-clause-cells
returns-then-is_empty-clause-cells g c = cells_all c.args.self.now.scale c.args.part.now 0 0 (let len = opened_length c.args.self.now.dataset c.args.self.now.scale c.self.inside.further.items (c.self.invariant.views ∙ ap (λ (r : Opened). all_opened r.dataset r.scale) c.self.view_is) in let items = c.self.inside.further.ok.0 in let none = eqb-true _ 0 (sym c.if-is_empty.ensures) in omega (arith, len, items, none)) refl

pub returns-then-is_empty-clause-found : goal.returns-then-is_empty-clause-found
returns-then-is_empty-clause-found g c =
    in_told (g.S.Source.objects c.args.store.now) _ (λ m told sound. views_all m c.args.self.now.dataset c.args.self.now.scale c.args.part.now 0 _ (let len = opened_length c.args.self.now.dataset c.args.self.now.scale c.self.inside.further.items (c.self.invariant.views ∙ ap (λ (r : Opened). all_opened r.dataset r.scale) c.self.view_is) in let items = c.self.inside.further.ok.0 in let none = eqb-true _ 0 (sym c.if-is_empty.ensures) in omega (arith, len, items, none)) (record { agree = λ i l. absurd (omega (arith, l)); stored = refl; absent = refl }))

pub invariant_of-self : goal.invariant_of-self
invariant_of-self g c =
    judge_again c.self.inside.first c.judge_all.new.first c.self.inside.further.items c.judge_all.new.further c.self.inside.further.len c.self.inside.scale c.self.inside.found c.self.inside.wanted c.judge_all.new.found c.judge_all.new.wanted
    c.self.invariant c.judge_all.ensures.first (c.judge_all.ensures.further ∙ c.deref_mut.ensures.value) c.self.inside.further.ok.0

pub invariant_of-self-2 : goal.invariant_of-self-2
invariant_of-self-2 g c =
    judge_again c.self.inside.first c.judge_all.new.first c.self.inside.further.items c.judge_all.new.further c.self.inside.further.len c.self.inside.scale c.self.inside.found c.self.inside.wanted c.judge_all.new.found c.judge_all.new.wanted
    c.self.invariant c.judge_all.ensures.first (c.judge_all.ensures.further ∙ c.deref_mut.ensures.value) c.self.inside.further.ok.0

pub returns-in-Err-clause-found : goal.returns-in-Err-clause-found
returns-in-Err-clause-found g c =
    moved_told (λ m f r. Sound m f.dataset f.scale c.args.part.now → FindsViews (Err c.in-Err.fault) m f.dataset f.scale c.args.part.now) (g.S.Source.objects c.args.store.now) (g.S.Source.objects c.count.new.store) c.self.inside.first c.self.inside.first c.args.self.now c.args.self.now c.count.ensures.reads.kept.same_objects c.self.view_is c.self.view_is
    c.in-Err.ensures.judged

pub returns-clause-found : goal.returns-clause-found
returns-clause-found g c =
    in_told (g.S.Source.objects c.args.store.now) (λ m. Sound m c.args.self.now.dataset c.args.self.now.scale c.args.part.now → FindsViews (Ok c.in_ok-report.report) m c.args.self.now.dataset c.args.self.now.scale c.args.part.now) (λ m told sound.
    all_agreeing m c.args.self.now.dataset c.args.self.now.scale c.args.part.now c.requires.inside
    (moved (λ m f r. ComparesAll (Ok tt) m f.dataset f.scale c.args.part.now) (g.S.Source.objects c.args.store.now) (g.S.Source.objects c.count.new.store) c.self.inside.first c.self.inside.first c.args.self.now c.args.self.now c.count.ensures.reads.kept.same_objects c.self.view_is c.self.view_is
    c.in-Ok.ensures.judged m told)
    c.in_ok-report.report (from_told (g.S.Source.objects c.args.store.now) _ m told c.in_ok-report.ensures.named))

pub returns-clause-asked : goal.returns-clause-asked
returns-clause-asked g c =
    subst (λ n. IfSome (g.S.Source.objects c.args.store.now) (λ m. g.S.Source.asked c.judge_all.new.store ≤ n + views_cost m c.args.self.now.dataset c.args.self.now.scale c.args.part.now)) c.count.ensures.asked
    (moved_told (λ m f r. g.S.Source.asked c.judge_all.new.store ≤ g.S.Source.asked c.count.new.store + views_cost m f.dataset f.scale c.args.part.now) (g.S.Source.objects c.args.store.now) (g.S.Source.objects c.count.new.store) c.self.inside.first c.self.inside.first c.args.self.now c.args.self.now c.count.ensures.reads.kept.same_objects c.self.view_is c.self.view_is
    c.judge_all.ensures.asked)
