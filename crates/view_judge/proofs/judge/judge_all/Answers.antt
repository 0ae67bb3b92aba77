use Rattle.std.proofs.Common.{◌≤◌, ◌+◌, Err, Ok, arith}
use Rattle.std.specs.List.{sum_by}
use Rattle.vol_spec.proofs.Told.{from_told, in_told}
use Rattle.vol_spec.specs.Verdicts.{Sound}
use Rattle.size_laws.specs.Further.{further}
use Rattle.view_judge.specs.Answers.{JudgesAll}
use Rattle.view_judge.specs.Judging.{FindsViews, cells_cost}
use Rattle.view_judge.proofs.JointSteps.{asked_besides, not_wrong}
use Rattle.view_judge.proofs.ViewSteps.{opened_length, views_few}
use Rattle.view_judge.proofs.WalkSteps.{moved, moved_told}
use Rattle.view_judge.proofs.judge.judge_all.Goals as goal

pub compare_views-requires-clause-views : goal.compare_views-requires-clause-views
compare_views-requires-clause-views g c =
    let len = opened_length c.args.first.now.dataset c.args.first.now.scale c.args.further.now c.requires.views in
    let few = views_few c.args.first.now.scale c.args.part.now c.requires.inside c.requires.few in
    record { views = c.requires.views; some = c.requires.some; few = omega (arith, len, few); inside = c.requires.inside }

pub returns-in-Ok-judge_views-clause-judged : goal.returns-in-Ok-judge_views-clause-judged
returns-in-Ok-judge_views-clause-judged g c =
    in_told (g.S.Source.objects c.args.store.now) (λ m. JudgesAll (Err c.in-Err.wrong) m c.args.first.now.dataset c.args.first.now.scale c.args.part.now) (λ m told sound.
    not_wrong m c.args.first.now.dataset c.args.first.now.scale c.args.part.now c.in-Ok-judge_views.field-0 c.in-Err.wrong c.requires.inside
    (moved (λ m f r. Sound m f.dataset f.scale c.args.part.now → FindsViews (Ok c.in-Ok-judge_views.field-0) m f.dataset f.scale c.args.part.now) (g.S.Source.objects c.args.store.now) (g.S.Source.objects c.compare_views.new.store) c.compare_views.new.first c.compare_views.new.first c.args.first.now c.args.first.now
    c.compare_views.ensures.asks.reads.kept.same_objects c.compare_views.ensures.first c.compare_views.ensures.first
    c.in-Ok-judge_views.ensures.found m told sound)
    (from_told (g.S.Source.objects c.args.store.now) _ m told c.in-Err.ensures.judged) sound)

pub returns-in-Ok-judge_views-clause-asked : goal.returns-in-Ok-judge_views-clause-asked
returns-in-Ok-judge_views-clause-asked g c =
    asked_besides (g.S.Source.objects c.args.store.now) c.args.first.now.dataset c.args.first.now.scale c.args.part.now (g.S.Source.asked c.args.store.now) _ _ c.compare_views.ensures.asks.asked
    (moved_told (λ m f r. g.S.Source.asked c.judge_views.new.store ≤ g.S.Source.asked c.compare_views.new.store + sum_by (cells_cost m f.dataset f.scale c.args.part.now) (further f.scale)) (g.S.Source.objects c.args.store.now) (g.S.Source.objects c.compare_views.new.store) c.compare_views.new.first c.compare_views.new.first c.args.first.now c.args.first.now
    c.compare_views.ensures.asks.reads.kept.same_objects c.compare_views.ensures.first c.compare_views.ensures.first
    c.judge_views.ensures.asks.asked)

pub returns-in-Err-judge_views-clause-judged : goal.returns-in-Err-judge_views-clause-judged
returns-in-Err-judge_views-clause-judged g c =
    moved_told (λ m f r. Sound m f.dataset f.scale c.args.part.now → FindsViews (Err c.in-Err-judge_views.fault) m f.dataset f.scale c.args.part.now) (g.S.Source.objects c.args.store.now) (g.S.Source.objects c.compare_views.new.store) c.compare_views.new.first c.compare_views.new.first c.args.first.now c.args.first.now
    c.compare_views.ensures.asks.reads.kept.same_objects c.compare_views.ensures.first c.compare_views.ensures.first
    c.in-Err-judge_views.ensures.found

pub returns-in-Err-judge_views-clause-asked : goal.returns-in-Err-judge_views-clause-asked
returns-in-Err-judge_views-clause-asked g c =
    asked_besides (g.S.Source.objects c.args.store.now) c.args.first.now.dataset c.args.first.now.scale c.args.part.now (g.S.Source.asked c.args.store.now) _ _ c.compare_views.ensures.asks.asked
    (moved_told (λ m f r. g.S.Source.asked c.judge_views.new.store ≤ g.S.Source.asked c.compare_views.new.store + sum_by (cells_cost m f.dataset f.scale c.args.part.now) (further f.scale)) (g.S.Source.objects c.args.store.now) (g.S.Source.objects c.compare_views.new.store) c.compare_views.new.first c.compare_views.new.first c.args.first.now c.args.first.now
    c.compare_views.ensures.asks.reads.kept.same_objects c.compare_views.ensures.first c.compare_views.ensures.first
    c.judge_views.ensures.asks.asked)
