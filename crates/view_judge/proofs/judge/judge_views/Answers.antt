use Rattle.std.proofs.Common.{set, ◌≤◌, ◌∙◌, ◌+◌, Err, Ok, arith, ap, length, refl, rules}
use Rattle.std.proofs.lemmas.List.{set-get_or}
use Rattle.vol_spec.proofs.Told.{in_told}
use Rattle.vol_spec.specs.Grid.{cells_in}
use Rattle.vol_spec.specs.Verdicts.{Sound}
use Rattle.view_judge.specs.Answers.{JudgesView}
use Rattle.view_judge.specs.Judging.{FindsViews, cells_cost}
use Rattle.view_judge.proofs.ViewSteps.{asked_all, asked_more, asked_next, cells_all, cells_more, cells_within, next_below, next_cells, next_few, next_is, next_room, next_stands, opened_length, view_stops, views_all, views_few, views_more}
use Rattle.view_judge.proofs.WalkSteps.{IsSum, both_add, moved, moved_told}
use Rattle.view_judge.proofs.judge.judge_views.Goals as goal

pub overflow_cast-k : goal.overflow_cast-k
overflow_cast-k g c =
    let below = next_below c.args.first.now c.loop-k.first c.loop-k.further c.loop-k.k c.index-further-k.result c.args.part.now c.loop-k.invariant.first (c.loop-k.invariant.views ∙ c.requires.views) c.loop-k-test.true in
    let few = views_few c.args.first.now.scale c.args.part.now c.requires.inside c.requires.few in
    omega (arith, below, few)

pub overflow_add-k : goal.overflow_add-k
overflow_add-k g c =
    let below = next_below c.args.first.now c.loop-k.first c.loop-k.further c.loop-k.k c.index-further-k.result c.args.part.now c.loop-k.invariant.first (c.loop-k.invariant.views ∙ c.requires.views) c.loop-k-test.true in
    let few = views_few c.args.first.now.scale c.args.part.now c.requires.inside c.requires.few in
    omega (arith, below, few)

pub judge_cells-requires-clause-beside : goal.judge_cells-requires-clause-beside
judge_cells-requires-clause-beside g c = next_stands c.args.first.now c.loop-k.first c.loop-k.further c.loop-k.k c.index-further-k.result c.args.part.now c.loop-k.invariant.first (c.loop-k.invariant.views ∙ c.requires.views) c.loop-k-test.true c.requires.inside

pub judge_cells-requires-clause-few : goal.judge_cells-requires-clause-few
judge_cells-requires-clause-few g c = next_few c.args.first.now c.loop-k.first c.loop-k.further c.loop-k.k c.index-further-k.result c.args.part.now c.loop-k.invariant.first (c.loop-k.invariant.views ∙ c.requires.views) c.loop-k-test.true c.requires.few

pub judge_cells-requires-clause-found : goal.judge_cells-requires-clause-found
judge_cells-requires-clause-found g c =
    let room = next_room c.args.first.now c.loop-k.first c.loop-k.further c.loop-k.k c.index-further-k.result c.args.part.now c.loop-k.invariant.first (c.loop-k.invariant.views ∙ c.requires.views) c.loop-k-test.true (length c.args.found.now) c.requires.found in
    let same = c.loop-k.auto.found in
    omega (arith, room, same)

pub judge_cells-requires-clause-wanted : goal.judge_cells-requires-clause-wanted
judge_cells-requires-clause-wanted g c =
    let room = next_room c.args.first.now c.loop-k.first c.loop-k.further c.loop-k.k c.index-further-k.result c.args.part.now c.loop-k.invariant.first (c.loop-k.invariant.views ∙ c.requires.views) c.loop-k-test.true (length c.args.wanted.now) c.requires.wanted in
    let same = c.loop-k.auto.wanted in
    omega (arith, room, same)

pub add-report-requires : goal.add-report-requires
add-report-requires g c =
    let few = cells_within c.args.first.now.scale c.args.part.now c.loop-k.k c.loop-k.report.cells c.in-Ok.more.cells (next_below c.args.first.now c.loop-k.first c.loop-k.further c.loop-k.k c.index-further-k.result c.args.part.now c.loop-k.invariant.first (c.loop-k.invariant.views ∙ c.requires.views) c.loop-k-test.true) c.loop-k.invariant.cells
    (next_cells c.args.first.now c.loop-k.first c.loop-k.further c.loop-k.k c.index-further-k.result c.args.part.now c.loop-k.invariant.first (c.loop-k.invariant.views ∙ c.requires.views) c.loop-k-test.true c.in-Ok.more.cells c.in-Ok.ensures.cells) in
    let all = c.requires.few in
    let both = c.loop-k.invariant.both in
    let also = c.in-Ok.ensures.both in
    record { cells = omega (arith, few, all, both, also); stored = omega (arith, few, all, both, also); absent = omega (arith, few, all, both, also) }

pub loop-k-preserved : goal.loop-k-preserved
loop-k-preserved g c =
    let below = next_below c.args.first.now c.loop-k.first c.loop-k.further c.loop-k.k c.index-further-k.result c.args.part.now c.loop-k.invariant.first (c.loop-k.invariant.views ∙ c.requires.views) c.loop-k-test.true in
    let sum : IsSum c.loop-k.report c.in-Ok.more c.add-report.result = record { cells = c.add-report.ensures.cells; stored = c.add-report.ensures.stored; absent = c.add-report.ensures.absent } in
    record {
      within = omega (arith, below);
      cells = cells_more c.args.first.now.scale c.args.part.now c.loop-k.k c.loop-k.report c.in-Ok.more c.add-report.result below sum c.loop-k.invariant.cells
          (next_cells c.args.first.now c.loop-k.first c.loop-k.further c.loop-k.k c.index-further-k.result c.args.part.now c.loop-k.invariant.first (c.loop-k.invariant.views ∙ c.requires.views) c.loop-k-test.true c.in-Ok.more.cells c.in-Ok.ensures.cells);
      both = both_add c.loop-k.report c.in-Ok.more c.add-report.result sum c.loop-k.invariant.both c.in-Ok.ensures.both;
      agree = λ m told. views_more m c.args.first.now.dataset c.args.first.now.scale c.args.part.now c.loop-k.k c.loop-k.report c.in-Ok.more c.add-report.result below sum (c.loop-k.invariant.agree m told)
          (moved (λ m f r. JudgesView (Ok c.in-Ok.more) m f.dataset f.scale (c.loop-k.k + 1) r.scale c.args.part.now (cells_in r.scale c.args.part.now)) (g.S.Source.objects c.args.store.now) (g.S.Source.objects c.loop-k.store) c.loop-k.first _ c.args.first.now _ c.loop-k.invariant.kept.same_objects c.loop-k.invariant.first (next_is c.args.first.now c.loop-k.first c.loop-k.further c.loop-k.k c.index-further-k.result c.args.part.now c.loop-k.invariant.first (c.loop-k.invariant.views ∙ c.requires.views) c.loop-k-test.true)
          c.in-Ok.ensures.judged m told);
      views = ap (λ x. set c.loop-k.further c.loop-k.k x) c.judge_cells.ensures.same ∙ set-get_or c.loop-k.further c.loop-k.k c.index-further-k.result ∙ c.loop-k.invariant.views;
      first = c.judge_cells.ensures.first ∙ c.loop-k.invariant.first;
      asked = asked_more (g.S.Source.objects c.args.store.now) c.args.first.now.scale (λ m. cells_cost m c.args.first.now.dataset c.args.first.now.scale c.args.part.now) (g.S.Source.objects c.args.store.now) c.loop-k.k _ _ _ below refl c.loop-k.invariant.asked
          (moved_told (λ m f r. g.S.Source.asked c.judge_cells.new.store ≤ g.S.Source.asked c.loop-k.store + cells_cost m f.dataset f.scale c.args.part.now r.scale) (g.S.Source.objects c.args.store.now) (g.S.Source.objects c.loop-k.store) c.loop-k.first _ c.args.first.now _ c.loop-k.invariant.kept.same_objects c.loop-k.invariant.first (next_is c.args.first.now c.loop-k.first c.loop-k.further c.loop-k.k c.index-further-k.result c.args.part.now c.loop-k.invariant.first (c.loop-k.invariant.views ∙ c.requires.views) c.loop-k-test.true)
          c.judge_cells.ensures.asks.asked);
      kept = record {
        same_objects = c.judge_cells.ensures.asks.reads.kept.same_objects ∙ c.loop-k.invariant.kept.same_objects;
        same_draft = c.judge_cells.ensures.asks.reads.kept.same_draft ∙ c.loop-k.invariant.kept.same_draft;
      };
      history = c.judge_cells.ensures.asks.reads.history ∙ c.loop-k.invariant.history;
      later = c.in-Ok.ensures.asks.reads.cause.stands ∙ c.loop-k.invariant.later;
    }

pub returns-in-Err-clause-found : goal.returns-in-Err-clause-found
returns-in-Err-clause-found g c =
    in_told (g.S.Source.objects c.args.store.now) (λ m. Sound m c.args.first.now.dataset c.args.first.now.scale c.args.part.now → FindsViews (Err c.in-Err.fault) m c.args.first.now.dataset c.args.first.now.scale c.args.part.now) (λ m told sound. view_stops m c.args.first.now.dataset c.args.first.now.scale c.args.part.now c.loop-k.k c.loop-k.report c.in-Err.fault (next_below c.args.first.now c.loop-k.first c.loop-k.further c.loop-k.k c.index-further-k.result c.args.part.now c.loop-k.invariant.first (c.loop-k.invariant.views ∙ c.requires.views) c.loop-k-test.true) (c.loop-k.invariant.agree m told)
    (moved (λ m f r. JudgesView (Err c.in-Err.fault) m f.dataset f.scale (c.loop-k.k + 1) r.scale c.args.part.now (cells_in r.scale c.args.part.now)) (g.S.Source.objects c.args.store.now) (g.S.Source.objects c.loop-k.store) c.loop-k.first _ c.args.first.now _ c.loop-k.invariant.kept.same_objects c.loop-k.invariant.first (next_is c.args.first.now c.loop-k.first c.loop-k.further c.loop-k.k c.index-further-k.result c.args.part.now c.loop-k.invariant.first (c.loop-k.invariant.views ∙ c.requires.views) c.loop-k-test.true)
    c.in-Err.ensures.judged m told) sound)

pub returns-in-Err-clause-asks : goal.returns-in-Err-clause-asks
returns-in-Err-clause-asks g c = record {
  asked =
      asked_next (g.S.Source.objects c.args.store.now) c.args.first.now.scale (λ m. cells_cost m c.args.first.now.dataset c.args.first.now.scale c.args.part.now) (g.S.Source.objects c.args.store.now) c.loop-k.k _ _ _ (next_below c.args.first.now c.loop-k.first c.loop-k.further c.loop-k.k c.index-further-k.result c.args.part.now c.loop-k.invariant.first (c.loop-k.invariant.views ∙ c.requires.views) c.loop-k-test.true) refl c.loop-k.invariant.asked
      (moved_told (λ m f r. g.S.Source.asked c.judge_cells.new.store ≤ g.S.Source.asked c.loop-k.store + cells_cost m f.dataset f.scale c.args.part.now r.scale) (g.S.Source.objects c.args.store.now) (g.S.Source.objects c.loop-k.store) c.loop-k.first _ c.args.first.now _ c.loop-k.invariant.kept.same_objects c.loop-k.invariant.first (next_is c.args.first.now c.loop-k.first c.loop-k.further c.loop-k.k c.index-further-k.result c.args.part.now c.loop-k.invariant.first (c.loop-k.invariant.views ∙ c.requires.views) c.loop-k-test.true)
      c.judge_cells.ensures.asks.asked);
  reads = search rules;
}

pub returns-clause-found : goal.returns-clause-found
returns-clause-found g c =
    in_told (g.S.Source.objects c.args.store.now) (λ m. Sound m c.args.first.now.dataset c.args.first.now.scale c.args.part.now → FindsViews (Ok c.loop-k.report) m c.args.first.now.dataset c.args.first.now.scale c.args.part.now) (λ m told sound. views_all m c.args.first.now.dataset c.args.first.now.scale c.args.part.now c.loop-k.k c.loop-k.report
    (let n = opened_length c.args.first.now.dataset c.args.first.now.scale c.loop-k.further (c.loop-k.invariant.views ∙ c.requires.views) in let h = c.loop-k-test.false in omega (arith, n, h)) (c.loop-k.invariant.agree m told))

pub returns-clause-cells : goal.returns-clause-cells
returns-clause-cells g c =
    cells_all c.args.first.now.scale c.args.part.now c.loop-k.k c.loop-k.report.cells
    (let n = opened_length c.args.first.now.dataset c.args.first.now.scale c.loop-k.further (c.loop-k.invariant.views ∙ c.requires.views) in let h = c.loop-k-test.false in omega (arith, n, h)) c.loop-k.invariant.cells

pub returns-clause-asks : goal.returns-clause-asks
returns-clause-asks g c = record {
  asked = asked_all (g.S.Source.objects c.args.store.now) c.args.first.now.scale (λ m. cells_cost m c.args.first.now.dataset c.args.first.now.scale c.args.part.now) c.loop-k.k _ _ c.loop-k.invariant.asked;
  reads = search rules;
}
