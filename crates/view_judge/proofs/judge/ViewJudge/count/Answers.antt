use Rattle.std.proofs.Common.{◌∙◌, ap, arith}
use Rattle.vol_spec.proofs.Told.{in_told}
use Rattle.cutout.specs.Opened.{Opened}
use Rattle.size_laws.specs.Further.{further}
use Rattle.view_judge.specs.Answers.{AreAllNamed}
use Rattle.view_judge.specs.Further.{all_opened}
use Rattle.view_judge.proofs.JointSteps.{all_named, item_below, item_cells, item_few, item_inside, item_named, named_views}
use Rattle.view_judge.proofs.ViewSteps.{cells_more, cells_within, opened_length}
use Rattle.view_judge.proofs.WalkSteps.{IsSum, both_add}
use Rattle.view_judge.proofs.judge.ViewJudge.count.Goals as goal

pub count-requires-clause-inside : goal.count-requires-clause-inside
count-requires-clause-inside g c = item_inside c.args.self.now.dataset c.args.self.now.scale c.deref-view-items.result.now c.loop-view.view-index c.view-item.result c.args.part.now (c.deref-view-items.ensures.value ∙ c.self.invariant.views ∙ ap (λ (r : Opened). all_opened r.dataset r.scale) c.self.view_is) c.loop-view-test.true c.view-item.is c.requires.inside

pub count-requires-clause-few : goal.count-requires-clause-few
count-requires-clause-few g c = item_few c.args.self.now.dataset c.args.self.now.scale c.deref-view-items.result.now c.loop-view.view-index c.view-item.result c.args.part.now (c.deref-view-items.ensures.value ∙ c.self.invariant.views ∙ ap (λ (r : Opened). all_opened r.dataset r.scale) c.self.view_is) c.loop-view-test.true c.view-item.is c.requires.few

pub add-report-requires : goal.add-report-requires
add-report-requires g c =
    let few = cells_within c.args.self.now.scale c.args.part.now c.loop-view.view-index c.loop-view.report.cells c.in-Ok.more.cells (item_below c.args.self.now.dataset c.args.self.now.scale c.deref-view-items.result.now c.loop-view.view-index c.view-item.result c.args.part.now (c.deref-view-items.ensures.value ∙ c.self.invariant.views ∙ ap (λ (r : Opened). all_opened r.dataset r.scale) c.self.view_is) c.loop-view-test.true c.view-item.is) c.loop-view.invariant.cells
    (item_cells c.args.self.now.dataset c.args.self.now.scale c.deref-view-items.result.now c.loop-view.view-index c.view-item.result c.args.part.now (c.deref-view-items.ensures.value ∙ c.self.invariant.views ∙ ap (λ (r : Opened). all_opened r.dataset r.scale) c.self.view_is) c.loop-view-test.true c.view-item.is c.in-Ok.more.cells c.in-Ok.ensures.cells) in
    let all = c.requires.few in
    let both = c.loop-view.invariant.both in
    let also = c.in-Ok.ensures.both in
    record { cells = omega (arith, few, all, both, also); stored = omega (arith, few, all, both, also); absent = omega (arith, few, all, both, also) }

pub loop-view-preserved : goal.loop-view-preserved
loop-view-preserved g c =
    let below = item_below c.args.self.now.dataset c.args.self.now.scale c.deref-view-items.result.now c.loop-view.view-index c.view-item.result c.args.part.now (c.deref-view-items.ensures.value ∙ c.self.invariant.views ∙ ap (λ (r : Opened). all_opened r.dataset r.scale) c.self.view_is) c.loop-view-test.true c.view-item.is in
    let sum : IsSum c.loop-view.report c.in-Ok.more c.add-report.result = record { cells = c.add-report.ensures.cells; stored = c.add-report.ensures.stored; absent = c.add-report.ensures.absent } in
    record {
      within = omega (arith, below);
      cells =
          cells_more c.args.self.now.scale c.args.part.now c.loop-view.view-index c.loop-view.report c.in-Ok.more c.add-report.result below sum c.loop-view.invariant.cells
          (item_cells c.args.self.now.dataset c.args.self.now.scale c.deref-view-items.result.now c.loop-view.view-index c.view-item.result c.args.part.now (c.deref-view-items.ensures.value ∙ c.self.invariant.views ∙ ap (λ (r : Opened). all_opened r.dataset r.scale) c.self.view_is) c.loop-view-test.true c.view-item.is c.in-Ok.more.cells c.in-Ok.ensures.cells);
      both = both_add c.loop-view.report c.in-Ok.more c.add-report.result sum c.loop-view.invariant.both c.in-Ok.ensures.both;
      named = λ m told.
          named_views m c.args.self.now.dataset c.args.self.now.scale c.args.part.now c.loop-view.view-index c.loop-view.report c.in-Ok.more c.add-report.result below sum (c.loop-view.invariant.named m told)
          (item_named c.args.self.now.dataset c.args.self.now.scale c.deref-view-items.result.now c.loop-view.view-index c.view-item.result c.args.part.now (c.deref-view-items.ensures.value ∙ c.self.invariant.views ∙ ap (λ (r : Opened). all_opened r.dataset r.scale) c.self.view_is) c.loop-view-test.true c.view-item.is (g.S.Source.objects c.args.store.now) (g.S.Source.objects c.loop-view.store) c.in-Ok.more
          c.loop-view.invariant.kept.same_objects c.in-Ok.ensures.named m told);
      asked = c.count.ensures.asked ∙ c.loop-view.invariant.asked;
      kept = record {
        same_objects = c.count.ensures.reads.kept.same_objects ∙ c.loop-view.invariant.kept.same_objects;
        same_draft = c.count.ensures.reads.kept.same_draft ∙ c.loop-view.invariant.kept.same_draft;
      };
      history = c.count.ensures.reads.history ∙ c.loop-view.invariant.history;
      later = c.in-Ok.ensures.reads.cause.stands ∙ c.loop-view.invariant.later;
    }

pub returns-clause-named : goal.returns-clause-named
returns-clause-named g c =
    in_told (g.S.Source.objects c.args.store.now) (λ m. AreAllNamed m c.args.self.now.dataset c.args.part.now (further c.args.self.now.scale) c.loop-view.report) (λ m told.
    all_named m c.args.self.now.dataset c.args.self.now.scale c.args.part.now c.loop-view.view-index c.loop-view.report
    (let len = opened_length c.args.self.now.dataset c.args.self.now.scale c.deref-view-items.result.now (c.deref-view-items.ensures.value ∙ c.self.invariant.views ∙ ap (λ (r : Opened). all_opened r.dataset r.scale) c.self.view_is) in
    let end = c.loop-view-test.false in
    omega (arith, len, end)) (c.loop-view.invariant.named m told))
