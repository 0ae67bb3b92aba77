use Rattle.std.proofs.Common.{set, ◌≤◌, ◌∙◌, ◌+◌, ◌^◌, Err, Ok, ap, arith, get_or, refl, subst, rules}
use Rattle.std.proofs.lemmas.List.{set-get_or}
use borrow.Author.Count.{below_more}
use Rattle.vol_spec.proofs.Told.{in_told}
use Rattle.vol_spec.specs.Costs.{cost}
use Rattle.size_laws.specs.Further.{further}
use Rattle.view_judge.specs.Answers.{JudgesBox, JudgesBoxes}
use Rattle.view_judge.proofs.JointSteps.{asked_jointly, compared_next, first_unread, raw_same, some_views}
use Rattle.view_judge.proofs.ViewSteps.{asked_all, asked_more, asked_next, further_length, next_below, next_beside, next_inside, next_is, opened_length}
use Rattle.view_judge.proofs.WalkSteps.{moved_told}
use Rattle.view_judge.proofs.joint.judge_boxes.Goals as goal

pub returns-in-Err-clause-judged : goal.returns-in-Err-clause-judged
returns-in-Err-clause-judged g c =
    first_unread (g.S.Source.objects c.args.store.now) c.args.first.now.dataset c.args.first.now.scale c.args.part.now c.cutout.new.out c.in-Err.fault c.of_first.result (some_views c.args.first.now.dataset c.args.first.now.scale c.args.further.now c.requires.views.views c.requires.views.some) c.of_first.ensures c.in-Err.ensures.cut

pub compare-requires-clause-inside : goal.compare-requires-clause-inside
compare-requires-clause-inside g c = next_inside c.args.first.now c.args.first.now c.loop-k.further c.loop-k.k c.index-further-k.result c.args.part.now refl (c.loop-k.invariant.views ∙ c.requires.views.views) c.loop-k-test.true c.requires.views.inside

pub compare-requires-clause-found : goal.compare-requires-clause-found
compare-requires-clause-found g c = c.loop-k.auto.found ∙ c.requires.found ∙ raw_same c.args.part.now c.args.first.now.scale _ (next_beside c.args.first.now c.args.first.now c.loop-k.further c.loop-k.k c.index-further-k.result c.args.part.now refl (c.loop-k.invariant.views ∙ c.requires.views.views) c.loop-k-test.true)

pub compare-requires-clause-wanted : goal.compare-requires-clause-wanted
compare-requires-clause-wanted g c = c.cutout.auto.out ∙ c.requires.wanted ∙ raw_same c.args.part.now c.args.first.now.scale _ (next_beside c.args.first.now c.args.first.now c.loop-k.further c.loop-k.k c.index-further-k.result c.args.part.now refl (c.loop-k.invariant.views ∙ c.requires.views.views) c.loop-k-test.true)

pub compare-requires-clause-limit : goal.compare-requires-clause-limit
compare-requires-clause-limit g c = subst (λ n. n ≤ 2 ^ 30) (raw_same c.args.part.now c.args.first.now.scale _ (next_beside c.args.first.now c.args.first.now c.loop-k.further c.loop-k.k c.index-further-k.result c.args.part.now refl (c.loop-k.invariant.views ∙ c.requires.views.views) c.loop-k-test.true)) c.requires.limit

pub returns-in-Err-compare-clause-judged : goal.returns-in-Err-compare-clause-judged
returns-in-Err-compare-clause-judged g c =
    in_told (g.S.Source.objects c.args.store.now) (λ m. JudgesBoxes (Err c.in-Err-compare.fault) m c.args.first.now.dataset c.args.first.now.scale c.args.part.now) (λ m told. (
      c.loop-k.k,
      (let below = next_below c.args.first.now c.args.first.now c.loop-k.further c.loop-k.k c.index-further-k.result c.args.part.now refl (c.loop-k.invariant.views ∙ c.requires.views.views) c.loop-k-test.true in let n = further_length c.args.first.now.scale in omega (arith, below, n)),
      compared_next (g.S.Source.objects c.args.store.now) (g.S.Source.objects c.loop-k.store) c.args.first.now _ c.loop-k.k c.args.part.now c.cutout.new.out (Err c.in-Err-compare.fault) (next_below c.args.first.now c.args.first.now c.loop-k.further c.loop-k.k c.index-further-k.result c.args.part.now refl (c.loop-k.invariant.views ∙ c.requires.views.views) c.loop-k-test.true) c.loop-k.invariant.kept.same_objects (next_is c.args.first.now c.args.first.now c.loop-k.further c.loop-k.k c.index-further-k.result c.args.part.now refl (c.loop-k.invariant.views ∙ c.requires.views.views) c.loop-k-test.true)
          c.in-Ok.ensures.cut c.in-Err-compare.ensures.judged m told,
    ))

pub returns-in-Err-compare-clause-asks : goal.returns-in-Err-compare-clause-asks
returns-in-Err-compare-clause-asks g c = record {
  asked =
      asked_jointly (g.S.Source.objects c.args.store.now) c.args.first.now.dataset c.args.first.now.scale c.args.part.now _ _ _ (some_views c.args.first.now.dataset c.args.first.now.scale c.args.further.now c.requires.views.views c.requires.views.some) c.cutout.ensures.asked
      (asked_next (g.S.Source.objects c.args.store.now) c.args.first.now.scale (λ m v. cost m c.args.first.now.dataset v c.args.part.now) (g.S.Source.objects c.args.store.now) c.loop-k.k _ _ _ (next_below c.args.first.now c.args.first.now c.loop-k.further c.loop-k.k c.index-further-k.result c.args.part.now refl (c.loop-k.invariant.views ∙ c.requires.views.views) c.loop-k-test.true) refl c.loop-k.invariant.asked
      (moved_told (λ m f r. g.S.Source.asked c.compare.new.store ≤ g.S.Source.asked c.loop-k.store + cost m r.dataset r.scale c.args.part.now) (g.S.Source.objects c.args.store.now) (g.S.Source.objects c.loop-k.store) c.args.first.now _ c.args.first.now _ c.loop-k.invariant.kept.same_objects refl (next_is c.args.first.now c.args.first.now c.loop-k.further c.loop-k.k c.index-further-k.result c.args.part.now refl (c.loop-k.invariant.views ∙ c.requires.views.views) c.loop-k-test.true)
      c.compare.ensures.asks.asked));
  reads = search rules;
}

pub loop-k-preserved : goal.loop-k-preserved
loop-k-preserved g c =
    let below = next_below c.args.first.now c.args.first.now c.loop-k.further c.loop-k.k c.index-further-k.result c.args.part.now refl (c.loop-k.invariant.views ∙ c.requires.views.views) c.loop-k-test.true in
    record {
      within = omega (arith, below);
      agree = λ m told.
          below_more (λ i. JudgesBox (Ok tt) m c.args.first.now.dataset c.args.first.now.scale (i + 1) (get_or (further c.args.first.now.scale) i c.args.first.now.scale) c.args.part.now) c.loop-k.k (c.loop-k.invariant.agree m told)
          (compared_next (g.S.Source.objects c.args.store.now) (g.S.Source.objects c.loop-k.store) c.args.first.now _ c.loop-k.k c.args.part.now c.cutout.new.out (Ok tt) (next_below c.args.first.now c.args.first.now c.loop-k.further c.loop-k.k c.index-further-k.result c.args.part.now refl (c.loop-k.invariant.views ∙ c.requires.views.views) c.loop-k-test.true) c.loop-k.invariant.kept.same_objects (next_is c.args.first.now c.args.first.now c.loop-k.further c.loop-k.k c.index-further-k.result c.args.part.now refl (c.loop-k.invariant.views ∙ c.requires.views.views) c.loop-k-test.true)
          c.in-Ok.ensures.cut c.in-Ok-compare.ensures.judged m told);
      views = ap (λ x. set c.loop-k.further c.loop-k.k x) c.compare.ensures.same ∙ set-get_or c.loop-k.further c.loop-k.k c.index-further-k.result ∙ c.loop-k.invariant.views;
      asked =
          asked_more (g.S.Source.objects c.args.store.now) c.args.first.now.scale (λ m v. cost m c.args.first.now.dataset v c.args.part.now) (g.S.Source.objects c.args.store.now) c.loop-k.k _ _ _ below refl c.loop-k.invariant.asked
          (moved_told (λ m f r. g.S.Source.asked c.compare.new.store ≤ g.S.Source.asked c.loop-k.store + cost m r.dataset r.scale c.args.part.now) (g.S.Source.objects c.args.store.now) (g.S.Source.objects c.loop-k.store) c.args.first.now _ c.args.first.now _ c.loop-k.invariant.kept.same_objects refl (next_is c.args.first.now c.args.first.now c.loop-k.further c.loop-k.k c.index-further-k.result c.args.part.now refl (c.loop-k.invariant.views ∙ c.requires.views.views) c.loop-k-test.true)
          c.compare.ensures.asks.asked);
      kept = record {
        same_objects = c.compare.ensures.asks.reads.kept.same_objects ∙ c.loop-k.invariant.kept.same_objects;
        same_draft = c.compare.ensures.asks.reads.kept.same_draft ∙ c.loop-k.invariant.kept.same_draft;
      };
      history = c.compare.ensures.asks.reads.history ∙ c.loop-k.invariant.history;
      later = c.in-Ok-compare.ensures.asks.reads.cause.stands ∙ c.loop-k.invariant.later;
    }

pub returns-clause-judged : goal.returns-clause-judged
returns-clause-judged g c =
    in_told (g.S.Source.objects c.args.store.now) (λ m. JudgesBoxes (Ok tt) m c.args.first.now.dataset c.args.first.now.scale c.args.part.now) (λ m told k l.
    c.loop-k.invariant.agree m told k
    (let n = further_length c.args.first.now.scale in
    let len = opened_length c.args.first.now.dataset c.args.first.now.scale c.loop-k.further (c.loop-k.invariant.views ∙ c.requires.views.views) in
    let end = c.loop-k-test.false in
    omega (arith, l, n, len, end)))

pub returns-clause-asks : goal.returns-clause-asks
returns-clause-asks g c = record {
  asked =
      asked_jointly (g.S.Source.objects c.args.store.now) c.args.first.now.dataset c.args.first.now.scale c.args.part.now _ _ _ (some_views c.args.first.now.dataset c.args.first.now.scale c.args.further.now c.requires.views.views c.requires.views.some) c.cutout.ensures.asked
      (asked_all (g.S.Source.objects c.args.store.now) c.args.first.now.scale (λ m v. cost m c.args.first.now.dataset v c.args.part.now) c.loop-k.k _ _ c.loop-k.invariant.asked);
  reads = search rules;
}
