use Rattle.std.proofs.Common.{set, ◌≤◌, ◌∙◌, ◌+◌, Err, Ok, ap, arith, get_or, length, refl, sym, rules}
use Rattle.std.proofs.lemmas.List.{set-get_or}
use borrow.Author.Count.{below_more}
use Rattle.vol_spec.proofs.Told.{in_told}
use Rattle.cutout.specs.Opened.{Opened}
use Rattle.size_laws.specs.Further.{further}
use Rattle.view_judge.specs.Answers.{AgreesSo, ComparesAll, IsWrong, JudgesOwn}
use Rattle.view_judge.specs.Judging.{own_cost}
use Rattle.view_judge.specs.Regions.{own_regions}
use Rattle.view_judge.proofs.RegionSteps.{own_beside}
use Rattle.view_judge.proofs.ViewSteps.{asked_all, asked_more, asked_next, further_length, next_below, next_is, next_own, next_stands, opened_length}
use Rattle.view_judge.proofs.WalkSteps.{moved, moved_told}
use Rattle.view_judge.proofs.joint.judge_apart.Goals as goal

pub judge_own-requires-clause-beside : goal.judge_own-requires-clause-beside
judge_own-requires-clause-beside g c = next_stands c.args.first.now c.loop-number.first c.loop-number.further c.loop-number.number c.index-further-number.result c.args.part.now c.loop-number.invariant.first (c.loop-number.invariant.views ∙ c.requires.views) c.loop-number-test.true c.requires.inside

pub judge_own-requires-clause-scale : goal.judge_own-requires-clause-scale
judge_own-requires-clause-scale g c = c.requires.scale ∙ ap (λ (r : Opened). r.scale) (sym c.loop-number.invariant.first)

pub judge_own-requires-clause-found : goal.judge_own-requires-clause-found
judge_own-requires-clause-found g c =
    let room = next_own c.args.first.now c.loop-number.first c.loop-number.further c.loop-number.number c.index-further-number.result c.args.part.now c.loop-number.invariant.first (c.loop-number.invariant.views ∙ c.requires.views) c.loop-number-test.true (length c.args.found.now) c.requires.found in
    let same = c.loop-number.auto.found in
    omega (arith, room, same)

pub judge_own-requires-clause-wanted : goal.judge_own-requires-clause-wanted
judge_own-requires-clause-wanted g c =
    let room = next_own c.args.first.now c.loop-number.first c.loop-number.further c.loop-number.number c.index-further-number.result c.args.part.now c.loop-number.invariant.first (c.loop-number.invariant.views ∙ c.requires.views) c.loop-number-test.true (length c.args.wanted.now) c.requires.wanted in
    let same = c.loop-number.auto.wanted in
    omega (arith, room, same)

pub loop-number-preserved : goal.loop-number-preserved
loop-number-preserved g c =
    let below = next_below c.args.first.now c.loop-number.first c.loop-number.further c.loop-number.number c.index-further-number.result c.args.part.now c.loop-number.invariant.first (c.loop-number.invariant.views ∙ c.requires.views) c.loop-number-test.true in
    record {
      within = omega (arith, below);
      agree = λ m told.
          below_more (λ i. AgreesSo m c.args.first.now.dataset c.args.first.now.scale (i + 1) (get_or (further c.args.first.now.scale) i c.args.first.now.scale) c.args.part.now) c.loop-number.number (c.loop-number.invariant.agree m told)
          (record {
            grid = own_regions c.args.first.now.scale (get_or (further c.args.first.now.scale) c.loop-number.number c.args.first.now.scale);
            beside = own_beside c.args.first.now.scale (get_or (further c.args.first.now.scale) c.loop-number.number c.args.first.now.scale);
            agree = moved (λ m f r. JudgesOwn (Ok tt) m f.dataset f.scale (c.loop-number.number + 1) r.scale (own_regions f.scale r.scale) c.args.part.now) (g.S.Source.objects c.args.store.now) (g.S.Source.objects c.loop-number.store) c.loop-number.first _ c.args.first.now _ c.loop-number.invariant.kept.same_objects c.loop-number.invariant.first (next_is c.args.first.now c.loop-number.first c.loop-number.further c.loop-number.number c.index-further-number.result c.args.part.now c.loop-number.invariant.first (c.loop-number.invariant.views ∙ c.requires.views) c.loop-number-test.true)
                c.in-Ok.ensures.judged m told;
          });
      views = ap (λ x. set c.loop-number.further c.loop-number.number x) c.judge_own.ensures.same ∙ set-get_or c.loop-number.further c.loop-number.number c.index-further-number.result ∙ c.loop-number.invariant.views;
      first = c.judge_own.ensures.first ∙ c.loop-number.invariant.first;
      asked =
          asked_more (g.S.Source.objects c.args.store.now) c.args.first.now.scale (λ m. own_cost m c.args.first.now.dataset c.args.first.now.scale c.args.part.now) (g.S.Source.objects c.args.store.now) c.loop-number.number _ _ _ below refl c.loop-number.invariant.asked
          (moved_told (λ m f r. g.S.Source.asked c.judge_own.new.store ≤ g.S.Source.asked c.loop-number.store + own_cost m f.dataset f.scale c.args.part.now r.scale) (g.S.Source.objects c.args.store.now) (g.S.Source.objects c.loop-number.store) c.loop-number.first _ c.args.first.now _ c.loop-number.invariant.kept.same_objects c.loop-number.invariant.first (next_is c.args.first.now c.loop-number.first c.loop-number.further c.loop-number.number c.index-further-number.result c.args.part.now c.loop-number.invariant.first (c.loop-number.invariant.views ∙ c.requires.views) c.loop-number-test.true)
          c.judge_own.ensures.asks.asked);
      kept = record {
        same_objects = c.judge_own.ensures.asks.reads.kept.same_objects ∙ c.loop-number.invariant.kept.same_objects;
        same_draft = c.judge_own.ensures.asks.reads.kept.same_draft ∙ c.loop-number.invariant.kept.same_draft;
      };
      history = c.judge_own.ensures.asks.reads.history ∙ c.loop-number.invariant.history;
      later = c.in-Ok.ensures.asks.reads.cause.stands ∙ c.loop-number.invariant.later;
    }

pub returns-in-Err-clause-judged : goal.returns-in-Err-clause-judged
returns-in-Err-clause-judged g c =
    in_told (g.S.Source.objects c.args.store.now) (λ m. IsWrong m c.args.first.now.dataset c.args.first.now.scale c.args.part.now c.in-Err.fault) (λ m told.
    let wrong = moved (λ m f r. JudgesOwn (Err c.in-Err.fault) m f.dataset f.scale (c.loop-number.number + 1) r.scale (own_regions f.scale r.scale) c.args.part.now) (g.S.Source.objects c.args.store.now) (g.S.Source.objects c.loop-number.store) c.loop-number.first _ c.args.first.now _ c.loop-number.invariant.kept.same_objects c.loop-number.invariant.first (next_is c.args.first.now c.loop-number.first c.loop-number.further c.loop-number.number c.index-further-number.result c.args.part.now c.loop-number.invariant.first (c.loop-number.invariant.views ∙ c.requires.views) c.loop-number-test.true)
    c.in-Err.ensures.judged m told in
    record { region = wrong.0; some = wrong.1; within = wrong.2; judged = (c.loop-number.number, (let below = next_below c.args.first.now c.loop-number.first c.loop-number.further c.loop-number.number c.index-further-number.result c.args.part.now c.loop-number.invariant.first (c.loop-number.invariant.views ∙ c.requires.views) c.loop-number-test.true in let n = further_length c.args.first.now.scale in omega (arith, below, n)), wrong.3) })

pub returns-in-Err-clause-asks : goal.returns-in-Err-clause-asks
returns-in-Err-clause-asks g c = record {
  asked =
      asked_next (g.S.Source.objects c.args.store.now) c.args.first.now.scale (λ m. own_cost m c.args.first.now.dataset c.args.first.now.scale c.args.part.now) (g.S.Source.objects c.args.store.now) c.loop-number.number _ _ _ (next_below c.args.first.now c.loop-number.first c.loop-number.further c.loop-number.number c.index-further-number.result c.args.part.now c.loop-number.invariant.first (c.loop-number.invariant.views ∙ c.requires.views) c.loop-number-test.true) refl c.loop-number.invariant.asked
      (moved_told (λ m f r. g.S.Source.asked c.judge_own.new.store ≤ g.S.Source.asked c.loop-number.store + own_cost m f.dataset f.scale c.args.part.now r.scale) (g.S.Source.objects c.args.store.now) (g.S.Source.objects c.loop-number.store) c.loop-number.first _ c.args.first.now _ c.loop-number.invariant.kept.same_objects c.loop-number.invariant.first (next_is c.args.first.now c.loop-number.first c.loop-number.further c.loop-number.number c.index-further-number.result c.args.part.now c.loop-number.invariant.first (c.loop-number.invariant.views ∙ c.requires.views) c.loop-number-test.true)
      c.judge_own.ensures.asks.asked);
  reads = search rules;
}

pub returns-clause-judged : goal.returns-clause-judged
returns-clause-judged g c =
    in_told (g.S.Source.objects c.args.store.now) (λ m. ComparesAll (Ok tt) m c.args.first.now.dataset c.args.first.now.scale c.args.part.now) (λ m told k l.
    c.loop-number.invariant.agree m told k
    (let n = further_length c.args.first.now.scale in
    let len = opened_length c.args.first.now.dataset c.args.first.now.scale c.loop-number.further (c.loop-number.invariant.views ∙ c.requires.views) in
    let end = c.loop-number-test.false in
    omega (arith, l, n, len, end)))

pub returns-clause-asks : goal.returns-clause-asks
returns-clause-asks g c = record {
  asked = asked_all (g.S.Source.objects c.args.store.now) c.args.first.now.scale (λ m. own_cost m c.args.first.now.dataset c.args.first.now.scale c.args.part.now) c.loop-number.number _ _ c.loop-number.invariant.asked;
  reads = record { kept = c.loop-number.invariant.kept; history = c.loop-number.invariant.history; cause = record { later = omega (arith, c.loop-number.invariant.later); failed = λ told. absurd (cc told); stands = c.loop-number.invariant.later } };
}
