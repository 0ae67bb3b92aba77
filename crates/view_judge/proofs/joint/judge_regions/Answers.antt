use Rattle.std.proofs.Common.{◌≤◌, ◌∙◌, ◌+◌, Err, Ok, ap, refl, subst, sym, rules, arith}
use Rattle.std.proofs.lemmas.List.Elements.{All-contains, All-nil, All-push}
use Rattle.vol_spec.proofs.Told.{in_told}
use Rattle.vol_spec.specs.Grid.{cell_box, cells_in, Inside, IsCell, Meets}
use Rattle.vol_spec.specs.declared.scale.Scale.{Scale}
use Rattle.chunk_grid.proofs.Walked.{at_end, here, one_on}
use Rattle.size_laws.specs.Findings.{common}
use Rattle.view_judge.specs.Answers.{AllAgree, IsWrong, JudgesBoxes}
use Rattle.cutout.specs.Opened.{Opened}
use Rattle.view_judge.specs.Further.{AreOpened}
use Rattle.view_judge.specs.Judging.{region_cost}
use Rattle.view_judge.specs.Regions.{regions}
use Rattle.view_judge.proofs.CellSteps.{beside_inside_back}
use Rattle.view_judge.proofs.JointSteps.{wrong_here}
use Rattle.view_judge.proofs.RegionSteps.{regions_beside}
use Rattle.view_judge.proofs.WalkSteps.{asked_all, asked_more, asked_next, asked_none, moved, moved_told}
use Rattle.view_judge.proofs.joint.judge_regions.Goals as goal

pub cells-region-items-requires : goal.cells-region-items-requires
cells-region-items-requires g c =
    subst (λ (r : Scale). Inside r c.args.part.now) (sym c.requires.regions)
    (beside_inside_back c.args.first.now.scale (regions c.args.first.now.scale) c.args.part.now (regions_beside c.args.first.now.scale) c.requires.views.inside)

pub loop-region-init : goal.loop-region-init
loop-region-init g c = record {
  left = c.into_iter-region-iterator.ensures.into_iter_gives ∙ c.cells-region-items.ensures;
  agree = λ m told. All-nil (λ region. JudgesBoxes (Ok tt) m c.args.first.now.dataset c.args.first.now.scale (common (cell_box (regions c.args.first.now.scale) region) c.args.part.now));
  first = refl;
  further = refl;
  asked = asked_none (g.S.Source.objects c.args.store.now) (λ m. region_cost m c.args.first.now.dataset c.args.first.now.scale c.args.part.now) (g.S.Source.asked c.args.store.now);
  kept = record { same_objects = refl; same_draft = refl };
  history = refl;
  later = refl;
}

pub judge_region-requires-clause-views : goal.judge_region-requires-clause-views
judge_region-requires-clause-views g c =
    subst (λ (r : Opened). AreOpened r c.loop-region.further c.args.part.now) (sym c.loop-region.invariant.first)
    (subst (λ further. AreOpened c.args.first.now further c.args.part.now) (sym c.loop-region.invariant.further) c.requires.views)

pub judge_region-requires-clause-region : goal.judge_region-requires-clause-region
judge_region-requires-clause-region g c =
    All-contains (IsCell c.args.regions.now) (cells_in c.args.regions.now c.args.part.now) c.in-Some.region c.tell_cells.ensures.in_grid
    (here c.loop-region.yielded c.loop-region.region-iterator c.next.new.self (cells_in c.args.regions.now c.args.part.now) c.in-Some.region c.in-Some.ensures.steps c.loop-region.invariant.left)

pub judge_region-requires-clause-meets : goal.judge_region-requires-clause-meets
judge_region-requires-clause-meets g c =
    (All-contains (λ region. Meets c.args.regions.now region c.args.part.now) (cells_in c.args.regions.now c.args.part.now) c.in-Some.region c.tell_cells.ensures.meet
    (here c.loop-region.yielded c.loop-region.region-iterator c.next.new.self (cells_in c.args.regions.now c.args.part.now) c.in-Some.region c.in-Some.ensures.steps c.loop-region.invariant.left))

pub loop-region-preserved : goal.loop-region-preserved
loop-region-preserved g c = record {
  left = one_on c.loop-region.yielded c.loop-region.region-iterator c.next.new.self (cells_in c.args.regions.now c.args.part.now) c.in-Some.region c.in-Some.ensures.steps c.loop-region.invariant.left;
  agree = λ m told.
      All-push (λ region. JudgesBoxes (Ok tt) m c.args.first.now.dataset c.args.first.now.scale (common (cell_box (regions c.args.first.now.scale) region) c.args.part.now)) c.loop-region.yielded c.in-Some.region (c.loop-region.invariant.agree m told)
      (moved (λ m f r. JudgesBoxes (Ok tt) m f.dataset f.scale (common (cell_box (regions f.scale) c.in-Some.region) c.args.part.now)) (g.S.Source.objects c.args.store.now) (g.S.Source.objects c.loop-region.store) c.loop-region.first c.loop-region.first c.args.first.now c.args.first.now c.loop-region.invariant.kept.same_objects c.loop-region.invariant.first c.loop-region.invariant.first
      c.in-Ok.ensures.judged m told);
  first = c.judge_region.ensures.first ∙ c.loop-region.invariant.first;
  further = c.judge_region.ensures.further ∙ c.loop-region.invariant.further;
  asked =
      asked_more (g.S.Source.objects c.args.store.now) (λ m. region_cost m c.args.first.now.dataset c.args.first.now.scale c.args.part.now) (g.S.Source.objects c.args.store.now) c.loop-region.yielded c.in-Some.region _ _ _ refl c.loop-region.invariant.asked
      (moved_told (λ m f r. g.S.Source.asked c.judge_region.new.store ≤ g.S.Source.asked c.loop-region.store + region_cost m f.dataset f.scale c.args.part.now c.in-Some.region) (g.S.Source.objects c.args.store.now) (g.S.Source.objects c.loop-region.store) c.loop-region.first c.loop-region.first c.args.first.now c.args.first.now c.loop-region.invariant.kept.same_objects c.loop-region.invariant.first c.loop-region.invariant.first c.judge_region.ensures.asks.asked);
  kept = record {
    same_objects = c.judge_region.ensures.asks.reads.kept.same_objects ∙ c.loop-region.invariant.kept.same_objects;
    same_draft = c.judge_region.ensures.asks.reads.kept.same_draft ∙ c.loop-region.invariant.kept.same_draft;
  };
  history = c.judge_region.ensures.asks.reads.history ∙ c.loop-region.invariant.history;
  later = c.in-Ok.ensures.asks.reads.cause.stands ∙ c.loop-region.invariant.later;
}

pub returns-in-Err-clause-judged : goal.returns-in-Err-clause-judged
returns-in-Err-clause-judged g c =
    in_told (g.S.Source.objects c.args.store.now) (λ m. IsWrong m c.args.first.now.dataset c.args.first.now.scale c.args.part.now c.in-Err.wrong) (λ m told.
    wrong_here m c.args.first.now.dataset c.args.first.now.scale c.args.part.now c.in-Some.region c.in-Err.wrong
    (subst (λ (r : Scale). Meets r c.in-Some.region c.args.part.now) c.requires.regions
    (All-contains (λ region. Meets c.args.regions.now region c.args.part.now) (cells_in c.args.regions.now c.args.part.now) c.in-Some.region c.tell_cells.ensures.meet
    (here c.loop-region.yielded c.loop-region.region-iterator c.next.new.self (cells_in c.args.regions.now c.args.part.now) c.in-Some.region c.in-Some.ensures.steps c.loop-region.invariant.left)))
    (moved (λ m f r. JudgesBoxes (Err c.in-Err.wrong) m f.dataset f.scale (common (cell_box (regions f.scale) c.in-Some.region) c.args.part.now)) (g.S.Source.objects c.args.store.now) (g.S.Source.objects c.loop-region.store) c.loop-region.first c.loop-region.first c.args.first.now c.args.first.now c.loop-region.invariant.kept.same_objects c.loop-region.invariant.first c.loop-region.invariant.first
    c.in-Err.ensures.judged m told))

pub returns-in-Err-clause-asks : goal.returns-in-Err-clause-asks
returns-in-Err-clause-asks g c = record {
  asked =
      asked_next (g.S.Source.objects c.args.store.now) (λ m. region_cost m c.args.first.now.dataset c.args.first.now.scale c.args.part.now) (g.S.Source.objects c.args.store.now) c.loop-region.yielded c.loop-region.region-iterator c.next.new.self (cells_in (regions c.args.first.now.scale) c.args.part.now) c.in-Some.region _ _ _ refl c.in-Some.ensures.steps
      (c.loop-region.invariant.left ∙ ap (λ (r : Scale). cells_in r c.args.part.now) c.requires.regions) c.loop-region.invariant.asked
      (moved_told (λ m f r. g.S.Source.asked c.judge_region.new.store ≤ g.S.Source.asked c.loop-region.store + region_cost m f.dataset f.scale c.args.part.now c.in-Some.region) (g.S.Source.objects c.args.store.now) (g.S.Source.objects c.loop-region.store) c.loop-region.first c.loop-region.first c.args.first.now c.args.first.now c.loop-region.invariant.kept.same_objects c.loop-region.invariant.first c.loop-region.invariant.first c.judge_region.ensures.asks.asked);
  reads = search rules;
}

pub returns-clause-judged : goal.returns-clause-judged
returns-clause-judged g c =
    in_told (g.S.Source.objects c.args.store.now) (λ m. AllAgree m c.args.first.now.dataset c.args.first.now.scale c.args.part.now (cells_in (regions c.args.first.now.scale) c.args.part.now)) (λ m told.
    subst (AllAgree m c.args.first.now.dataset c.args.first.now.scale c.args.part.now)
    (at_end c.loop-region.yielded c.loop-region.region-iterator (cells_in c.args.regions.now c.args.part.now) c.in-None.ensures.steps.0 c.loop-region.invariant.left
    ∙ ap (λ (r : Scale). cells_in r c.args.part.now) c.requires.regions) (c.loop-region.invariant.agree m told))

pub returns-clause-asks : goal.returns-clause-asks
returns-clause-asks g c = record {
  asked =
      asked_all (g.S.Source.objects c.args.store.now) (λ m. region_cost m c.args.first.now.dataset c.args.first.now.scale c.args.part.now) c.loop-region.yielded c.loop-region.region-iterator (cells_in (regions c.args.first.now.scale) c.args.part.now) _ _
      (c.loop-region.invariant.left ∙ ap (λ (r : Scale). cells_in r c.args.part.now) c.requires.regions) c.loop-region.invariant.asked;
  reads = record { kept = c.loop-region.invariant.kept; history = c.loop-region.invariant.history; cause = record { later = omega (arith, c.loop-region.invariant.later); failed = λ told. absurd (cc told); stands = c.loop-region.invariant.later } };
}
