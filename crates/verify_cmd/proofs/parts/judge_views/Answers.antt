use Rattle.std.proofs.Common.{Ok, Err, ◌∙◌, ◌≤◌, ◌^◌, arith, ap, rules, subst, sym}
use Rattle.vol_spec.proofs.Told.{from_told, in_told}
use Rattle.vol_spec.specs.Grid.{Inside}
use Rattle.size_laws.specs.Further.{further}
use Rattle.view_judge.specs.Judging.{cells_of}
use Rattle.verify_cmd.specs.declared.report.Report.{Report}
use Rattle.verify_cmd.proofs.AskedSteps.{asked_cells, asked_views}
use Rattle.verify_cmd.proofs.ViewSteps.{all_cells, few_cells, found_of, joined_sound, view_refused}
use Rattle.verify_cmd.proofs.parts.judge_views.Goals as goal

pub judge_cells-requires-clause-few : goal.judge_cells-requires-clause-few
judge_cells-requires-clause-few g c = let all = all_cells c.args.origin.now.scale c.args.part.now in omega (arith, all, c.requires.few)

pub judge-requires-clause-inside : goal.judge-requires-clause-inside
judge-requires-clause-inside g c = subst (λ s. Inside s c.args.part.now) (sym c.requires.of_scale) c.requires.inside

pub judge-requires-clause-few : goal.judge-requires-clause-few
judge-requires-clause-few g c =
    let all = all_cells c.args.origin.now.scale c.args.part.now in
    subst (λ s. cells_of (further s) c.args.part.now ≤ 2 ^ 22) (sym c.requires.of_scale) (omega (arith, all, c.requires.few))

pub join_reports-requires-clause-cells : goal.join_reports-requires-clause-cells
join_reports-requires-clause-cells g c =
    let few = few_cells c.args.origin.now.scale c.args.part.now c.in-Ok.first.cells c.in-Ok-judge.found.cells c.in-Ok.ensures.counts.cells (c.in-Ok-judge.ensures.cells ∙ ap (λ s. cells_of (further s) c.args.part.now) c.requires.of_scale) c.requires.few in
    omega (arith, few)

pub join_reports-requires-clause-stored : goal.join_reports-requires-clause-stored
join_reports-requires-clause-stored g c =
    let few = few_cells c.args.origin.now.scale c.args.part.now c.in-Ok.first.cells c.in-Ok-judge.found.cells c.in-Ok.ensures.counts.cells (c.in-Ok-judge.ensures.cells ∙ ap (λ s. cells_of (further s) c.args.part.now) c.requires.of_scale) c.requires.few in
    omega (arith, few, c.in-Ok.ensures.counts.both, c.in-Ok-judge.ensures.both)

pub join_reports-requires-clause-absent : goal.join_reports-requires-clause-absent
join_reports-requires-clause-absent g c =
    let few = few_cells c.args.origin.now.scale c.args.part.now c.in-Ok.first.cells c.in-Ok-judge.found.cells c.in-Ok.ensures.counts.cells (c.in-Ok-judge.ensures.cells ∙ ap (λ s. cells_of (further s) c.args.part.now) c.requires.of_scale) c.requires.few in
    omega (arith, few, c.in-Ok.ensures.counts.both, c.in-Ok-judge.ensures.both)

pub returns-in-Ok-judge-clause-verified : goal.returns-in-Ok-judge-clause-verified
returns-in-Ok-judge-clause-verified g c =
    in_told _ _ (λ m told.
    let first = from_told _ _ m told c.in-Ok.ensures.judged in
    joined_sound m c.args.origin.now.dataset c.args.origin.now.scale c.args.part.now c.requires.inside c.in-Ok.first first c.in-Ok-judge.found c.join_reports.result c.join_reports.ensures
    (c.in-Ok-judge.ensures.cells ∙ ap (λ s. cells_of (further s) c.args.part.now) c.requires.of_scale)
    (found_of (g.S.Source.objects c.args.store.now) (g.S.Source.objects c.judge_cells.new.store) m c.args.origin.now.dataset c.args.others.now.dataset c.args.origin.now.scale c.args.others.now.scale c.args.part.now (Ok c.in-Ok-judge.found) c.judge_cells.ensures.asks.reads.kept.same_objects told c.requires.of_dataset c.requires.of_scale c.in-Ok-judge.ensures.found first.sound))

pub returns-in-Err-judge-clause-verified : goal.returns-in-Err-judge-clause-verified
returns-in-Err-judge-clause-verified g c =
    in_told _ _ (λ m told.
    let first = from_told _ _ m told c.in-Ok.ensures.judged in
    view_refused m c.args.origin.now.dataset c.args.origin.now.scale c.args.part.now c.requires.inside c.in-Ok.first first c.in-Err-judge.fault c.place_view_fault.result c.place_view_fault.ensures.value
    (found_of (g.S.Source.objects c.args.store.now) (g.S.Source.objects c.judge_cells.new.store) m c.args.origin.now.dataset c.args.others.now.dataset c.args.origin.now.scale c.args.others.now.scale c.args.part.now (Err c.in-Err-judge.fault) c.judge_cells.ensures.asks.reads.kept.same_objects told c.requires.of_dataset c.requires.of_scale c.in-Err-judge.ensures.found first.sound))

pub returns-in-Ok-judge-clause-counts : goal.returns-in-Ok-judge-clause-counts
returns-in-Ok-judge-clause-counts g c = record {
  cells =
      let all = all_cells c.args.origin.now.scale c.args.part.now in
      let others = c.in-Ok-judge.ensures.cells ∙ ap (λ s. cells_of (further s) c.args.part.now) c.requires.of_scale in
      let sum = ap (λ (r : Report). r.cells) c.join_reports.ensures in
      omega (arith, all, others, sum, c.in-Ok.ensures.counts.cells);
  both =
      let cells = ap (λ (r : Report). r.cells) c.join_reports.ensures in
      let stored = ap (λ (r : Report). r.stored) c.join_reports.ensures in
      let absent = ap (λ (r : Report). r.absent) c.join_reports.ensures in
      omega (arith, cells, stored, absent, c.in-Ok.ensures.counts.both, c.in-Ok-judge.ensures.both);
}

pub returns-in-Err-clause-asks : goal.returns-in-Err-clause-asks
returns-in-Err-clause-asks g c = record {
  asked = asked_cells (g.S.Source.objects c.args.store.now) c.args.origin.now.dataset c.args.origin.now.scale c.args.part.now (g.S.Source.asked c.args.store.now) (g.S.Source.asked c.judge_cells.new.store) c.judge_cells.ensures.asks.asked;
  reads = search rules;
}

pub returns-in-Ok-judge-clause-asks : goal.returns-in-Ok-judge-clause-asks
returns-in-Ok-judge-clause-asks g c = record {
  asked =
      asked_views (g.S.Source.objects c.args.store.now) (g.S.Source.objects c.judge_cells.new.store) c.args.origin.now.dataset _ c.args.origin.now.scale _ c.args.part.now (g.S.Source.asked c.args.store.now) (g.S.Source.asked c.judge_cells.new.store)
      (g.S.Source.asked c.judge.new.store) c.judge_cells.ensures.asks.reads.kept.same_objects c.requires.of_dataset c.requires.of_scale c.judge_cells.ensures.asks.asked c.judge.ensures.asked;
  reads = search rules;
}

pub returns-in-Err-judge-clause-asks : goal.returns-in-Err-judge-clause-asks
returns-in-Err-judge-clause-asks g c = record {
  asked =
      asked_views (g.S.Source.objects c.args.store.now) (g.S.Source.objects c.judge_cells.new.store) c.args.origin.now.dataset _ c.args.origin.now.scale _ c.args.part.now (g.S.Source.asked c.args.store.now) (g.S.Source.asked c.judge_cells.new.store)
      (g.S.Source.asked c.judge.new.store) c.judge_cells.ensures.asks.reads.kept.same_objects c.requires.of_dataset c.requires.of_scale c.judge_cells.ensures.asks.asked c.judge.ensures.asked;
  reads = search rules;
}
