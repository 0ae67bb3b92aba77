use Rattle.std.proofs.Common.{◌≤◌, ◌∙◌, ◌+◌, Err, Ok, ap, length, refl, subst, sym, rules, arith}
use Rattle.std.specs.List.{All}
use Rattle.std.proofs.lemmas.List.{length-append}
use Rattle.std.proofs.lemmas.List.Elements.{All-contains}
use Rattle.vol_spec.proofs.Told.{in_told}
use Rattle.vol_spec.specs.Grid.{cell_box, cells_in, IsCell, Meets}
use Rattle.chunk_grid.proofs.Walked.{at_end, here, one_on}
use Rattle.cutout.specs.Opened.{Opened}
use Rattle.size_laws.specs.Findings.{common}
use Rattle.view_judge.specs.Answers.{AreCells, JudgesCell}
use Rattle.view_judge.specs.Further.{StandsBeside}
use Rattle.view_judge.specs.Judging.{pair_cost}
use Rattle.view_judge.proofs.WalkSteps.{IsOne, IsSum, asked_all, asked_more, asked_next, asked_none, both_more, cell_stops, cells_more, moved, moved_told}
use Rattle.view_judge.proofs.further.FurtherView.judge_cells.Goals as goal

pub loop-cell-init : goal.loop-cell-init
loop-cell-init g c = record {
  left = c.into_iter-cell-iterator.ensures.into_iter_gives ∙ c.cells-cell-items.ensures ∙ ap (λ (r : Opened). cells_in r.scale c.args.part.now) c.self.view_is;
  cells = refl;
  both = refl;
  agree = λ m told. record { agree = refl; stored = refl; absent = refl };
  same = refl;
  first = refl;
  asked = asked_none (g.S.Source.objects c.args.store.now) (λ m cell. pair_cost m c.args.first.now.dataset c.args.first.now.scale c.args.self.now.scale (common (cell_box c.args.self.now.scale cell) c.args.part.now)) (g.S.Source.asked c.args.store.now);
  kept = record { same_objects = refl; same_draft = refl };
  history = refl;
  later = refl;
}

pub judge_cell-requires-clause-beside : goal.judge_cell-requires-clause-beside
judge_cell-requires-clause-beside g c =
    subst (λ (r : Opened). StandsBeside r c.loop-cell.self c.args.part.now) (sym c.loop-cell.invariant.first)
    (subst (λ (r : Opened). StandsBeside c.args.first.now r c.args.part.now) (sym c.loop-cell.invariant.same) c.requires.beside)

pub judge_cell-requires-clause-cell : goal.judge_cell-requires-clause-cell
judge_cell-requires-clause-cell g c =
    subst (λ (r : Opened). IsCell r.scale c.in-Some.cell) (sym c.loop-cell.invariant.same)
    (All-contains (IsCell c.args.self.now.scale) (cells_in c.args.self.now.scale c.args.part.now) c.in-Some.cell (subst (λ (r : Opened). All (IsCell r.scale) (cells_in r.scale c.args.part.now)) c.self.view_is c.tell_cells.ensures.in_grid)
    (here c.loop-cell.yielded c.loop-cell.cell-iterator c.next.new.self (cells_in c.args.self.now.scale c.args.part.now) c.in-Some.cell c.in-Some.ensures.steps c.loop-cell.invariant.left))

pub judge_cell-requires-clause-meets : goal.judge_cell-requires-clause-meets
judge_cell-requires-clause-meets g c =
    subst (λ (r : Opened). Meets r.scale c.in-Some.cell c.args.part.now) (sym c.loop-cell.invariant.same)
    (All-contains (λ cell. Meets c.args.self.now.scale cell c.args.part.now) (cells_in c.args.self.now.scale c.args.part.now) c.in-Some.cell (subst (λ (r : Opened). All (λ cell. Meets r.scale cell c.args.part.now) (cells_in r.scale c.args.part.now)) c.self.view_is c.tell_cells.ensures.meet)
    (here c.loop-cell.yielded c.loop-cell.cell-iterator c.next.new.self (cells_in c.args.self.now.scale c.args.part.now) c.in-Some.cell c.in-Some.ensures.steps c.loop-cell.invariant.left))

pub loop-cell-preserved : goal.loop-cell-preserved
loop-cell-preserved g c =
    let next = c.in-Some.ensures.steps in
    let all = cells_in c.args.self.now.scale c.args.part.now in
    let sum : IsSum c.loop-cell.report c.one_cell.result c.add-report.result = record { cells = c.add-report.ensures.cells; stored = c.add-report.ensures.stored; absent = c.add-report.ensures.absent } in
    let one : IsOne c.in-Ok.is_stored c.one_cell.result = record { cells = c.one_cell.ensures.cells; stored = c.one_cell.ensures.stored; absent = c.one_cell.ensures.absent } in
    record {
      left = one_on c.loop-cell.yielded c.loop-cell.cell-iterator c.next.new.self all c.in-Some.cell next c.loop-cell.invariant.left;
      cells = c.add-report.ensures.cells ∙ (λ i. c.loop-cell.invariant.cells i + c.one_cell.ensures.cells i) ∙ sym (length-append c.loop-cell.yielded _);
      both = both_more c.loop-cell.report c.one_cell.result c.add-report.result c.in-Ok.is_stored sum one c.loop-cell.invariant.both;
      agree = λ m told.
          cells_more m c.args.first.now.dataset c.args.first.now.scale c.args.number c.args.self.now.scale c.args.part.now c.loop-cell.yielded c.in-Some.cell c.loop-cell.report c.one_cell.result c.add-report.result c.in-Ok.is_stored sum one (c.loop-cell.invariant.agree m told)
          (moved (λ m f v. JudgesCell (Ok c.in-Ok.is_stored) m f.dataset f.scale c.args.number v.scale c.args.part.now c.in-Some.cell) (g.S.Source.objects c.args.store.now) (g.S.Source.objects c.loop-cell.store) c.loop-cell.first c.loop-cell.self c.args.first.now c.args.self.now
          c.loop-cell.invariant.kept.same_objects c.loop-cell.invariant.first c.loop-cell.invariant.same c.in-Ok.ensures.judged m told);
      same = c.judge_cell.ensures.same ∙ c.loop-cell.invariant.same;
      first = c.judge_cell.ensures.first ∙ c.loop-cell.invariant.first;
      asked =
          asked_more (g.S.Source.objects c.args.store.now) (λ m cell. pair_cost m c.args.first.now.dataset c.args.first.now.scale c.args.self.now.scale (common (cell_box c.args.self.now.scale cell) c.args.part.now)) (g.S.Source.objects c.args.store.now) c.loop-cell.yielded c.in-Some.cell _ _ _ refl c.loop-cell.invariant.asked
          (moved_told (λ m f v. g.S.Source.asked c.judge_cell.new.store ≤ g.S.Source.asked c.loop-cell.store + pair_cost m f.dataset f.scale v.scale (common (cell_box v.scale c.in-Some.cell) c.args.part.now)) (g.S.Source.objects c.args.store.now) (g.S.Source.objects c.loop-cell.store)
          c.loop-cell.first c.loop-cell.self c.args.first.now c.args.self.now c.loop-cell.invariant.kept.same_objects c.loop-cell.invariant.first c.loop-cell.invariant.same c.judge_cell.ensures.asks.asked);
      kept = record {
        same_objects = c.judge_cell.ensures.asks.reads.kept.same_objects ∙ c.loop-cell.invariant.kept.same_objects;
        same_draft = c.judge_cell.ensures.asks.reads.kept.same_draft ∙ c.loop-cell.invariant.kept.same_draft;
      };
      history = c.judge_cell.ensures.asks.reads.history ∙ c.loop-cell.invariant.history;
      later = c.in-Ok.ensures.asks.reads.cause.stands ∙ c.loop-cell.invariant.later;
    }

pub returns-in-Err-clause-judged : goal.returns-in-Err-clause-judged
returns-in-Err-clause-judged g c =
    in_told _ _ (λ m told.
    cell_stops m c.args.first.now.dataset c.args.first.now.scale c.args.number c.args.self.now.scale c.args.part.now c.loop-cell.yielded c.loop-cell.cell-iterator c.next.new.self c.in-Some.cell c.loop-cell.report c.in-Err.fault c.in-Some.ensures.steps
    c.loop-cell.invariant.left (c.loop-cell.invariant.agree m told)
    (moved (λ m f v. JudgesCell (Err c.in-Err.fault) m f.dataset f.scale c.args.number v.scale c.args.part.now c.in-Some.cell) (g.S.Source.objects c.args.store.now) (g.S.Source.objects c.loop-cell.store) c.loop-cell.first c.loop-cell.self c.args.first.now c.args.self.now
    c.loop-cell.invariant.kept.same_objects c.loop-cell.invariant.first c.loop-cell.invariant.same c.in-Err.ensures.judged m told))

pub returns-in-Err-clause-asks : goal.returns-in-Err-clause-asks
returns-in-Err-clause-asks g c = record {
  asked =
      asked_next (g.S.Source.objects c.args.store.now) (λ m cell. pair_cost m c.args.first.now.dataset c.args.first.now.scale c.args.self.now.scale (common (cell_box c.args.self.now.scale cell) c.args.part.now)) (g.S.Source.objects c.args.store.now) c.loop-cell.yielded c.loop-cell.cell-iterator c.next.new.self (cells_in c.args.self.now.scale c.args.part.now) c.in-Some.cell _ _ _ refl
      c.in-Some.ensures.steps c.loop-cell.invariant.left c.loop-cell.invariant.asked
      (moved_told (λ m f v. g.S.Source.asked c.judge_cell.new.store ≤ g.S.Source.asked c.loop-cell.store + pair_cost m f.dataset f.scale v.scale (common (cell_box v.scale c.in-Some.cell) c.args.part.now)) (g.S.Source.objects c.args.store.now) (g.S.Source.objects c.loop-cell.store)
      c.loop-cell.first c.loop-cell.self c.args.first.now c.args.self.now c.loop-cell.invariant.kept.same_objects c.loop-cell.invariant.first c.loop-cell.invariant.same c.judge_cell.ensures.asks.asked);
  reads = search rules;
}

pub returns-clause-judged : goal.returns-clause-judged
returns-clause-judged g c =
    in_told _ _ (λ m told.
    subst (λ cells. AreCells m c.args.first.now.dataset c.args.first.now.scale c.args.number c.args.self.now.scale c.args.part.now cells c.loop-cell.report)
    (at_end c.loop-cell.yielded c.loop-cell.cell-iterator (cells_in c.args.self.now.scale c.args.part.now) c.in-None.ensures.steps.0 c.loop-cell.invariant.left) (c.loop-cell.invariant.agree m told))

pub returns-clause-cells : goal.returns-clause-cells
returns-clause-cells g c =
    c.loop-cell.invariant.cells ∙ ap length (at_end c.loop-cell.yielded c.loop-cell.cell-iterator (cells_in c.args.self.now.scale c.args.part.now) c.in-None.ensures.steps.0 c.loop-cell.invariant.left)

pub returns-clause-asks : goal.returns-clause-asks
returns-clause-asks g c = record {
  asked =
      asked_all (g.S.Source.objects c.args.store.now) (λ m cell. pair_cost m c.args.first.now.dataset c.args.first.now.scale c.args.self.now.scale (common (cell_box c.args.self.now.scale cell) c.args.part.now)) c.loop-cell.yielded c.loop-cell.cell-iterator (cells_in c.args.self.now.scale c.args.part.now) _ _ c.loop-cell.invariant.left c.loop-cell.invariant.asked;
  reads = record { kept = c.loop-cell.invariant.kept; history = c.loop-cell.invariant.history; cause = record { later = omega (arith, c.loop-cell.invariant.later); failed = λ told. absurd (cc told); stands = c.loop-cell.invariant.later } };
}
