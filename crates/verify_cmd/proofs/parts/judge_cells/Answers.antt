use Rattle.std.proofs.Common.{◌∙◌, ◌+◌, arith, ap, length, refl, rules, subst, sym}
use Rattle.std.proofs.lemmas.List.{length-append}
use Rattle.std.proofs.lemmas.List.Elements.{All-contains}
use Rattle.vol_spec.specs.Grid.{cells_in, IsCell}
use Rattle.vol_spec.proofs.Told.{from_told, in_told}
use Rattle.chunk_grid.proofs.Walked.{here, one_on, at_end}
use Rattle.verify_cmd.proofs.AskedSteps.{asked_all, asked_more, asked_next, asked_none}
use Rattle.verify_cmd.specs.Judges.{Serves}
use Rattle.verify_cmd.proofs.PartSteps.{cell_refused, counted_both, counted_cells, none_yet, part_sound, sound_more}
use Rattle.verify_cmd.proofs.parts.judge_cells.Goals as goal

pub loop-cell-init : goal.loop-cell-init
loop-cell-init g c = record {
  left = c.into_iter-cell-iterator.ensures.into_iter_gives ∙ c.cells-cell-items.ensures;
  cells = refl;
  both = refl;
  sound = λ m told. none_yet m c.args.origin.now.dataset c.args.origin.now.scale _ refl;
  serves = c.requires.serves;
  asked = asked_none (g.S.Source.objects c.args.store.now) c.args.origin.now.dataset c.args.origin.now.scale (g.S.Source.asked c.args.store.now);
  kept = record { same_objects = refl; same_draft = refl };
  history = refl;
  later = omega arith;
}

pub judge-requires-clause-serves : goal.judge-requires-clause-serves
judge-requires-clause-serves g c = subst (λ o. Serves o c.args.origin.now c.loop-cell.judge) (sym c.loop-cell.invariant.kept.same_objects) c.loop-cell.invariant.serves

pub judge-requires-clause-cell : goal.judge-requires-clause-cell
judge-requires-clause-cell g c =
    All-contains (IsCell c.args.origin.now.scale) (cells_in c.args.origin.now.scale c.args.part.now) c.in-Some.cell c.tell_cells.ensures.in_grid
    (here c.loop-cell.yielded c.loop-cell.cell-iterator c.next.new.self (cells_in c.args.origin.now.scale c.args.part.now) c.in-Some.cell c.in-Some.ensures.steps c.loop-cell.invariant.left)

pub loop-cell-preserved : goal.loop-cell-preserved
loop-cell-preserved g c =
    let next = c.in-Some.ensures.steps in
    let all = cells_in c.args.origin.now.scale c.args.part.now in
    record {
      left = one_on c.loop-cell.yielded c.loop-cell.cell-iterator c.next.new.self all c.in-Some.cell next c.loop-cell.invariant.left;
      cells = counted_cells c.loop-cell.report c.count_cell-report.result c.in-Ok.is_stored c.count_cell-report.ensures ∙ ap (λ n. n + 1) c.loop-cell.invariant.cells ∙ sym (length-append c.loop-cell.yielded _);
      both = counted_both c.loop-cell.report c.count_cell-report.result c.in-Ok.is_stored c.count_cell-report.ensures ∙ ap (λ n. n + 1) c.loop-cell.invariant.both ∙ sym (counted_cells c.loop-cell.report c.count_cell-report.result c.in-Ok.is_stored c.count_cell-report.ensures);
      sound = λ m told.
          sound_more m c.args.origin.now.dataset c.args.origin.now.scale c.loop-cell.yielded c.in-Some.cell c.loop-cell.report c.count_cell-report.result c.in-Ok.is_stored c.judge.result c.in-Ok.is c.count_cell-report.ensures (c.loop-cell.invariant.sound m told)
          (from_told _ _ m (c.loop-cell.invariant.kept.same_objects ∙ told) c.judge.ensures.judged);
      serves = subst (λ o. Serves o c.args.origin.now c.judge.new.self) c.loop-cell.invariant.kept.same_objects c.judge.ensures.serves;
      asked =
          asked_more (g.S.Source.objects c.args.store.now) (g.S.Source.objects c.loop-cell.store) c.args.origin.now.dataset c.args.origin.now.scale c.loop-cell.yielded c.in-Some.cell _ _ _ c.loop-cell.invariant.kept.same_objects
          c.loop-cell.invariant.asked c.judge.ensures.asks.asked;
      kept = record {
        same_objects = c.judge.ensures.asks.reads.kept.same_objects ∙ c.loop-cell.invariant.kept.same_objects;
        same_draft = c.judge.ensures.asks.reads.kept.same_draft ∙ c.loop-cell.invariant.kept.same_draft;
      };
      history = c.judge.ensures.asks.reads.history ∙ c.loop-cell.invariant.history;
      later = omega (arith, c.in-Ok.ensures.asks.reads.cause.stands, c.loop-cell.invariant.later);
    }

pub returns-in-Err-clause-judged : goal.returns-in-Err-clause-judged
returns-in-Err-clause-judged g c =
    in_told _ _ (λ m told.
    cell_refused m c.args.origin.now.dataset c.args.origin.now.scale c.args.part.now c.loop-cell.yielded c.loop-cell.cell-iterator c.next.new.self c.in-Some.cell c.loop-cell.report c.judge.result c.in-Err.fault c.place_fault.result c.in-Err.is c.place_fault.ensures.value
    (c.loop-cell.invariant.sound m told) c.in-Some.ensures.steps c.loop-cell.invariant.left
    (from_told _ _ m (c.loop-cell.invariant.kept.same_objects ∙ told) c.judge.ensures.judged))

pub returns-clause-judged : goal.returns-clause-judged
returns-clause-judged g c =
    in_told _ _ (λ m told.
    part_sound m c.args.origin.now.dataset c.args.origin.now.scale c.args.part.now c.loop-cell.yielded c.loop-cell.report
    (at_end c.loop-cell.yielded c.loop-cell.cell-iterator (cells_in c.args.origin.now.scale c.args.part.now) c.in-None.ensures.steps.0 c.loop-cell.invariant.left) c.loop-cell.invariant.cells (c.loop-cell.invariant.sound m told))

pub returns-clause-counts : goal.returns-clause-counts
returns-clause-counts g c = record {
  cells =
      c.loop-cell.invariant.cells ∙ ap length (at_end c.loop-cell.yielded c.loop-cell.cell-iterator (cells_in c.args.origin.now.scale c.args.part.now) c.in-None.ensures.steps.0 c.loop-cell.invariant.left);
  both = c.loop-cell.invariant.both;
}

pub returns-in-Err-clause-asks : goal.returns-in-Err-clause-asks
returns-in-Err-clause-asks g c = record {
  asked =
      asked_next (g.S.Source.objects c.args.store.now) (g.S.Source.objects c.loop-cell.store) c.args.origin.now.dataset c.args.origin.now.scale c.args.part.now c.loop-cell.yielded c.loop-cell.cell-iterator c.next.new.self c.in-Some.cell _ _ _
      c.loop-cell.invariant.kept.same_objects c.in-Some.ensures.steps c.loop-cell.invariant.left c.loop-cell.invariant.asked c.judge.ensures.asks.asked;
  reads = search rules;
}

pub returns-clause-asks : goal.returns-clause-asks
returns-clause-asks g c = record {
  asked =
      asked_all (g.S.Source.objects c.args.store.now) c.args.origin.now.dataset c.args.origin.now.scale c.args.part.now c.loop-cell.yielded c.loop-cell.cell-iterator _ _ c.loop-cell.invariant.left c.loop-cell.invariant.asked;
  reads = search rules;
}
