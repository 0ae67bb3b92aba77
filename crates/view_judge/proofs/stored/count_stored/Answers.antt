use Rattle.std.proofs.Common.{◌∙◌, ◌+◌, ap, length, refl, subst, sym}
use Rattle.std.proofs.lemmas.List.{length-append}
use Rattle.std.proofs.lemmas.List.Elements.{All-contains}
use Rattle.vol_spec.proofs.Told.{from_told, in_told}
use Rattle.vol_spec.specs.Grid.{IsCell, cells_in}
use Rattle.chunk_grid.proofs.Walked.{at_end, here, one_on}
use Rattle.view_judge.specs.Answers.{AreNamed}
use Rattle.view_judge.proofs.WalkSteps.{IsOne, IsSum, both_more, named_more}
use Rattle.view_judge.proofs.stored.count_stored.Goals as goal

pub loop-cell-init : goal.loop-cell-init
loop-cell-init g c = record {
  left = c.into_iter-cell-iterator.ensures.into_iter_gives ∙ c.cells-cell-items.ensures;
  cells = refl;
  both = refl;
  named = λ m told. record { stored = refl; absent = refl };
  asked = refl;
  kept = record { same_objects = refl; same_draft = refl };
  history = refl;
  later = refl;
}

pub find_stored-requires : goal.find_stored-requires
find_stored-requires g c = record {
  cell =
      All-contains (IsCell c.args.view.now.scale) (cells_in c.args.view.now.scale c.args.part.now) c.in-Some.cell c.tell_cells.ensures.in_grid
      (here c.loop-cell.yielded c.loop-cell.cell-iterator c.next.new.self (cells_in c.args.view.now.scale c.args.part.now) c.in-Some.cell c.in-Some.ensures.steps c.loop-cell.invariant.left);
}

pub loop-cell-preserved : goal.loop-cell-preserved
loop-cell-preserved g c =
    let sum : IsSum c.loop-cell.report c.one_cell.result c.add-report.result = record { cells = c.add-report.ensures.cells; stored = c.add-report.ensures.stored; absent = c.add-report.ensures.absent } in
    let one : IsOne c.in-Ok.is_stored c.one_cell.result = record { cells = c.one_cell.ensures.cells; stored = c.one_cell.ensures.stored; absent = c.one_cell.ensures.absent } in
    record {
      left = one_on c.loop-cell.yielded c.loop-cell.cell-iterator c.next.new.self (cells_in c.args.view.now.scale c.args.part.now) c.in-Some.cell c.in-Some.ensures.steps c.loop-cell.invariant.left;
      cells = c.add-report.ensures.cells ∙ (λ i. c.loop-cell.invariant.cells i + c.one_cell.ensures.cells i) ∙ sym (length-append c.loop-cell.yielded _);
      both = both_more c.loop-cell.report c.one_cell.result c.add-report.result c.in-Ok.is_stored sum one c.loop-cell.invariant.both;
      named = λ m told.
          named_more m c.args.view.now.dataset c.args.view.now.scale c.loop-cell.yielded c.in-Some.cell c.loop-cell.report c.one_cell.result c.add-report.result c.in-Ok.is_stored sum one (c.loop-cell.invariant.named m told)
          (from_told (g.S.Source.objects c.loop-cell.store) _ m (c.loop-cell.invariant.kept.same_objects ∙ told) c.in-Ok.ensures.found);
      asked = c.find_stored.ensures.asked ∙ c.loop-cell.invariant.asked;
      kept = record {
        same_objects = c.find_stored.ensures.reads.kept.same_objects ∙ c.loop-cell.invariant.kept.same_objects;
        same_draft = c.find_stored.ensures.reads.kept.same_draft ∙ c.loop-cell.invariant.kept.same_draft;
      };
      history = c.find_stored.ensures.reads.history ∙ c.loop-cell.invariant.history;
      later = c.in-Ok.ensures.reads.cause.stands ∙ c.loop-cell.invariant.later;
    }

pub returns-clause-named : goal.returns-clause-named
returns-clause-named g c =
    in_told _ _ (λ m told.
    subst (λ cells. AreNamed m c.args.view.now.dataset c.args.view.now.scale cells c.loop-cell.report)
    (at_end c.loop-cell.yielded c.loop-cell.cell-iterator (cells_in c.args.view.now.scale c.args.part.now) c.in-None.ensures.steps.0 c.loop-cell.invariant.left) (c.loop-cell.invariant.named m told))

pub returns-clause-cells : goal.returns-clause-cells
returns-clause-cells g c =
    c.loop-cell.invariant.cells ∙ ap length (at_end c.loop-cell.yielded c.loop-cell.cell-iterator (cells_in c.args.view.now.scale c.args.part.now) c.in-None.ensures.steps.0 c.loop-cell.invariant.left)
