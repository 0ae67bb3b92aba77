use Rattle.std.proofs.Common.{◌∙◌, ap, arith, refl, subst, sym}
use Rattle.std.specs.Prelude.{filter}
use Rattle.std.specs.List.{list_any}
use Rattle.std.proofs.lemmas.List.Elements.{All-contains}
use Rattle.vol_spec.specs.Chunks.{chunk_in}
use Rattle.vol_spec.specs.Copies.{is_there}
use Rattle.vol_spec.specs.Grid.{Inside, IsCell, cells_in, meets, whole}
use Rattle.vol_spec.proofs.Told.{from_told, in_told}
use Rattle.chunk_grid.proofs.ListingSteps.{cells_in-IsCell}
use Rattle.chunk_grid.proofs.Walked.{at_end, here, one_on}
use Rattle.cutout.specs.Kept.{KeepsIndex}
use Rattle.copier.specs.Marks.{AddsMarks}
use Rattle.copier.specs.Placed.{is_placed}
use Rattle.copier.proofs.FoundSteps.{source_added}
use Rattle.copier.proofs.MarkSteps.{cells_whole, from_clear, inside_whole, no_source, source_more}
use Rattle.copier.proofs.found.mark_placed.Goals as goal

pub cells-cell-items-requires : goal.cells-cell-items-requires
cells-cell-items-requires g c = subst (Inside c.args.from.now) (sym c.whole.ensures) (inside_whole c.args.from.now)

pub loop-cell-init : goal.loop-cell-init
loop-cell-init g c = record {
  left = c.into_iter-cell-iterator.ensures.into_iter_gives ∙ c.cells-cell-items.ensures ∙ ap (cells_in c.args.from.now) c.whole.ensures;
  marks = λ m told. no_source c.args.to.now (g.P.Placing.place c.args.from.now c.args.to.now) (λ source. is_there (chunk_in m c.args.reader.now.opened.dataset c.args.from.now source)) c.args.marks.now;
  same = refl;
  keeps = c.requires.keeps;
  kept = record { same_objects = refl; same_draft = refl };
  history = refl;
  later = omega arith;
}

pub mark_source-requires-clause-cell : goal.mark_source-requires-clause-cell
mark_source-requires-clause-cell g c =
    subst (λ s. IsCell s c.in-Some.cell) (sym (ap (λ r. r.scale) c.loop-cell.invariant.same ∙ c.requires.source))
    (All-contains (IsCell c.args.from.now) (cells_in c.args.from.now (whole c.args.from.now)) c.in-Some.cell (cells_in-IsCell c.args.from.now (whole c.args.from.now))
    (here c.loop-cell.yielded c.loop-cell.cell-iterator c.next.new.self (cells_in c.args.from.now (whole c.args.from.now)) c.in-Some.cell c.in-Some.ensures.steps c.loop-cell.invariant.left))

pub mark_source-requires-clause-keeps : goal.mark_source-requires-clause-keeps
mark_source-requires-clause-keeps g c = subst (λ o. KeepsIndex o c.loop-cell.reader) (sym c.loop-cell.invariant.kept.same_objects) c.loop-cell.invariant.keeps

pub place-requires-clause-source : goal.place-requires-clause-source
place-requires-clause-source g c =
    All-contains (IsCell c.args.from.now) (cells_in c.args.from.now (whole c.args.from.now)) c.in-Some.cell (cells_in-IsCell c.args.from.now (whole c.args.from.now))
    (here c.loop-cell.yielded c.loop-cell.cell-iterator c.next.new.self (cells_in c.args.from.now (whole c.args.from.now)) c.in-Some.cell c.in-Some.ensures.steps c.loop-cell.invariant.left)

pub loop-cell-preserved : goal.loop-cell-preserved
loop-cell-preserved g c = record {
  left = one_on c.loop-cell.yielded c.loop-cell.cell-iterator c.next.new.self (cells_in c.args.from.now (whole c.args.from.now)) c.in-Some.cell c.in-Some.ensures.steps c.loop-cell.invariant.left;
  marks = λ m told.
      source_more c.args.to.now (g.P.Placing.place c.args.from.now c.args.to.now) (λ source. is_there (chunk_in m c.args.reader.now.opened.dataset c.args.from.now source)) c.loop-cell.yielded c.in-Some.cell c.args.marks.now c.loop-cell.marks
      c.mark_source.new.marks (c.loop-cell.invariant.marks m told)
      (source_added m c.args.reader.now.opened.dataset c.loop-cell.reader.opened.dataset c.loop-cell.reader.opened.scale c.args.from.now c.args.to.now c.in-Some.cell c.place.result (g.P.Placing.place c.args.from.now c.args.to.now c.in-Some.cell) c.loop-cell.marks
      c.mark_source.new.marks (ap (λ r. r.dataset) c.loop-cell.invariant.same) (ap (λ r. r.scale) c.loop-cell.invariant.same ∙ c.requires.source) c.place.ensures.positions (from_told _ _ m (c.loop-cell.invariant.kept.same_objects ∙ told) c.in-Ok.ensures.marks));
  same = c.mark_source.ensures.same ∙ c.loop-cell.invariant.same;
  keeps = subst (λ o. KeepsIndex o c.mark_source.new.reader) c.loop-cell.invariant.kept.same_objects c.mark_source.ensures.keeps;
  kept = record {
    same_objects = c.mark_source.ensures.reads.kept.same_objects ∙ c.loop-cell.invariant.kept.same_objects;
    same_draft = c.mark_source.ensures.reads.kept.same_draft ∙ c.loop-cell.invariant.kept.same_draft;
  };
  history = c.mark_source.ensures.reads.history ∙ c.loop-cell.invariant.history;
  later = omega (arith, c.in-Ok.ensures.reads.cause.stands, c.loop-cell.invariant.later);
}

pub returns-clause-marks : goal.returns-clause-marks
returns-clause-marks g c =
    in_told _ _ (λ m told.
    from_clear c.args.to.now (is_placed (g.P.Placing.place c.args.from.now c.args.to.now) m c.args.reader.now.opened.dataset c.args.from.now c.args.to.now) c.args.marks.now c.loop-cell.marks c.requires.len c.requires.clear
    (subst (λ cells. AddsMarks c.args.to.now (λ cell. list_any (λ source. meets c.args.to.now (g.P.Placing.place c.args.from.now c.args.to.now source) cell) (filter (λ source. is_there (chunk_in m c.args.reader.now.opened.dataset c.args.from.now source)) cells)) c.args.marks.now c.loop-cell.marks)
    (at_end c.loop-cell.yielded c.loop-cell.cell-iterator (cells_in c.args.from.now (whole c.args.from.now)) c.in-None.ensures.steps.0 c.loop-cell.invariant.left ∙ cells_whole c.args.from.now)
    (c.loop-cell.invariant.marks m told)))

pub returns-clause-keeps : goal.returns-clause-keeps
returns-clause-keeps g c = c.loop-cell.invariant.keeps

pub returns-in-Err-clause-keeps : goal.returns-in-Err-clause-keeps
returns-in-Err-clause-keeps g c = subst (λ o. KeepsIndex o c.mark_source.new.reader) c.loop-cell.invariant.kept.same_objects c.mark_source.ensures.keeps
