use Rattle.std.proofs.Common.{◌∙◌, subst}
use Rattle.std.proofs.lemmas.List.Elements.{All-contains}
use Rattle.vol_spec.specs.Grid.{IsCell, cells_in}
use Rattle.chunk_grid.proofs.ListingSteps.{cells_in-IsCell}
use Rattle.chunk_grid.proofs.Walked.{at_end, here, one_on}
use Rattle.chunk_laws.specs.Told.{is_listed}
use Rattle.copier.specs.Marks.{AddsMarks}
use Rattle.copier.proofs.MarkSteps.{mark_more, marked_all, no_marks}
use Rattle.copier.proofs.marks.mark_cells.Goals as goal

pub loop-cell-init : goal.loop-cell-init
loop-cell-init c = record {
  left = c.into_iter-cell-iterator.ensures.into_iter_gives ∙ c.cells-cell-items.ensures;
  marks = no_marks c.args.scale.now c.args.marks.now;
}

pub find_number-number-requires-clause-cell : goal.find_number-number-requires-clause-cell
find_number-number-requires-clause-cell c =
    All-contains (IsCell c.args.scale.now) (cells_in c.args.scale.now c.args.part.now) c.in-Some.cell (cells_in-IsCell c.args.scale.now c.args.part.now)
    (here c.loop-cell.yielded c.loop-cell.cell-iterator c.next.new.self (cells_in c.args.scale.now c.args.part.now) c.in-Some.cell c.in-Some.ensures.steps c.loop-cell.invariant.left)

pub loop-cell-preserved : goal.loop-cell-preserved
loop-cell-preserved c =
    let is : IsCell c.args.scale.now c.in-Some.cell =
    All-contains (IsCell c.args.scale.now) (cells_in c.args.scale.now c.args.part.now) c.in-Some.cell (cells_in-IsCell c.args.scale.now c.args.part.now)
    (here c.loop-cell.yielded c.loop-cell.cell-iterator c.next.new.self (cells_in c.args.scale.now c.args.part.now) c.in-Some.cell c.in-Some.ensures.steps c.loop-cell.invariant.left) in
    record {
      left = one_on c.loop-cell.yielded c.loop-cell.cell-iterator c.next.new.self (cells_in c.args.scale.now c.args.part.now) c.in-Some.cell c.in-Some.ensures.steps c.loop-cell.invariant.left;
      marks =
          mark_more c.args.scale.now c.loop-cell.yielded c.in-Some.cell c.args.marks.now c.loop-cell.marks c.find_number-number.result is c.find_number-number.ensures.number (c.loop-cell.auto.marks ∙ c.requires.len)
          c.loop-cell.invariant.marks;
    }

pub returns : goal.returns
returns c =
    marked_all c.args.scale.now c.args.part.now c.args.marks.now c.loop-cell.marks
    (subst (λ cells. AddsMarks c.args.scale.now (is_listed cells) c.args.marks.now c.loop-cell.marks)
    (at_end c.loop-cell.yielded c.loop-cell.cell-iterator (cells_in c.args.scale.now c.args.part.now) c.in-None.ensures.steps.0 c.loop-cell.invariant.left) c.loop-cell.invariant.marks)
