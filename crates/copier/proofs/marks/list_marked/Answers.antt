use Rattle.std.proofs.Common.{◌∙◌, ap, false, subst, sym}
use Rattle.std.specs.Prelude.{filter, slice_index_or}
use Rattle.std.proofs.lemmas.List.Elements.{All-contains}
use Rattle.vol_spec.specs.Grid.{Inside, IsCell, cells_in, whole}
use Rattle.chunk_grid.proofs.ListingSteps.{cells_in-IsCell}
use Rattle.chunk_grid.proofs.Walked.{at_end, here, one_on}
use Rattle.copier.specs.Marks.{marked}
use Rattle.copier.proofs.MarkSteps.{cells_whole, inside_whole, list_more}
use Rattle.copier.proofs.marks.list_marked.Goals as goal

pub cells-cell-items-requires : goal.cells-cell-items-requires
cells-cell-items-requires c = subst (Inside c.args.scale.now) (sym c.whole.ensures) (inside_whole c.args.scale.now)

pub loop-cell-init : goal.loop-cell-init
loop-cell-init c = record {
  left = c.into_iter-cell-iterator.ensures.into_iter_gives ∙ c.cells-cell-items.ensures ∙ ap (cells_in c.args.scale.now) c.whole.ensures;
  list = c.new-list.ensures.items;
}

pub find_number-number-requires-clause-cell : goal.find_number-number-requires-clause-cell
find_number-number-requires-clause-cell c =
    All-contains (IsCell c.args.scale.now) (cells_in c.args.scale.now (whole c.args.scale.now)) c.in-Some.cell (cells_in-IsCell c.args.scale.now (whole c.args.scale.now))
    (here c.loop-cell.yielded c.loop-cell.cell-iterator c.next.new.self (cells_in c.args.scale.now (whole c.args.scale.now)) c.in-Some.cell c.in-Some.ensures.steps c.loop-cell.invariant.left)

pub loop-cell-preserved : goal.loop-cell-preserved
loop-cell-preserved c = record {
  left = one_on c.loop-cell.yielded c.loop-cell.cell-iterator c.next.new.self (cells_in c.args.scale.now (whole c.args.scale.now)) c.in-Some.cell c.in-Some.ensures.steps c.loop-cell.invariant.left;
  list = list_more (marked c.args.scale.now c.args.marks.now) c.loop-cell.yielded c.loop-cell.list.items c.push_if.new.list.items c.in-Some.cell _ (ap (λ k. slice_index_or c.args.marks.now k false) c.find_number-number.ensures.number) c.loop-cell.invariant.list c.in_ok-push_if.ensures;
}

pub returns : goal.returns
returns c =
    c.loop-cell.invariant.list
    ∙ ap (filter (marked c.args.scale.now c.args.marks.now)) (at_end c.loop-cell.yielded c.loop-cell.cell-iterator (cells_in c.args.scale.now (whole c.args.scale.now)) c.in-None.ensures.steps.0 c.loop-cell.invariant.left ∙ cells_whole c.args.scale.now)
