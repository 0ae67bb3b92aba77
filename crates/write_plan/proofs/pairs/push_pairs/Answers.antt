use Rattle.std.proofs.Common.{◌++◌, ◌∷◌, [], ◌∙◌, ap, sym, map}
use Rattle.std.proofs.lemmas.List.{append-nil}
use Rattle.std.proofs.lemmas.List.Elements.{All-contains}
use Rattle.vol_spec.specs.Grid.{cells_in, IsCell}
use Rattle.chunk_grid.proofs.ListingSteps.{cells_in-IsCell}
use Rattle.write_plan.specs.Pairs.{pair_of}
use Rattle.chunk_grid.proofs.Walked.{here, one_on, at_end}
use Rattle.write_plan.proofs.ListSteps.{pushed_more}
use Rattle.write_plan.proofs.pairs.push_pairs.Goals as goal

pub loop-cell-init : goal.loop-cell-init
loop-cell-init c = record {
  left = c.into_iter-cell-iterator.ensures.into_iter_gives ∙ c.cells-cell-items.ensures;
  pushed = sym (append-nil c.args.pairs.now.items);
}

pub find_number-number-requires : goal.find_number-number-requires
find_number-number-requires c =
    All-contains (IsCell c.args.scale.now) (cells_in c.args.scale.now c.args.part.now) c.in-Some.cell (cells_in-IsCell c.args.scale.now c.args.part.now)
    (here c.loop-cell.yielded c.loop-cell.cell-iterator c.next.new.self (cells_in c.args.scale.now c.args.part.now) c.in-Some.cell c.in-Some.ensures.steps c.loop-cell.invariant.left)

pub loop-cell-preserved : goal.loop-cell-preserved
loop-cell-preserved c = record {
  left = one_on c.loop-cell.yielded c.loop-cell.cell-iterator c.next.new.self (cells_in c.args.scale.now c.args.part.now) c.in-Some.cell c.in-Some.ensures.steps c.loop-cell.invariant.left;
  pushed = c.in_ok-push.ensures.items
      ∙ ap (λ n. c.loop-cell.pairs.items ++ record { number = n; write = c.args.write } ∷ []) c.find_number-number.ensures
      ∙ pushed_more (pair_of c.args.scale.now c.args.write) c.args.pairs.now.items c.loop-cell.pairs.items c.loop-cell.yielded c.in-Some.cell c.loop-cell.invariant.pushed;
}

pub returns : goal.returns
returns c =
    c.loop-cell.invariant.pushed ∙ ap (λ cells. c.args.pairs.now.items ++ map (pair_of c.args.scale.now c.args.write) cells) (at_end c.loop-cell.yielded c.loop-cell.cell-iterator (cells_in c.args.scale.now c.args.part.now) c.in-None.ensures.steps.0 c.loop-cell.invariant.left)
