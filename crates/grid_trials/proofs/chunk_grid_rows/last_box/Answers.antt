use Rattle.std.proofs.Common.{◌∙◌, sym}
use Rattle.std.proofs.lemmas.List.Elements.{All-same, All-head, All-rest}
use Rattle.vol_spec.specs.Grid.{IsCell}
use Rattle.chunk_grid.proofs.ListingSteps.{cells_in-IsCell}
use Rattle.grid_trials.proofs.chunk_grid_rows.last_box.Goals as goal

pub loop-cell-init : goal.loop-cell-init
loop-cell-init c = All-same (IsCell c.args.scale.now) _ _ (c.into_iter-cell-iterator.ensures.into_iter_gives ∙ c.cells-cell-items.ensures) (cells_in-IsCell c.args.scale.now c.args.part.now)

pub cell_box-last-requires : goal.cell_box-last-requires
cell_box-last-requires c = All-head (IsCell c.args.scale.now) _ _ (All-same (IsCell c.args.scale.now) _ _ (sym c.in-Some.ensures.steps) c.loop-cell.invariant)

pub loop-cell-preserved : goal.loop-cell-preserved
loop-cell-preserved c = All-rest (IsCell c.args.scale.now) _ _ _ c.in-Some.ensures.steps c.loop-cell.invariant
