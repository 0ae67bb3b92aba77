use Rattle.chunk_grid.proofs.GridSteps.{Covers-first, Inside-small, last_found, ends_found, walk_found}
use Rattle.chunk_grid.proofs.listing.cells.Goals as goal

pub cell_of-first-requires : goal.cell_of-first-requires
cell_of-first-requires c = Covers-first c.args.scale.now c.args.part.now c.requires

pub find_last-requires : goal.find_last-requires
find_last-requires c = Inside-small c.args.scale.now c.args.part.now c.requires

pub cell_of-last-requires : goal.cell_of-last-requires
cell_of-last-requires c = last_found c.args.scale.now c.args.part.now _ c.requires c.find_last.ensures

pub between-requires : goal.between-requires
between-requires c = ends_found c.args.scale.now c.args.part.now _ _ _ c.requires c.find_last.ensures c.cell_of-first.ensures.cell c.cell_of-last.ensures.cell

pub returns : goal.returns
returns c = walk_found c.args.scale.now c.args.part.now _ _ _ _ c.requires c.find_last.ensures c.cell_of-first.ensures.cell c.cell_of-last.ensures.cell c.between.ensures
