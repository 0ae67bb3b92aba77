use Rattle.chunk_grid.proofs.GridSteps.{cell_found}
use Rattle.chunk_grid.proofs.boxes.cell_of.Goals as goal

pub returns-clause-in_grid : goal.returns-clause-in_grid
returns-clause-in_grid c = (cell_found c.args.scale.now c.args.p c.find_cell.result c.find_cell.ensures c.requires).0

pub returns-clause-covers : goal.returns-clause-covers
returns-clause-covers c = (cell_found c.args.scale.now c.args.p c.find_cell.result c.find_cell.ensures c.requires).1

pub returns-clause-only : goal.returns-clause-only
returns-clause-only c = (cell_found c.args.scale.now c.args.p c.find_cell.result c.find_cell.ensures c.requires).2
