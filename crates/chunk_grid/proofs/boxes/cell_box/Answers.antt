use Rattle.chunk_grid.proofs.GridSteps.{box_found}
use Rattle.chunk_grid.proofs.boxes.cell_box.Goals as goal

pub returns-clause-within : goal.returns-clause-within
returns-clause-within c = (box_found c.args.scale.now c.args.cell c.find_box.result c.find_box.ensures c.requires).0

pub returns-clause-some : goal.returns-clause-some
returns-clause-some c = (box_found c.args.scale.now c.args.cell c.find_box.result c.find_box.ensures c.requires).1
