use Rattle.chunk_grid.proofs.ListingSteps.{Meets-meets, cells_in-IsCell, cells_in-Meets, cells_in-Contains, cells_in-once, cells_in-covered, cells_in-only}
use Rattle.chunk_grid.proofs.listing.tell_cells.Goals as goal

pub returns-clause-test : goal.returns-clause-test
returns-clause-test c = Meets-meets c.args.scale.now c.args.part.now

pub returns-clause-in_grid : goal.returns-clause-in_grid
returns-clause-in_grid c = cells_in-IsCell c.args.scale.now c.args.part.now

pub returns-clause-meet : goal.returns-clause-meet
returns-clause-meet c = cells_in-Meets c.args.scale.now c.args.part.now

pub returns-clause-every : goal.returns-clause-every
returns-clause-every c = cells_in-Contains c.args.scale.now c.args.part.now

pub returns-clause-once : goal.returns-clause-once
returns-clause-once c = cells_in-once c.args.scale.now c.args.part.now

pub returns-clause-covered : goal.returns-clause-covered
returns-clause-covered c = cells_in-covered c.args.scale.now c.args.part.now

pub returns-clause-only : goal.returns-clause-only
returns-clause-only c = cells_in-only c.args.scale.now c.args.part.now
