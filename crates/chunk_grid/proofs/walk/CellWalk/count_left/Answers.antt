use Rattle.std.proofs.Common.{length, ap, ◌∙◌, sym}
use Rattle.chunk_grid.proofs.WalkSteps.{length-cells_from}
use Rattle.chunk_grid.proofs.walk.CellWalk.count_left.Goals as goal

pub returns : goal.returns
returns c = sym (length-cells_from c.self.inside.first c.self.inside.count c.self.inside.next) ∙ ap length c.self.view_is
