use Rattle.std.proofs.Common.{length, arith, ap, ◌∙◌, sym}
use Rattle.chunk_grid.proofs.WalkSteps.{cells_from-next}
use Rattle.chunk_grid.proofs.walk.CellWalkIterator.next.Goals as goal

pub returns-clause-steps : goal.returns-clause-steps
returns-clause-steps c = sym c.self.view_is ∙ cells_from-next c.self.inside.first c.self.inside.count c.self.inside.next c.if-number-x.false

pub returns-clause-goes : goal.returns-clause-goes
returns-clause-goes c =
    let steps = ap length (sym c.self.view_is ∙ cells_from-next c.self.inside.first c.self.inside.count c.self.inside.next c.if-number-x.false) in
    record { on = λ _. (tt, tt, omega (arith, steps)); keeps = tt; rests = λ _. tt }
