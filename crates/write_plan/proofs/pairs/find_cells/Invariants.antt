use Rattle.std.proofs.Common.{take}
use Rattle.write_plan.proofs.FoundSteps.{IsSoFar}
use Rattle.write_plan.proofs.pairs.find_cells.Given as goal

abbrev pub invariant-loop-pair : goal.invariant-loop-pair
invariant-loop-pair l = IsSoFar l.scale (take l.pair-index l.pairs) l.last l.cells.items
