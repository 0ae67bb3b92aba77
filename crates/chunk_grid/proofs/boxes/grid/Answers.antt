use Rattle.chunk_grid.proofs.GridSteps.{counts_fit}
use Rattle.chunk_grid.proofs.boxes.grid.Goals as goal

pub invariant_of-result : goal.invariant_of-result
invariant_of-result c = record { size_ok = counts_fit c.args.scale.now _ _ _ c.count_blocks.ensures c.count_blocks-2.ensures c.count_blocks-3.ensures }
