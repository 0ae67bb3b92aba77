use Rattle.std.proofs.Common.{arith}
use Rattle.voxel_raw.proofs.Parts.{within}
use Rattle.grid_trials.proofs.voxel_raw_rows.lies_in.Goals as goal

pub returns : goal.returns
returns c = λ _. within c.args.part.now c.args.outer.now (λ a h. c.loop-axis.invariant a (omega arith))
