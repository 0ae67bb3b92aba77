use Rattle.std.proofs.Common.{◌<◌, ℕ}
use Rattle.voxel_raw.proofs.Parts.{OnAxis}
use Rattle.grid_trials.proofs.voxel_raw_rows.lies_in.Given as goal

abbrev pub invariant-loop-axis : goal.invariant-loop-axis
invariant-loop-axis l = (a : ℕ) → a < l.axis → OnAxis l.part l.outer a
