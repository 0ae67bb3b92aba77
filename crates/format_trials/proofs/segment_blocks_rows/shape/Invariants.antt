use Rattle.std.proofs.Common.{◌≤◌, ◌<◌, ℕ, slice_index}
use Rattle.format_trials.proofs.segment_blocks_rows.shape.Given as goal

abbrev pub invariant-loop-axis : goal.invariant-loop-axis
invariant-loop-axis l = (a : ℕ) → a < l.axis → ((1 ≤ slice_index l.size a) × (slice_index l.size a ≤ 32)) × ((1 ≤ slice_index l.block a) × (slice_index l.block a ≤ 33))
