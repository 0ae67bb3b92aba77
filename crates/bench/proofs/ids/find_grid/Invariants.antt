use Rattle.std.proofs.Common.{◌≤◌, ◌<◌, ◌^◌, ℕ, slice_index}
use Rattle.bench.proofs.ids.find_grid.Given as goal

abbrev pub invariant-loop-axis : goal.invariant-loop-axis
invariant-loop-axis l = (a : ℕ) → a < l.axis → (1 ≤ slice_index l.size a) × (slice_index l.size a ≤ 2 ^ 40)
