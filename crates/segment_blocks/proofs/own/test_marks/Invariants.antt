use Rattle.std.proofs.Common.{◌≢◌, ◌<◌, ℕ, slice_index}
use Rattle.segment_blocks.proofs.own.test_marks.Given as goal

abbrev pub invariant-loop-i : goal.invariant-loop-i
invariant-loop-i l = (j : ℕ) → j < l.i → slice_index l.marks j ≢ 0
