use Rattle.std.proofs.Common.{◌<◌, ℕ, slice_index}
use Rattle.segment_blocks.proofs.own.test_rises.Given as goal

abbrev pub invariant-loop-i : goal.invariant-loop-i
invariant-loop-i l = (a b : ℕ) → a < b → b < l.i → slice_index l.values a < slice_index l.values b
