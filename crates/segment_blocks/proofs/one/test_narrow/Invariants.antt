use Rattle.std.proofs.Common.{◌≡◌, ◌<◌, ◌≤◌, ℕ}
use Rattle.vol_spec.specs.Raw.{digit}
use Rattle.segment_blocks.proofs.one.test_narrow.Given as goal

abbrev pub invariant-loop-n : goal.invariant-loop-n
invariant-loop-n l = (m : ℕ) → l.from ≤ m → m < l.n → digit l.raw 4 m ≡ l.value
