use Rattle.std.proofs.Common.{◌≡◌, ◌+◌, ◌*◌, ◌<◌, ◌≤◌, ℕ}
use Rattle.vol_spec.specs.Raw.{digit}
use Rattle.segment_blocks.proofs.one.test_wide.Given as goal

abbrev pub invariant-loop-i : goal.invariant-loop-i
invariant-loop-i l = (m : ℕ) → l.from ≤ m → m < l.from + 4 * l.i → digit l.raw 8 m ≡ l.value

abbrev pub invariant-loop-n : goal.invariant-loop-n
invariant-loop-n l = (m : ℕ) → l.from ≤ m → m < l.n → digit l.raw 8 m ≡ l.value
