use Rattle.std.proofs.Common.{◌≡◌, ◌<◌, ◌≤◌, ℕ}
use Rattle.segment_blocks.specs.Row.{index_in}
use Rattle.segment_blocks.proofs.own.test_rest.Given as goal

abbrev pub invariant-loop-m : goal.invariant-loop-m
invariant-loop-m l = (j : ℕ) → l.n ≤ j → j < l.m → index_in l.values l.bits j ≡ 0
