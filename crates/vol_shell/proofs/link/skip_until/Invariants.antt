use Rattle.std.proofs.Common.{◌≤◌, ◌-◌}
use Rattle.vol_shell.specs.Effects.{LosesAtMost}
use Rattle.vol_shell.proofs.link.skip_until.Given as goal

-- what was read away so far
abbrev pub invariant-loop-left : goal.invariant-loop-left
invariant-loop-left g l = record {
  within : l.left ≤ 65536;
  lost : LosesAtMost (65536 - l.left) (g.S.Read.remaining l.fn.stream) (g.S.Read.remaining l.stream);
}

abbrev pub decreases-loop-left : goal.decreases-loop-left
decreases-loop-left g l = l.left
