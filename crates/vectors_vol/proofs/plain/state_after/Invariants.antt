use Rattle.std.proofs.Common.{◌≡◌, ◌<◌, ◌^◌}
use Rattle.vectors_vol.specs.Draws.{state_behind}
use Rattle.vectors_vol.proofs.plain.state_after.Given as goal

abbrev pub invariant-loop-done : goal.invariant-loop-done
invariant-loop-done l = (l.state ≡ state_behind l.fn.state l.done) × (l.state < 2 ^ 31)
