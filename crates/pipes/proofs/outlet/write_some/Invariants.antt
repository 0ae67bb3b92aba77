use Rattle.std.proofs.Common.{◌≡◌}
use Rattle.pipes.proofs.outlet.write_some.Given as goal

-- what broke off took nothing
abbrev pub invariant-loop : goal.invariant-loop
invariant-loop g l = g.P.PipeOut.went l.pipe ≡ g.P.PipeOut.went l.initial.pipe
