use Rattle.std.proofs.Common.{◌≡◌}
use Rattle.pipes.proofs.ahead.read_some.Given as goal

-- what broke off took nothing
abbrev pub invariant-loop : goal.invariant-loop
invariant-loop g l = g.P.PipeIn.coming l.pipe ≡ g.P.PipeIn.coming l.initial.pipe
