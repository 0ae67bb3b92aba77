use Rattle.std.specs.Io.KnownBytes.{Keeps}
use Rattle.vol_shell.proofs.link.read_until.Given as goal

-- what broke off read nothing
abbrev pub invariant-loop : goal.invariant-loop
invariant-loop g l = Keeps (g.S.Read.remaining l.initial.stream) (g.S.Read.remaining l.stream)
