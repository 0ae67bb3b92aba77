use Rattle.std.specs.Io.KnownBytes.{Keeps}
use Rattle.vol_shell.proofs.streams.read_some.Given as goal

-- what broke off read nothing
abbrev pub invariant-loop : goal.invariant-loop
invariant-loop g l = Keeps (g.R.Read.remaining l.initial.inner) (g.R.Read.remaining l.inner)
