use Rattle.std.specs.Io.KnownBytes.{Keeps}
use Rattle.vol_shell.proofs.streams.write_some.Given as goal

-- what broke off wrote nothing
abbrev pub invariant-loop : goal.invariant-loop
invariant-loop g l = Keeps (g.W.Write.contents l.initial.inner) (g.W.Write.contents l.inner)
