use Rattle.std.proofs.Common.{◌≡◌, length}
use Rattle.range_server.specs.Digits.{skip_zeros}
use Rattle.range_server.proofs.digits.skip_zeros.Given as goal

abbrev pub invariant-loop-rest : goal.invariant-loop-rest
invariant-loop-rest l = skip_zeros l.rest ≡ skip_zeros l.digits

abbrev pub decreases-loop-rest : goal.decreases-loop-rest
decreases-loop-rest l = length l.rest
