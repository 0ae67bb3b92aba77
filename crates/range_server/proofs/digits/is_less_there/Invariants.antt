use Rattle.std.proofs.Common.{◌≡◌, length}
use Rattle.range_server.specs.Digits.{digits_less}
use Rattle.range_server.proofs.digits.is_less_there.Given as goal

abbrev pub invariant-loop-left : goal.invariant-loop-left
invariant-loop-left l = digits_less l.left l.right ≡ digits_less l.x l.y

abbrev pub decreases-loop-left : goal.decreases-loop-left
decreases-loop-left l = length l.left
