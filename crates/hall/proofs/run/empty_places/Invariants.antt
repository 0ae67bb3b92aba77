use Rattle.std.proofs.Common.{◌≡◌, length}
use Rattle.hall.proofs.run.empty_places.Given as goal

abbrev pub invariant-loop-i : goal.invariant-loop-i
invariant-loop-i g l = length l.places.items ≡ l._i
