use Rattle.std.proofs.Common.{◌≡◌, length}
use Rattle.wire_trials.proofs.meeting_rows.stores_of.Given as goal

abbrev pub invariant-loop-i : goal.invariant-loop-i
invariant-loop-i l = length l.stores.items ≡ l._i
