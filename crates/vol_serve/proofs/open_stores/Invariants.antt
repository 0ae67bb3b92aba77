use Rattle.std.proofs.Common.{◌≡◌, length}
use Rattle.vol_serve.proofs.open_stores.Given as goal

-- a store for each turn
abbrev pub invariant-loop-i : goal.invariant-loop-i
invariant-loop-i l = length l.stores.items ≡ l._i
