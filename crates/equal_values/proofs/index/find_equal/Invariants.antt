use Rattle.std.proofs.Common.{◌<◌, ℕ, IsTrue, length}
use Rattle.equal_values.specs.Chains.{LeadsTo}
use Rattle.equal_values.proofs.index.find_equal.Given as goal

abbrev pub invariant-loop-cursor : goal.invariant-loop-cursor
invariant-loop-cursor g l =
    let k = g.S.Sought.number l.sought in
    let hash = g.S.Sought.home_of l.sought (length l.heads) in
    LeadsTo hash (g.S.Sought.placed l.sought) (hash k) k l.cursor
    × ((j : ℕ) → j < k → IsTrue (g.S.Sought.placed l.sought j) → IsTrue (g.S.Sought.equals l.sought j) → j < l.cursor)

abbrev pub decreases-loop-cursor : goal.decreases-loop-cursor
decreases-loop-cursor g l = l.cursor
