use Rattle.std.proofs.Common.{◌≡◌, take}
use Rattle.write_plan.specs.Pairs.{pairs_from}
use Rattle.write_plan.specs.WriteLists.{writes_in}
use Rattle.write_plan.proofs.pairs.find_pairs.Given as goal

abbrev pub invariant-loop-number : goal.invariant-loop-number
invariant-loop-number l = l.pairs.items ≡ pairs_from l.scale 0 (take l.number (writes_in l.writes))
