use Rattle.std.proofs.Common.{◌≡◌, take}
use Rattle.write_plan.specs.Plans.{pairs}
use Rattle.write_plan.specs.WriteLists.{writes_in}
use Rattle.write_plan.proofs.pairs.count_pairs.Given as goal

abbrev pub invariant-loop-write : goal.invariant-loop-write
invariant-loop-write l = l.count ≡ pairs l.scale (take l.write-index (writes_in l.writes))
