use Rattle.std.proofs.Common.{◌≡◌, ◌*◌, ◌^◌, ◌-◌, ◌≤◌, length, take}
use Rattle.write_plan.specs.Plans.{pairs}
use Rattle.view_writer.proofs.pairs.count_pairs.Given as goal

abbrev pub invariant-loop-write : goal.invariant-loop-write
invariant-loop-write l = record {
  within : l.write ≤ length l.writes;
  counted : l.count ≡ pairs l.scale (take l.write l.writes);
  small : l.count ≤ l.write * 2 ^ 64;
}

abbrev pub decreases-loop-write : goal.decreases-loop-write
decreases-loop-write l = length l.writes - l.write
