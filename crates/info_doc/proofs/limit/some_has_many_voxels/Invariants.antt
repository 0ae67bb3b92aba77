use Rattle.std.proofs.Common.{◌≡◌, ◌-◌, ◌≤◌, false, length, take}
use Rattle.std.specs.List.{list_any}
use Rattle.info_doc.specs.Steps.{has_many_voxels}
use Rattle.info_doc.proofs.limit.some_has_many_voxels.Given as goal

abbrev pub invariant-loop-at : goal.invariant-loop-at
invariant-loop-at l = record {
  within : l.at ≤ length l.chunks;
  none : list_any (has_many_voxels l.encoding l.channels l.size) (take l.at l.chunks) ≡ false;
}

abbrev pub decreases-loop-at : goal.decreases-loop-at
decreases-loop-at l = length l.chunks - l.at
