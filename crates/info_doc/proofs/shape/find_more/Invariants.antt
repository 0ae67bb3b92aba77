use Rattle.std.proofs.Common.{◌≡◌, ◌+◌, ◌-◌, ◌≤◌, length, take}
use Rattle.info_doc.proofs.MoreSteps.{more_of}
use Rattle.info_doc.proofs.shape.find_more.Given as goal

abbrev pub invariant-loop-at : goal.invariant-loop-at
invariant-loop-at l = record {
  some : 1 ≤ l.at;
  within : l.at ≤ length l.list;
  found : l.more ≡ more_of (take l.at l.list);
  count : length l.more + 1 ≡ l.at;
}

abbrev pub decreases-loop-at : goal.decreases-loop-at
decreases-loop-at l = length l.list - l.at
