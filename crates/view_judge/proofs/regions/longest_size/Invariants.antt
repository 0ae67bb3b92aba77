use Rattle.std.proofs.Common.{◌≡◌}
use Rattle.view_judge.specs.Regions.{longest_of}
use Rattle.view_judge.proofs.regions.longest_size.Given as goal

abbrev pub invariant-loop-k : goal.invariant-loop-k
invariant-loop-k l = record {
  longest : l.size ≡ longest_of l.scale l.k;
}
