use Rattle.std.proofs.Common.{◌≡◌, ◌≤◌, ◌*◌, ◌^◌, take}
use Rattle.size_laws.specs.Further.{further}
use Rattle.view_judge.specs.Judging.{cells_of}
use Rattle.view_judge.proofs.counts.count_view_cells.Given as goal

abbrev pub invariant-loop-k : goal.invariant-loop-k
invariant-loop-k l = record {
  counted : l.count ≡ cells_of (take l.k (further l.scale)) l.part;
  small : l.count ≤ l.k * 2 ^ 121;
}
