use Rattle.std.proofs.Common.{◌≡◌, ◌-◌, ◌≤◌}
use Rattle.request_heads.specs.Heads.{pending}
use Rattle.request_heads.proofs.wait.read_head.Given as goal

abbrev pub invariant-loop-parts : goal.invariant-loop-parts
invariant-loop-parts g l = record {
  within : l.there ≤ 8192;
  pending : pending l.buffer l.there (g.L.Link.left l.link) ≡ pending l.fn.buffer l.fn.len (g.L.Link.left l.fn.link);
  sent : g.L.Link.sent l.link ≡ g.L.Link.sent l.fn.link;
  stream : g.L.Link.stream l.link ≡ g.L.Link.stream l.fn.link;
  later : g.L.Link.faults l.link ≡ g.L.Link.faults l.fn.link;
}

abbrev pub decreases-loop-parts : goal.decreases-loop-parts
decreases-loop-parts g l = 8192 - l.there
