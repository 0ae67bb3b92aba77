use Rattle.std.proofs.Common.{◌≡◌, ◌-◌, ◌≤◌, length, take}
use Rattle.vol_base.specs.Gains.{Gains}
use Rattle.range_server.proofs.send.send_all.Given as goal

abbrev pub invariant-loop-done : goal.invariant-loop-done
invariant-loop-done g l = record {
  within : l.done ≤ length l.bytes;
  gained : Gains (g.L.Link.sent l.fn.link) (g.L.Link.sent l.link) (take l.done l.bytes);
  left : g.L.Link.left l.link ≡ g.L.Link.left l.fn.link;
  stream : g.L.Link.stream l.link ≡ g.L.Link.stream l.fn.link;
  later : g.L.Link.faults l.link ≡ g.L.Link.faults l.fn.link;
}

abbrev pub decreases-loop-done : goal.decreases-loop-done
decreases-loop-done g l = length l.bytes - l.done
