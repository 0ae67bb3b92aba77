use Rattle.std.proofs.Common.{◌≡◌, ◌≤◌, ◌-◌, ◌<◌, ℕ, List, length}
use Rattle.remote_store.specs.Dials.{OnlyReceives}
use Rattle.remote_store.proofs.Bodies.{Sofar}
use Rattle.remote_store.proofs.body.skip.Given as goal

abbrev pub invariant-loop-done : goal.invariant-loop-done
invariant-loop-done g l = record {
  within : l.done ≤ l.n;
  sofar : (gained : List ℕ) × Sofar gained l.done (g.D.Dial.received l.fn.dial) (g.D.Dial.received l.dial) (g.D.Dial.left l.fn.dial) (g.D.Dial.left l.dial) (g.D.Dial.line l.fn.dial) (g.D.Dial.line l.dial);
  room : 0 < length l.scratch;
  ends : g.D.Dial.ends l.fn.dial ≤ g.D.Dial.ends l.dial;
  held : g.D.Dial.holds l.dial ≡ g.D.Dial.holds l.fn.dial;
  same : OnlyReceives (g.D.Dial.peer l.fn.dial) (g.D.Dial.peer l.dial) (g.D.Dial.dialled l.fn.dial) (g.D.Dial.dialled l.dial) (g.D.Dial.sent l.fn.dial) (g.D.Dial.sent l.dial);
  stands : g.D.Dial.faults l.dial ≡ g.D.Dial.faults l.fn.dial;
}

abbrev pub decreases-loop-done : goal.decreases-loop-done
decreases-loop-done g l = l.n - l.done
