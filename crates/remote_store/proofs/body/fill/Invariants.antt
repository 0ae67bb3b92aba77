use Rattle.std.proofs.Common.{◌≡◌, ◌-◌, ◌≤◌, take, drop, length, option_map}
use Rattle.request_heads.specs.Heads.{pending}
use Rattle.vol_base.specs.Gains.{Gains}
use Rattle.remote_store.specs.Dials.{OnlyReceives, given_more}
use Rattle.remote_store.proofs.body.fill.Given as goal

abbrev pub invariant-loop-there : goal.invariant-loop-there
invariant-loop-there g l = record {
  more : l.fn.there ≤ l.there;
  within : l.there ≤ length l.buffer;
  kept : take l.fn.there l.buffer ≡ take l.fn.there l.fn.buffer;
  pending : pending l.buffer l.there (g.D.Dial.left l.dial) ≡ pending l.fn.buffer l.fn.there (g.D.Dial.left l.fn.dial);
  received : Gains (g.D.Dial.received l.fn.dial) (g.D.Dial.received l.dial) (drop l.fn.there (take l.there l.buffer));
  line : g.D.Dial.line l.dial ≡ option_map (given_more (drop l.fn.there (take l.there l.buffer))) (g.D.Dial.line l.fn.dial);
  ends : g.D.Dial.ends l.dial ≡ g.D.Dial.ends l.fn.dial;
  held : g.D.Dial.holds l.dial ≡ g.D.Dial.holds l.fn.dial;
  same : OnlyReceives (g.D.Dial.peer l.fn.dial) (g.D.Dial.peer l.dial) (g.D.Dial.dialled l.fn.dial) (g.D.Dial.dialled l.dial) (g.D.Dial.sent l.fn.dial) (g.D.Dial.sent l.dial);
  stands : g.D.Dial.faults l.dial ≡ g.D.Dial.faults l.fn.dial;
}

abbrev pub decreases-loop-there : goal.decreases-loop-there
decreases-loop-there g l = length l.buffer - l.there
