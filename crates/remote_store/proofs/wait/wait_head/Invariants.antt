use Rattle.std.proofs.Common.{◌≡◌, ◌-◌, ◌≤◌, [], take, option_map}
use Rattle.request_heads.specs.Heads.{pending}
use Rattle.vol_base.specs.Gains.{Gains}
use Rattle.remote_store.specs.Dials.{OnlyReceives, given_more}
use Rattle.remote_store.proofs.wait.wait_head.Given as goal

abbrev pub invariant-loop-parts : goal.invariant-loop-parts
invariant-loop-parts g l = record {
  within : l.there ≤ 8192;
  pending : pending l.buffer l.there (g.D.Dial.left l.dial) ≡ pending [] 0 (g.D.Dial.left l.fn.dial);
  received : Gains (g.D.Dial.received l.fn.dial) (g.D.Dial.received l.dial) (take l.there l.buffer);
  line : g.D.Dial.line l.dial ≡ option_map (given_more (take l.there l.buffer)) (g.D.Dial.line l.fn.dial);
  ends : g.D.Dial.ends l.dial ≡ g.D.Dial.ends l.fn.dial;
  held : g.D.Dial.holds l.dial ≡ g.D.Dial.holds l.fn.dial;
  same : OnlyReceives (g.D.Dial.peer l.fn.dial) (g.D.Dial.peer l.dial) (g.D.Dial.dialled l.fn.dial) (g.D.Dial.dialled l.dial) (g.D.Dial.sent l.fn.dial) (g.D.Dial.sent l.dial);
  stands : g.D.Dial.faults l.dial ≡ g.D.Dial.faults l.fn.dial;
}

abbrev pub decreases-loop-parts : goal.decreases-loop-parts
decreases-loop-parts g l = 8192 - l.there
