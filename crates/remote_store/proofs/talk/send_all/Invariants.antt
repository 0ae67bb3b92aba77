use Rattle.std.proofs.Common.{◌≡◌, ◌-◌, ◌≤◌, length, take, option_map}
use Rattle.vol_base.specs.Gains.{Gains}
use Rattle.remote_store.specs.Dials.{SamePeer, sent_more}
use Rattle.remote_store.proofs.talk.send_all.Given as goal

abbrev pub invariant-loop-done : goal.invariant-loop-done
invariant-loop-done g l = record {
  within : l.done ≤ length l.bytes;
  line : g.D.Dial.line l.dial ≡ option_map (sent_more (take l.done l.bytes)) (g.D.Dial.line l.fn.dial);
  gained : Gains (g.D.Dial.sent l.fn.dial) (g.D.Dial.sent l.dial) (take l.done l.bytes);
  received : g.D.Dial.received l.dial ≡ g.D.Dial.received l.fn.dial;
  ends : g.D.Dial.ends l.dial ≡ g.D.Dial.ends l.fn.dial;
  held : g.D.Dial.holds l.dial ≡ g.D.Dial.holds l.fn.dial;
  same : SamePeer (g.D.Dial.peer l.fn.dial) (g.D.Dial.peer l.dial) (g.D.Dial.dialled l.fn.dial) (g.D.Dial.dialled l.dial);
  stands : g.D.Dial.faults l.dial ≡ g.D.Dial.faults l.fn.dial;
}

abbrev pub decreases-loop-done : goal.decreases-loop-done
decreases-loop-done g l = length l.bytes - l.done
