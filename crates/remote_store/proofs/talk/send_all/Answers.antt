use Rattle.std.proofs.Common.{◌∙◌, length, ◌-◌, arith}
use Rattle.vol_base.proofs.Gained.{gained-next}
use Rattle.remote_store.proofs.Received.{sent_next}
use Rattle.remote_store.proofs.talk.send_all.Goals as goal

pub loop-done-preserved : goal.loop-done-preserved
loop-done-preserved g c =
    let i = c.loop-done.invariant in
    let e = c.in-Ok.ensures in record {
      within = omega (arith, e.some);
      line = sent_next _ _ _ c.args.bytes.now c.loop-done.done c.in-Ok.n (length c.args.bytes.now - c.loop-done.done) i.line (omega (arith, e.some)) e.line;
      gained = gained-next _ _ _ c.args.bytes.now c.loop-done.done c.in-Ok.n (length c.args.bytes.now - c.loop-done.done) i.gained (omega (arith, e.some)) (omega (arith, e.some)) e.sent;
      received = c.send.ensures.received ∙ i.received;
      ends = c.send.ensures.ends ∙ i.ends;
      held = c.send.ensures.held ∙ i.held;
      same = record { same_peer = c.send.ensures.same.same_peer ∙ i.same.same_peer; same_dialled = c.send.ensures.same.same_dialled ∙ i.same.same_dialled };
      stands = e.cause.stands ∙ i.stands;
    }
