use Rattle.std.proofs.Common.{◌≡◌, ◌∙◌, take, sym, subst, arith}
use Rattle.httparse.specs.Grammar.{HasNoResponse}
use Rattle.vol_base.specs.Causes.{Rose}
use Rattle.std.proofs.lemmas.Grind.{common_steps}
use Rattle.remote_store.proofs.ReplyHeads.{full_never}
use Rattle.remote_store.proofs.Received.{all_received, gains_on, given_on, no_end, rose_at_end}
use Rattle.remote_store.proofs.wait.wait_head.Goals as goal

pub returns-then-there-buffer-clause-found : goal.returns-then-there-buffer-clause-found
returns-then-there-buffer-clause-found g c =
    full_never (take c.loop-parts.there c.loop-parts.buffer) (grind (arith, common_steps, c.if-there-buffer.true, c.requires.size, c.loop-parts.auto.buffer)) c.in-Partial.ensures

pub loop-parts-preserved : goal.loop-parts-preserved
loop-parts-preserved g c =
    let i = c.loop-parts.invariant in
    let e = c.in_ok-more.ensures in
    let t = c.loop-parts.there in
    let n = c.in_ok-more.more in record {
      within = omega (arith, e.within, c.requires.size, c.loop-parts.auto.buffer);
      pending = e.pending ∙ i.pending;
      received = gains_on _ _ _ t n c.loop-parts.buffer c.receive.new.buffer i.received e.received e.kept e.more;
      line = given_on _ _ _ t n c.loop-parts.buffer c.receive.new.buffer i.line e.line e.kept e.more;
      ends = e.ends ∙ no_end n t _ e.more c.if-more-there.false ∙ i.ends;
      held = e.held ∙ i.held;
      same = record { same_peer = e.same.same_peer ∙ i.same.same_peer; same_dialled = e.same.same_dialled ∙ i.same.same_dialled; same_sent = e.same.same_sent ∙ i.same.same_sent };
      stands = e.cause.stands ∙ i.stands;
    }

pub returns-then-more-there-clause-found : goal.returns-then-more-there-clause-found
returns-then-more-there-clause-found g c =
    let t = c.loop-parts.there in
    let e = c.in_ok-more.ensures in
    let same : take t c.receive.new.buffer ≡ take t c.loop-parts.buffer = e.kept in
    let rose : Rose (g.D.Dial.ends c.args.dial.now) (g.D.Dial.ends c.receive.new.dial) = rose_at_end c.in_ok-more.more t _ _ _ c.if-more-there.true c.loop-parts.invariant.ends e.ends in (
      subst HasNoResponse (sym same) c.in-Partial.ensures,
      rose,
      all_received (g.D.Dial.left c.loop-parts.dial) (g.D.Dial.left c.args.dial.now) t c.loop-parts.buffer c.receive.new.buffer c.loop-parts.invariant.pending (e.end c.if-more-there.true) same,
    )
