use Rattle.std.proofs.Common.{◌≡◌, ◌∙◌, ◌≤◌, ◌-◌, ◌++◌, option_map, IfSome, take, drop, length, subst, sym, arith}
use Rattle.vol_base.specs.Causes.{Rose}
use Rattle.vol_base.specs.Gains.{Gains}
use Rattle.request_heads.specs.Heads.{pending}
use Rattle.remote_store.specs.Dials.{given_more}
use Rattle.remote_store.proofs.Bodies.{came_behind, gained_length, gains_from, given_from, kept_from, nothing_left}
use Rattle.remote_store.proofs.Received.{no_end, rose_at_end}
use Rattle.remote_store.proofs.body.fill.Goals as goal

pub returns-then-more-there-clause-passed : goal.returns-then-more-there-clause-passed
returns-then-more-there-clause-passed g c =
    let i = c.loop-there.invariant in
    let e = c.in_ok-more.ensures in
    let a = c.loop-there.buffer in
    let b = c.receive.new.buffer in
    let t0 = c.args.there.now in
    let t = c.loop-there.there in
    let n = c.in_ok-more.more in
    let is = c.if-more-there.true in
    let within : t ≤ length b = omega (arith, i.within, c.receive.auto.buffer) in
    let rose : Rose (g.D.Dial.ends c.args.dial.now) (g.D.Dial.ends c.receive.new.dial) = rose_at_end n t _ _ _ is i.ends e.ends in
    let middle : option_map (λ bytes. drop t0 (take t a) ++ bytes) (g.D.Dial.left c.loop-there.dial) ≡ g.D.Dial.left c.args.dial.now = came_behind c.args.buffer.now a t0 t _ _ i.more i.kept i.pending in
    let whole : pending b t (g.D.Dial.left c.receive.new.dial) ≡ pending c.args.buffer.now t0 (g.D.Dial.left c.args.dial.now) =
    subst (λ k. pending b k (g.D.Dial.left c.receive.new.dial) ≡ pending c.args.buffer.now t0 (g.D.Dial.left c.args.dial.now)) is (e.pending ∙ i.pending) in
    let all = nothing_left (g.D.Dial.left c.args.dial.now) (g.D.Dial.left c.loop-there.dial) (drop t0 (take t a)) middle (e.end is) in
    record {
      within = omega (arith, gained_length b t0 t within, within, c.receive.auto.buffer, c.loop-there.auto.buffer);
      received = subst (λ k. Gains (g.D.Dial.received c.args.dial.now) (g.D.Dial.received c.receive.new.dial) (drop t0 (take k b))) is (gains_from _ _ _ t0 t n a b i.received e.received e.kept i.more e.more);
      came = record {
        left = came_behind c.args.buffer.now b t0 t _ _ i.more (kept_from t0 t c.args.buffer.now a b i.more e.kept i.kept) whole;
        line = subst (λ k. g.D.Dial.line c.receive.new.dial ≡ option_map (given_more (drop t0 (take k b))) (g.D.Dial.line c.args.dial.now)) is (given_from _ _ _ t0 t n a b i.line e.line e.kept i.more e.more);
      };
      ended = λ _. record { rose = rose; all = subst (λ z. IfSome (g.D.Dial.left c.args.dial.now) (λ stream. stream ≡ drop t0 z)) (sym e.kept) all };
      later = omega (arith, rose, (g.met.D.Dial.counts c.args.dial.now).0);
    }

pub loop-there-preserved : goal.loop-there-preserved
loop-there-preserved g c =
    let i = c.loop-there.invariant in
    let e = c.in_ok-more.ensures in
    let a = c.loop-there.buffer in
    let b = c.receive.new.buffer in
    let t0 = c.args.there.now in
    let t = c.loop-there.there in
    let n = c.in_ok-more.more in record {
      more = omega (arith, i.more, e.more);
      within = omega (arith, e.within, c.receive.auto.buffer);
      kept = kept_from t0 t c.args.buffer.now a b i.more e.kept i.kept;
      pending = e.pending ∙ i.pending;
      received = gains_from _ _ _ t0 t n a b i.received e.received e.kept i.more e.more;
      line = given_from _ _ _ t0 t n a b i.line e.line e.kept i.more e.more;
      ends = e.ends ∙ no_end n t _ e.more c.if-more-there.false ∙ i.ends;
      held = e.held ∙ i.held;
      same = record { same_peer = e.same.same_peer ∙ i.same.same_peer; same_dialled = e.same.same_dialled ∙ i.same.same_dialled; same_sent = e.same.same_sent ∙ i.same.same_sent };
      stands = e.cause.stands ∙ i.stands;
    }

pub returns-clause-passed : goal.returns-clause-passed
returns-clause-passed g c =
    let i = c.loop-there.invariant in
    let a = c.loop-there.buffer in
    let t0 = c.args.there.now in
    let t = c.loop-there.there in
    let long : length (drop t0 (take t a)) ≡ t - t0 = gained_length a t0 t i.within in record {
      within = omega (arith, long, i.within, c.loop-there.auto.buffer);
      received = i.received;
      came = record { left = came_behind c.args.buffer.now a t0 t _ _ i.more i.kept i.pending; line = i.line };
      ended = λ short. absurd (omega (arith, long, short, c.loop-there-test.false, i.more, c.loop-there.auto.buffer));
      later = omega (arith, i.ends);
    }
