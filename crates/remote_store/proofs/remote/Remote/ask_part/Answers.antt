use Rattle.std.proofs.Common.{IfOk, subst, string_bytes, ◌∙◌, ◌≤◌, take, length, ap, ◌<◌, arith}
use Rattle.vol_base.specs.Outside.{KeepsRest}
use Rattle.remote_store.specs.Bodies.{got_of_kind, stretch_count}
use Rattle.remote_store.specs.Sent.{Requests, SendsRequest, request_bytes}
use Rattle.remote_store.specs.Talks.{SaysPart}
use Rattle.remote_store.specs.declared.wanted.Wanted.TheVariants.{Part}
use Rattle.std.specs.Vec.{with_items}
use Rattle.remote_store.proofs.AskSteps.{asks_settled}
use Rattle.remote_store.proofs.JudgedSteps.{judged_part, written_front}
use Rattle.remote_store.proofs.RemoteSteps.{refilled, part_at, part_comes, replied_kept, settled, settled_cause, settled_end, settled_some}
use Rattle.remote_store.proofs.remote.Remote.ask_part.Goals as goal

pub invariant_of-self : goal.invariant_of-self
invariant_of-self g c =
    let s = c.args.self.now in
    let e = c.call_part-answer.ensures in
    let spans_old : 2730 ≤ length s.spans.items = s.spans_ok in
    let scratch_old : 0 < length s.scratch.items = s.scratch_ok in
    record {
      held = e.end.held;
      quiet = λ on. e.end.quiet on s.dataset c.requires.key s.quiet;
      named = s.named;
      host_ok = s.host_ok;
      peer_ok = s.peer_ok;
      text_ok = e.text;
      received_ok = refilled s.received c.call_part-answer.new.received ∙ s.received_ok;
      there_ok = e.within;
      scratch_ok = omega (arith, refilled s.scratch c.call_part-answer.new.scratch, scratch_old);
      spans_ok = omega (arith, refilled s.spans c.call_part-answer.new.spans, spans_old);
    }

pub returns-clause-told : goal.returns-clause-told
returns-clause-told g c =
    let s = c.args.self.now in
    let e = c.call_part-answer.ensures in
    settled c.call_part-answer.result c.settle.result c.settle.ensures.said (λ o. SaysPart s.dataset (g.D.Dial.peer s.dial) c.args.key.now c.args.at c.args.out.now c.call_part-answer.new.out o)
    (part_at s.dataset c.args.key.now s.kept (g.D.Dial.peer s.dial) (g.D.Dial.line s.dial) c.args.at c.args.out.now c.call_part-answer.new.out c.call_part-answer.result c.requires.key s.quiet e.told)

pub returns-clause-cause : goal.returns-clause-cause
returns-clause-cause g c =
    let s = c.args.self.now in
    let e = c.call_part-answer.ensures in
    let told = part_at s.dataset c.args.key.now s.kept (g.D.Dial.peer s.dial) (g.D.Dial.line s.dial) c.args.at c.args.out.now c.call_part-answer.new.out c.call_part-answer.result c.requires.key s.quiet e.told in
    settled_cause c.call_part-answer.result c.settle.result c.settle.ensures.said s.dataset (g.D.Dial.peer s.dial) (g.D.Dial.peer c.call_part-answer.new.dial) (g.D.Dial.faults s.dial) (g.D.Dial.faults c.call_part-answer.new.dial) s.faults c.settle.new.faults
    e.peer e.cause c.settle.ensures.stands c.settle.ensures.counted (part_comes s.dataset c.args.key.now (g.D.Dial.peer s.dial) c.args.at c.args.out.now c.call_part-answer.new.out c.call_part-answer.result told)

pub returns-clause-rest : goal.returns-clause-rest
returns-clause-rest g c =
    let x = c.call_part-answer.ensures.replied in
    settled_some c.call_part-answer.result c.settle.result c.settle.ensures.said (λ promise. KeepsRest c.args.out.now c.call_part-answer.new.out (got_of_kind promise.kind (stretch_count promise.kind promise.len c.args.at (length c.args.out.now))))
    (replied_kept c.args.at x.0 _ c.args.out.now c.call_part-answer.new.out _ _ _ _ _ c.call_part-answer.result x.1)

pub returns-clause-judged : goal.returns-clause-judged
returns-clause-judged g c =
    let s = c.args.self.now in
    let e = c.call_part-answer.ensures in
    let there = c.call_part-answer.new.there in
    let ws = c.call_part-answer.new.received in
    let front = written_front s.received ws there (c.call_part-answer.auto.received ∙ ap length c.as_mut_slice.ensures.value) in
    let x = e.replied in
    judged_part c.call_part-answer.result c.settle.result c.settle.ensures.said c.args.at x.0 _ (take there ws) c.args.out.now c.call_part-answer.new.out _ _ _ _ _ _ _ front x.1 e.cause

pub returns-clause-end : goal.returns-clause-end
returns-clause-end g c =
    let s = c.args.self.now in
    let e = c.call_part-answer.ensures in
    let front = written_front s.received c.call_part-answer.new.received c.call_part-answer.new.there (c.call_part-answer.auto.received ∙ ap length c.as_mut_slice.ensures.value) in
    settled_end c.call_part-answer.result c.settle.result c.settle.ensures.said c.args.key.now s.dataset (with_items s.received c.call_part-answer.new.received).items e.end e.cause c.requires.key s.quiet c.as_str.ensures.value front

pub returns-clause-sent : goal.returns-clause-sent
returns-clause-sent g c =
    let s = c.args.self.now in
    settled c.call_part-answer.result c.settle.result c.settle.ensures.said (λ o. Requests (string_bytes s.host, s.port) c.args.key.now (Part c.args.at (length c.args.out.now)) s.kept (g.D.Dial.peer s.dial) (g.D.Dial.line s.dial) (g.D.Dial.line c.call_part-answer.new.dial))
    (subst (λ host. IfOk c.call_part-answer.result (λ _. Requests (host, s.port) c.args.key.now (Part c.args.at (length c.args.out.now)) s.kept (g.D.Dial.peer s.dial) (g.D.Dial.line s.dial) (g.D.Dial.line c.call_part-answer.new.dial))) c.as_str.ensures.value c.call_part-answer.ensures.sent)

pub returns-clause-asks : goal.returns-clause-asks
returns-clause-asks g c =
    let s = c.args.self.now in
    let a = c.call_part-answer in
    asks_settled a.result c.settle.result (request_bytes (string_bytes s.host, s.port) c.args.key.now (Part c.args.at (length c.args.out.now))) (g.D.Dial.sent s.dial) (g.D.Dial.sent a.new.dial) c.settle.ensures.said
    (subst (λ host. SendsRequest (request_bytes (host, s.port) c.args.key.now (Part c.args.at (length c.args.out.now))) (g.D.Dial.sent s.dial) (g.D.Dial.sent a.new.dial) a.result) c.as_str.ensures.value a.ensures.asks)
