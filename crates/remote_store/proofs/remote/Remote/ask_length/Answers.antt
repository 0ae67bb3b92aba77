use Rattle.std.proofs.Common.{IfOk, subst, string_bytes, ◌∙◌, ◌≤◌, take, length, length-take, ap, arith}
use Rattle.remote_store.specs.Sent.{Requests, SendsRequest, request_bytes}
use Rattle.remote_store.specs.Talks.{SaysLength}
use Rattle.remote_store.specs.declared.wanted.Wanted.TheVariants.{Length}
use Rattle.std.specs.Vec.{with_items}
use Rattle.remote_store.proofs.AskSteps.{asks_settled}
use Rattle.remote_store.proofs.JudgedSteps.{judged_length, written_front}
use Rattle.remote_store.proofs.RemoteSteps.{refilled, length_at, length_comes, settled, settled_cause, settled_end}
use Rattle.remote_store.proofs.remote.Remote.ask_length.Goals as goal

pub invariant_of-self : goal.invariant_of-self
invariant_of-self g c =
    let s = c.args.self.now in
    let e = c.call_length-answer.ensures in
    let spans_old : 2730 ≤ length s.spans.items = s.spans_ok in
    record {
      held = e.end.held;
      quiet = λ on. e.end.quiet on s.dataset c.requires s.quiet;
      named = s.named;
      host_ok = s.host_ok;
      peer_ok = s.peer_ok;
      text_ok = e.text;
      received_ok = refilled s.received c.call_length-answer.new.received ∙ s.received_ok;
      there_ok = e.within;
      scratch_ok = s.scratch_ok;
      spans_ok = omega (arith, refilled s.spans c.call_length-answer.new.spans, spans_old);
    }

pub returns-clause-told : goal.returns-clause-told
returns-clause-told g c =
    let s = c.args.self.now in
    let e = c.call_length-answer.ensures in
    settled c.call_length-answer.result c.settle.result c.settle.ensures.said (λ o. SaysLength s.dataset (g.D.Dial.peer s.dial) c.args.key.now o)
    (length_at s.dataset c.args.key.now s.kept (g.D.Dial.peer s.dial) (g.D.Dial.line s.dial) c.call_length-answer.result c.requires s.quiet e.told)

pub returns-clause-cause : goal.returns-clause-cause
returns-clause-cause g c =
    let s = c.args.self.now in
    let e = c.call_length-answer.ensures in
    let told = length_at s.dataset c.args.key.now s.kept (g.D.Dial.peer s.dial) (g.D.Dial.line s.dial) c.call_length-answer.result c.requires s.quiet e.told in
    settled_cause c.call_length-answer.result c.settle.result c.settle.ensures.said s.dataset (g.D.Dial.peer s.dial) (g.D.Dial.peer c.call_length-answer.new.dial) (g.D.Dial.faults s.dial) (g.D.Dial.faults c.call_length-answer.new.dial) s.faults c.settle.new.faults
    e.peer e.cause c.settle.ensures.stands c.settle.ensures.counted (length_comes s.dataset c.args.key.now (g.D.Dial.peer s.dial) c.call_length-answer.result told)

pub returns-clause-judged : goal.returns-clause-judged
returns-clause-judged g c =
    let s = c.args.self.now in
    let e = c.call_length-answer.ensures in
    let there = c.call_length-answer.new.there in
    let ws = c.call_length-answer.new.received in
    let front = written_front s.received ws there (c.call_length-answer.auto.received ∙ ap length c.as_mut_slice.ensures.value) in
    let few : length (take there ws) ≤ 8192 = omega (arith, length-take there ws, e.within) in
    judged_length c.call_length-answer.result c.settle.result c.settle.ensures.said (take there ws) _ _ _ _ _ _ _ _ front few e.received e.counted e.fits e.unfit e.cause

pub returns-clause-end : goal.returns-clause-end
returns-clause-end g c =
    let s = c.args.self.now in
    let e = c.call_length-answer.ensures in
    let front = written_front s.received c.call_length-answer.new.received c.call_length-answer.new.there (c.call_length-answer.auto.received ∙ ap length c.as_mut_slice.ensures.value) in
    settled_end c.call_length-answer.result c.settle.result c.settle.ensures.said c.args.key.now s.dataset (with_items s.received c.call_length-answer.new.received).items e.end e.cause c.requires s.quiet c.as_str.ensures.value front

pub returns-clause-sent : goal.returns-clause-sent
returns-clause-sent g c =
    let s = c.args.self.now in
    settled c.call_length-answer.result c.settle.result c.settle.ensures.said (λ o. Requests (string_bytes s.host, s.port) c.args.key.now Length s.kept (g.D.Dial.peer s.dial) (g.D.Dial.line s.dial) (g.D.Dial.line c.call_length-answer.new.dial))
    (subst (λ host. IfOk c.call_length-answer.result (λ _. Requests (host, s.port) c.args.key.now Length s.kept (g.D.Dial.peer s.dial) (g.D.Dial.line s.dial) (g.D.Dial.line c.call_length-answer.new.dial))) c.as_str.ensures.value c.call_length-answer.ensures.sent)

pub returns-clause-asks : goal.returns-clause-asks
returns-clause-asks g c =
    let s = c.args.self.now in
    let a = c.call_length-answer in
    asks_settled a.result c.settle.result (request_bytes (string_bytes s.host, s.port) c.args.key.now Length) (g.D.Dial.sent s.dial) (g.D.Dial.sent a.new.dial) c.settle.ensures.said
    (subst (λ host. SendsRequest (request_bytes (host, s.port) c.args.key.now Length) (g.D.Dial.sent s.dial) (g.D.Dial.sent a.new.dial) a.result) c.as_str.ensures.value a.ensures.asks)
