use Rattle.std.proofs.Common.{◌≡◌, ◌++◌, Some, None, inl, take}
use Rattle.std.proofs.lemmas.Result.{IfOk-weaker}
use Rattle.remote_store.proofs.AskSteps.{asks_last, front_still, front_twice, once_front}
use Rattle.remote_store.proofs.SentSteps.{sent_new, some_kept}
use Rattle.remote_store.proofs.ToldParts.{told_kept, told_new}
use Rattle.remote_store.proofs.start.start.Goals as goal

pub returns-in-Ok-Some-clause-told : goal.returns-in-Ok-Some-clause-told
returns-in-Ok-Some-clause-told g c =
    let is : c.in-Ok-Some.field-0 ≡ Some c.in-Ok-Some.answer = cc in
    told_kept c.args.wanted c.args.text.now (take c.ask_kept.new.there c.ask_kept.new.received) c.args.host.now c.args.port c.args.kept (g.D.Dial.peer c.args.dial.now) (g.D.Dial.line c.args.dial.now)
    (g.D.Dial.line c.ask_kept.new.dial) (g.D.Dial.left c.ask_kept.new.dial) c.in-Ok-Some.answer c.in-Ok-Some.field-0 is c.in-Ok-Some.ensures.told

pub returns-clause-told : goal.returns-clause-told
returns-clause-told g c =
    told_new c.args.wanted c.args.text.now (take c.ask_once.new.there c.ask_once.new.received) c.args.host.now c.args.port c.args.kept (g.D.Dial.peer c.args.dial.now) (g.D.Dial.peer c.ask_kept.new.dial) (g.D.Dial.peer c.dial.new.self)
    (g.D.Dial.line c.args.dial.now) (g.D.Dial.line c.dial.new.self) (g.D.Dial.line c.ask_once.new.dial) (g.D.Dial.left c.ask_once.new.dial) c.ask_once.result c.ask_kept.ensures.same.same_peer c.dial.ensures.peer c.in-Ok.ensures.line c.ask_once.ensures.told

pub returns-clause-goes_on : goal.returns-clause-goes_on
returns-clause-goes_on g c =
    let none : c.in-Ok-None.field-0 ≡ None = cc in
    IfOk-weaker c.ask_once.result _ _ (λ _ _ dataset key asks on quiet served. absurd (c.in-Ok-None.ensures.goes_on none dataset c.args.host.now key c.args.port asks on quiet served)) c.ask_once.ensures.begun

pub returns-in-Ok-Some-clause-sent : goal.returns-in-Ok-Some-clause-sent
returns-in-Ok-Some-clause-sent g c =
    let is : c.in-Ok-Some.field-0 ≡ Some c.in-Ok-Some.answer = cc in
    some_kept c.in-Ok-Some.field-0 c.in-Ok-Some.answer is c.in-Ok-Some.ensures.sent

pub returns-clause-sent : goal.returns-clause-sent
returns-clause-sent g c =
    sent_new c.ask_once.result c.args.kept c.args.text.now (g.D.Dial.peer c.args.dial.now) (g.D.Dial.peer c.ask_kept.new.dial) (g.D.Dial.line c.args.dial.now) (g.D.Dial.line c.dial.new.self) (g.D.Dial.line c.ask_once.new.dial)
    c.ask_kept.ensures.same.same_peer c.in-Ok.ensures.line c.ask_once.ensures.sent

pub returns-in-Ok-Some-clause-asks : goal.returns-in-Ok-Some-clause-asks
returns-in-Ok-Some-clause-asks g c =
    let is : c.in-Ok-Some.field-0 ≡ Some c.in-Ok-Some.answer = cc in record {
      whole = inl (some_kept c.in-Ok-Some.field-0 c.in-Ok-Some.answer is c.in-Ok-Some.ensures.whole);
      front = front_twice c.args.text.now (g.D.Dial.sent c.args.dial.now) (g.D.Dial.sent c.ask_kept.new.dial) c.ask_kept.ensures.front;
    }

pub returns-in-Err-clause-asks : goal.returns-in-Err-clause-asks
returns-in-Err-clause-asks g c = record { whole = tt; front = front_twice c.args.text.now (g.D.Dial.sent c.args.dial.now) (g.D.Dial.sent c.ask_kept.new.dial) c.ask_kept.ensures.front }

pub returns-in-Err-dial-clause-asks : goal.returns-in-Err-dial-clause-asks
returns-in-Err-dial-clause-asks g c =
    let none : c.in-Ok-None.field-0 ≡ None = cc in
    let text = c.args.text.now in record {
      whole = tt;
      front = front_still (text ++ text) (g.D.Dial.sent c.args.dial.now) (g.D.Dial.sent c.ask_kept.new.dial) (g.D.Dial.sent c.dial.new.self) c.dial.ensures.sent (once_front text (g.D.Dial.sent c.args.dial.now) (g.D.Dial.sent c.ask_kept.new.dial) (c.in-Ok-None.ensures.once none));
    }

pub returns-clause-asks : goal.returns-clause-asks
returns-clause-asks g c =
    let none : c.in-Ok-None.field-0 ≡ None = cc in
    asks_last c.ask_once.result c.args.text.now (g.D.Dial.sent c.args.dial.now) (g.D.Dial.sent c.ask_kept.new.dial) (g.D.Dial.sent c.dial.new.self) (g.D.Dial.sent c.ask_once.new.dial) (c.in-Ok-None.ensures.once none) c.dial.ensures.sent c.ask_once.ensures.whole c.ask_once.ensures.front
