use Rattle.std.proofs.Common.{take}
use Rattle.remote_store.proofs.HeardParts.{counted_nothing}
use Rattle.remote_store.proofs.AskSteps.{front_still, whole_still}
use Rattle.remote_store.proofs.SentSteps.{sent_once}
use Rattle.remote_store.proofs.ToldParts.{told_once}
use Rattle.remote_store.proofs.start.ask_once.Goals as goal

pub returns-in-Err-clause-counted : goal.returns-in-Err-clause-counted
returns-in-Err-clause-counted g c = counted_nothing c.args.wanted

pub returns-clause-told : goal.returns-clause-told
returns-clause-told g c =
    let b = c.begin-answer in
    told_once c.args.wanted c.args.text.now (take b.new.there b.new.received) (g.D.Dial.peer c.args.dial.now) (g.D.Dial.peer c.send_all.new.dial)
    (g.D.Dial.line c.args.dial.now) (g.D.Dial.line c.send_all.new.dial) (g.D.Dial.line b.new.dial) (g.D.Dial.left c.send_all.new.dial) (g.D.Dial.left b.new.dial) _ _
    c.send_all.ensures.same.same_peer c.in-Ok.ensures.line (g.met.D.Dial.replies c.send_all.new.dial) (g.met.D.Dial.plain c.send_all.new.dial) b.result b.ensures.came b.ensures.unfit

pub returns-clause-sent : goal.returns-clause-sent
returns-clause-sent g c =
    let b = c.begin-answer in
    sent_once b.result c.args.text.now _ _ _ (g.D.Dial.line c.args.dial.now) (g.D.Dial.line c.send_all.new.dial) (g.D.Dial.line b.new.dial) c.in-Ok.ensures.line b.ensures.came

pub returns-clause-whole : goal.returns-clause-whole
returns-clause-whole g c =
    whole_still c.begin-answer.result c.args.text.now (g.D.Dial.sent c.args.dial.now) (g.D.Dial.sent c.send_all.new.dial) (g.D.Dial.sent c.begin-answer.new.dial) c.begin-answer.ensures.same.same_sent c.in-Ok.ensures.sent

pub returns-clause-front : goal.returns-clause-front
returns-clause-front g c =
    front_still c.args.text.now (g.D.Dial.sent c.args.dial.now) (g.D.Dial.sent c.send_all.new.dial) (g.D.Dial.sent c.begin-answer.new.dial) c.begin-answer.ensures.same.same_sent c.send_all.ensures.front
