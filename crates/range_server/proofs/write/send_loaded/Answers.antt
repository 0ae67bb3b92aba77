use Rattle.std.proofs.Common.{take, refl}
use Rattle.range_server.specs.Bodies.{body_in}
use Rattle.range_server.proofs.ReplySteps.{body_none, body_nameless, lead_cut, lead_whole, rest_sent, rest_cut}
use Rattle.range_server.proofs.write.send_loaded.Goals as goal

pub returns-in-Err-clause-cut : goal.returns-in-Err-clause-cut
returns-in-Err-clause-cut g c = λ m told has head is. lead_cut head (body_in m c.args.reply.now) (take c.args.loaded.0 c.args.piece.now) c.args.loaded.1 (g.L.Link.sent c.args.link.now) (g.L.Link.sent c.send_all.new.link) is c.in-Err.ensures.front

pub returns-in_default-clause-sent : goal.returns-in_default-clause-sent
returns-in_default-clause-sent g c = λ m told has head is.
    lead_whole head (body_in m c.args.reply.now) (take c.args.loaded.0 c.args.piece.now) c.args.loaded.1 (g.L.Link.sent c.args.link.now) (g.L.Link.sent c.send_all.new.link) (body_nameless m c.args.reply.now c.in_default.is) is c.in-Ok.ensures.sent

pub returns-then-not-reply-clause-sent : goal.returns-then-not-reply-clause-sent
returns-then-not-reply-clause-sent g c = λ m told has head is.
    lead_whole head (body_in m c.args.reply.now) (take c.args.loaded.0 c.args.piece.now) c.args.loaded.1 (g.L.Link.sent c.args.link.now) (g.L.Link.sent c.send_all.new.link) (body_none m c.args.reply.now c.if-not-reply.true) is c.in-Ok.ensures.sent

pub returns-in-Ok-send_rest-clause-sent : goal.returns-in-Ok-send_rest-clause-sent
returns-in-Ok-send_rest-clause-sent g c = λ m told has head is.
    rest_sent m c.args.reply.now c.in-Some.name head (take c.args.loaded.0 c.args.piece.now) c.args.loaded.1 (g.L.Link.sent c.args.link.now) (g.L.Link.sent c.send_all.new.link) (g.L.Link.sent c.send_rest.new.link)
    c.if-not-reply.false c.in-Some.is has c.requires.taken is c.in-Ok.ensures.sent _ refl (c.in-Ok-send_rest.ensures.sent m told)

pub returns-in-Err-send_rest-clause-cut : goal.returns-in-Err-send_rest-clause-cut
returns-in-Err-send_rest-clause-cut g c = λ m told has head is.
    rest_cut m c.args.reply.now c.in-Some.name head (take c.args.loaded.0 c.args.piece.now) c.args.loaded.1 (g.L.Link.sent c.args.link.now) (g.L.Link.sent c.send_all.new.link) (g.L.Link.sent c.send_rest.new.link)
    c.if-not-reply.false c.in-Some.is has c.requires.taken is c.in-Ok.ensures.sent _ c.in-Err-send_rest.fault refl c.in-Err-send_rest.ensures.memory (c.in-Err-send_rest.ensures.cut m told)
