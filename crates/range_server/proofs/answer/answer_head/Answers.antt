use Rattle.std.proofs.Common.{◌∙◌, subst}
use Rattle.range_server.specs.Bodies.{Cuts, Sends, failures}
use Rattle.range_server.proofs.answer.answer_head.Goals as goal

pub returns-in-Err-clause-cut : goal.returns-in-Err-clause-cut
returns-in-Err-clause-cut g c = λ m told head rest reads.
    subst (λ r. Cuts m r 0 (failures c.send_reply.new.writer.failing) (g.L.Link.sent c.args.link.now) (g.L.Link.sent c.send_reply.new.link) c.in-Err.fault) (c.in-Ok.ensures.reply m told head rest reads)
    (c.in-Err.ensures.cut m (c.in-Ok.ensures.reads.kept.same_objects ∙ told) (c.in-Ok.ensures.body m told))

pub returns-in-Ok-Broken-clause-answered : goal.returns-in-Ok-Broken-clause-answered
returns-in-Ok-Broken-clause-answered g c = λ m told head rest reads.
    subst (Sends m c.in-Ok.reply (g.L.Link.sent c.args.link.now) (g.L.Link.sent c.send_reply.new.link)) c.in-Ok-Broken.field-0-is
    (c.in-Ok-Broken.ensures.sent m (c.in-Ok.ensures.reads.kept.same_objects ∙ told) (c.in-Ok.ensures.body m told))
