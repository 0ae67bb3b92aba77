use Rattle.std.proofs.Common.{◌∙◌, IfSome, ap, subst, sym}
use Rattle.range_server.specs.Bodies.{HasBody}
use Rattle.range_server.specs.Plans.{IsPlan}
use Rattle.range_server.specs.Replies.{numbered}
use Rattle.range_server.proofs.ReplySteps.{numbered_body}
use Rattle.range_server.proofs.plan.plan_numbered.Goals as goal

pub returns-in-Ok-clause-body : goal.returns-in-Ok-clause-body
returns-in-Ok-clause-body g c = λ m told.
    subst (HasBody m) (sym c.number_reply.ensures.reply) (numbered_body m c.args.number c.in-Ok.reply (c.in-Ok.ensures.body m told))

pub returns-in-Ok-clause-reply : goal.returns-in-Ok-clause-reply
returns-in-Ok-clause-reply g c = λ m told head rest reads.
    c.number_reply.ensures.reply ∙ ap (numbered c.args.number) (subst (λ o. IfSome o (λ m. IsPlan m c.args.dataset.now c.args.received.now c.in-Ok.reply)) told c.in-Ok.ensures.reply head rest reads)
