use Rattle.std.proofs.Common.{◌∙◌, sym, arith}
use Rattle.remote_store.proofs.HeardParts.{judged_never, many_never}
use Rattle.remote_store.proofs.judge.judge_front_of.Goals as goal

pub returns-in-None-clause-never : goal.returns-in-None-clause-never
returns-in-None-clause-never c = λ _. judged_never c.args.wanted c.args.received.now c.args.spans.now c.args.parts.now c.requires.parts c.judge_reply.result c.in-None.is c.judge_reply.ensures

pub returns-then-received-parts-clause-never : goal.returns-then-received-parts-clause-never
returns-then-received-parts-clause-never c = λ _.
    many_never c.args.wanted c.args.received.now c.args.spans.now c.args.parts.now c.requires.parts c.in-Some.promise (λ head rest x. sym c.in-Some.is ∙ c.judge_reply.ensures head rest x)
    (omega (arith, c.count_following.ensures, c.if-received-parts.true))
