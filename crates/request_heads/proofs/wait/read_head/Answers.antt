use Rattle.std.proofs.Common.{take, IfSome, subst, arith}
use Rattle.std.proofs.lemmas.Grind.{common_steps}
use Rattle.request_heads.specs.Answers.{IsNext}
use Rattle.request_heads.specs.declared.kinds.Next.TheVariants as next
use Rattle.request_heads.proofs.WaitSteps.{next_full}
use Rattle.request_heads.proofs.wait.read_head.Goals as goal

pub returns-then-there-buffer-clause-next : goal.returns-then-there-buffer-clause-next
returns-then-there-buffer-clause-next g c =
    subst (λ o. IfSome o (λ stream. IsNext stream next.Bad)) c.loop-parts.invariant.pending
    (next_full (g.L.Link.left c.loop-parts.link) (take c.loop-parts.there c.loop-parts.buffer) (grind (arith, common_steps, c.if-there-buffer.true, c.requires.size, c.loop-parts.auto.buffer)) c.in-Partial.ensures)
