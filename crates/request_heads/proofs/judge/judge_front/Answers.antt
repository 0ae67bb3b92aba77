use Rattle.std.proofs.Common.{◌≡◌, length, [], subst, arith}
use Rattle.std.proofs.lemmas.Grind.{common_steps}
use Rattle.httparse.specs.Grammar.{ReadsRequest}
use Rattle.request_heads.proofs.HeadSteps.{empty_none, never_has}
use Rattle.request_heads.proofs.judge.judge_front.Goals as goal

pub returns-then-is_empty : goal.returns-then-is_empty
returns-then-is_empty c = λ h rest x.
    let none : c.args.received.now ≡ [] = grind (arith, common_steps) in
    empty_none h rest (subst (λ b. ReadsRequest b h rest) none x)

pub returns-in-Err : goal.returns-in-Err
returns-in-Err c = (grind (arith, common_steps), never_has c.args.received.now (length c.args.spans.now) c.in-Err.field-0 c.requires.few c.requires.room c.in-Err.ensures.too_many c.in-Err.ensures.invalid)
