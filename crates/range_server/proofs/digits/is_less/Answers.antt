use Rattle.std.proofs.Common.{◌≡◌, ◌≢◌, ◌∙◌, nat_lt, length, ap, sym, arith}
use Rattle.std.proofs.lemmas.Grind.{common_steps}
use Rattle.range_server.specs.Digits.{digits_less}
use Rattle.range_server.proofs.DigitSteps.{less_same, less_apart}
use Rattle.range_server.proofs.digits.is_less.Goals as goal

pub returns-then-left-right : goal.returns-then-left-right
returns-then-left-right c =
    let one = ap length c.skip_zeros-left.ensures in
    let two = ap length c.skip_zeros-right.ensures in
    let same : length c.skip_zeros-left.result.now ≡ length c.skip_zeros-right.result.now = grind (arith, common_steps, c.if-left-right.true) in
    c.is_less_there.ensures ∙ (λ i. digits_less (c.skip_zeros-left.ensures i) (c.skip_zeros-right.ensures i))
    ∙ less_same c.args.x.now c.args.y.now c.requires.x c.requires.y (omega (arith, one, two, same))

pub returns-else-left-right : goal.returns-else-left-right
returns-else-left-right c =
    let one = ap length c.skip_zeros-left.ensures in
    let two = ap length c.skip_zeros-right.ensures in
    let apart : length c.skip_zeros-left.result.now ≢ length c.skip_zeros-right.result.now = λ same. grind (arith, common_steps, c.if-left-right.false) in
    (λ i. nat_lt (one i) (two i)) ∙ less_apart c.args.x.now c.args.y.now c.requires.x c.requires.y (λ e. apart (one ∙ e ∙ sym two))
