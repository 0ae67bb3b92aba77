use Rattle.std.proofs.Common.{rules, ◌∙◌, ◌++◌, ◌<◌, ◌^◌, length, ap, arith}
use Rattle.range_server.specs.Texts.{allow_lines, close_lines, line_end, plain_lines, range_lines}
use Rattle.range_server.proofs.TextSteps.{head_is, head_short}
use Rattle.range_server.proofs.text.write_head.Goals as goal

pub returns-clause-head : goal.returns-clause-head
returns-clause-head c =
    let r = c.args.reply.now in
    c.in_ok-add-2.ensures
    ∙ (λ i. c.in_ok-add_close.ensures i ++ line_end)
    ∙ (λ i. (c.in_ok-add_allow.ensures i ++ close_lines r) ++ line_end)
    ∙ (λ i. ((c.in_ok-add_range.ensures i ++ allow_lines r) ++ close_lines r) ++ line_end)
    ∙ (λ i. (((c.in_ok-add_plain.ensures i ++ range_lines r) ++ allow_lines r) ++ close_lines r) ++ line_end)
    ∙ (λ i. ((((c.in_ok-add.ensures i ++ plain_lines r) ++ range_lines r) ++ allow_lines r) ++ close_lines r) ++ line_end)
    ∙ (λ i. (((((c.clear.ensures.bytes i ++ c.status_text.ensures i) ++ plain_lines r) ++ range_lines r) ++ allow_lines r) ++ close_lines r) ++ line_end)
    ∙ head_is r

pub returns-clause-short : goal.returns-clause-short
returns-clause-short c =
    let total : c.args.reply.now.total < 2 ^ 64 = search rules in
    let short = head_short c.args.reply.now (omega (arith, c.requires.fits, total)) total in
    omega (arith, short, ap length (returns-clause-head c))
