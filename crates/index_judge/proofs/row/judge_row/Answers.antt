use Rattle.std.proofs.Common.{◌∙◌, ap, sym}
use Rattle.vol_spec.specs.Verdicts.{row_wrong}
use Rattle.index_judge.proofs.RowSteps.{at_home, strayed}
use Rattle.index_judge.proofs.row.judge_row.Goals as goal

pub returns-in-Err-clause-judged : goal.returns-in-Err-clause-judged
returns-in-Err-clause-judged c = λ k was stored.
    ap (row_wrong c.args.sharding.now c.args.home.now.shard c.args.home.now.minishard) (sym (c.next_row.ensures.judged k was stored) ∙ c.in-Err.is)

pub returns-then-is_at_home-clause-judged : goal.returns-then-is_at_home-clause-judged
returns-then-is_at_home-clause-judged c = λ k was stored.
    at_home c.args.sharding.now c.args.home.now.shard c.args.home.now.minishard c.in-Ok.row _ (sym (c.next_row.ensures.judged k was stored) ∙ c.in-Ok.is) (sym c.is_at_home.ensures ∙ c.if-is_at_home.true)

pub returns-else-is_at_home-clause-judged : goal.returns-else-is_at_home-clause-judged
returns-else-is_at_home-clause-judged c = λ k was stored.
    strayed c.args.sharding.now c.args.home.now.shard c.args.home.now.minishard c.in-Ok.row _ (sym (c.next_row.ensures.judged k was stored) ∙ c.in-Ok.is) (sym c.is_at_home.ensures ∙ c.if-is_at_home.false)
