use Rattle.std.proofs.Common.{arith, ap, sym}
use Rattle.equal_values.specs.Earlier.{coded}
use Rattle.equal_values.proofs.Firsts.{earlier_is, none_is}
use Rattle.grid_trials.proofs.equal_values_rows.plain_number.Goals as goal

pub returns-then-values-j : goal.returns-then-values-j
returns-then-values-j c =
    ap coded (sym (earlier_is c.args.values.now c.args.k c.loop-j.j c.loop-j-test.true c.if-values-j.true c.loop-j.invariant))

pub returns : goal.returns
returns c =
    ap coded (sym (none_is c.args.values.now c.args.k (λ i l. c.loop-j.invariant i (omega (arith, l, c.loop-j-test.false)))))
