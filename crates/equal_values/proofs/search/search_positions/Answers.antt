use Rattle.std.proofs.Common.{arith, subst, ◌≡◌, ◌<◌, slice_index}
use Rattle.equal_values.specs.Earlier.{coded, earlier}
use Rattle.equal_values.proofs.search.search_positions.Goals as goal

pub returns : goal.returns
returns c = λ k l.
    let w = c.requires.order.all k l in
    let below : w.0 < c.loop-a.a = omega (arith, w.1, c.requires.earlier, c.loop-a.invariant.4, c.loop-a-test.false) in
    let here = c.loop-a.invariant.5 w.0 below in
    subst (λ q. slice_index c.loop-a.earlier q ≡ coded (earlier c.args._values.now q)) w.2 here
