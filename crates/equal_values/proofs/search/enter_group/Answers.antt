use Rattle.std.proofs.Common.{◌∙◌}
use Rattle.equal_values.proofs.Groupwise.{begins_empty}
use Rattle.equal_values.proofs.search.enter_group.Goals as goal

pub returns-then-entered-group-clause-index : goal.returns-then-entered-group-clause-index
returns-then-entered-group-clause-index c =
    begins_empty _ c.args._values.now c.args._order.now c.args.moved.now c.clear.new.numbers c.args._next.now _ c.args.a
    c.args.group c.requires.order c.requires.here c.requires.before
    (λ e. c.if-entered-group.true (c.find_group-entered.ensures.value ∙ e)) c.clear.ensures
