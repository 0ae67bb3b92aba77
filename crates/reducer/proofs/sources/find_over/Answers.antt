use Rattle.std.proofs.Common.{arith}
use Rattle.std.proofs.lemmas.Int.{ints}
use Rattle.reducer.proofs.sources.find_over.Goals as goal

pub overflow_add-result : goal.overflow_add-result
overflow_add-result c =
    let offset = c.args.to.now.offset_ok c.args.axis c.requires.axis in
    omega (arith, ints, c.find_own-before.ensures.within, c.find_own-before.ensures.small, offset.0, offset.1)

pub returns-clause-begin : goal.returns-clause-begin
returns-clause-begin c =
    let offset = c.args.to.now.offset_ok c.args.axis c.requires.axis in
    omega (arith, ints, c.find_own-before.ensures.within, c.find_own-before.ensures.small, offset.0, offset.1)
