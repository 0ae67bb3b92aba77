use Rattle.std.proofs.Common.{arith}
use Rattle.std.proofs.lemmas.Int.{ints}
use Rattle.view_judge.proofs.values.place_on.Goals as goal

pub overflow_cast-result : goal.overflow_cast-result
overflow_cast-result c = let s = c.requires.small in omega (arith, ints, s.sized, c.requires.within)

pub overflow_add-result : goal.overflow_add-result
overflow_add-result c = let s = c.requires.small in omega (arith, ints, s.sized, s.low, s.high, c.requires.within)

pub returns : goal.returns
returns c = let s = c.requires.small in omega (arith, ints, s.sized, s.low, s.high, c.requires.within)
