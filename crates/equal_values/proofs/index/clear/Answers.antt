use Rattle.std.proofs.Common.{arith, refl}
use Rattle.equal_values.proofs.index.clear.Goals as goal

pub returns : goal.returns
returns c = λ h l. c.fill.ensures.clones h 0 (omega (arith, l, c.fill.ensures.len)) refl
