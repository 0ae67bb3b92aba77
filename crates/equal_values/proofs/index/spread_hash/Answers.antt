use Rattle.std.proofs.Common.{arith}
use Rattle.equal_values.proofs.Homes.{spread_is}
use Rattle.equal_values.proofs.index.spread_hash.Goals as goal

pub returns-clause-value : goal.returns-clause-value
returns-clause-value c = spread_is c.args.h c.args.places (omega (arith, c.ranges.h.fits))
