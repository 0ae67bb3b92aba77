use Rattle.std.proofs.Common.{subst, sym}
use Rattle.vol_serve.specs.Words.{KeepsLimits}
use Rattle.vol_serve.proofs.LimitSteps.{four_kept}
use Rattle.vol_serve.proofs.words.read_four.Goals as goal

pub returns-clause-limits : goal.returns-clause-limits
returns-clause-limits c = subst KeepsLimits (sym c.find_all.ensures) (four_kept c.args.a.now c.args.b.now c.args.c.now c.args.d.now)
