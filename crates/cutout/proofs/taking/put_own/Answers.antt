use Rattle.std.proofs.Common.{refl}
use Rattle.cutout.proofs.TakingSteps.{not_raw}
use Rattle.cutout.proofs.taking.put_own.Goals as goal

pub returns-clause-own : goal.returns-clause-own
returns-clause-own c = λ t. record {
  blocks = not_raw c.args.scale.now.encoding _ c.requires.speller.block;
  sound = c.if-not-test_own.ensures.sound refl;
  again = c.if-not-test_own.ensures.again refl;
  room = c.if-not-test_own.ensures.room refl;
}
