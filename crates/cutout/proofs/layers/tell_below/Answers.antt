use Rattle.cutout.proofs.BelowSteps.{splits_below}
use Rattle.cutout.proofs.layers.tell_below.Goals as goal

pub returns : goal.returns
returns c = record { below = splits_below c.args.scale.now c.args.part.now c.requires }
