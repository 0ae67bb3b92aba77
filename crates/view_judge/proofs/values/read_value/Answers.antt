use Rattle.std.proofs.Common.{◌∙◌}
use Rattle.view_judge.proofs.ValueSteps.{read_rest}
use Rattle.view_judge.proofs.values.read_value.Goals as goal

pub returns : goal.returns
returns c = c.read_uint.ensures ∙ read_rest c.args.width c.args.n c.args.values.now c.requires.within
