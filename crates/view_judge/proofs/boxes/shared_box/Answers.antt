use Rattle.std.proofs.Common.{rules}
use Rattle.view_judge.proofs.SharedSteps.{common_same}
use Rattle.view_judge.proofs.boxes.shared_box.Goals as goal

pub returns : goal.returns
returns c = common_same c.args.a.now c.args.b.now c.common_part.result c.requires.0 c.requires.1 c.requires.2 (search rules) (search rules) c.common_part.ensures
