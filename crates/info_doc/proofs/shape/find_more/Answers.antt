use Rattle.std.proofs.Common.{◌∙◌, arith}
use Rattle.info_doc.proofs.MoreSteps.{more_all}
use Rattle.info_doc.proofs.shape.find_more.Goals as goal

pub returns : goal.returns
returns c = c.loop-at.invariant.found ∙ more_all c.args.list.now c.loop-at.at (omega arith)
