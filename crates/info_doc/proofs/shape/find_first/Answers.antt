use Rattle.std.proofs.Common.{◌∙◌}
use Rattle.info_doc.proofs.MoreSteps.{first_of}
use Rattle.info_doc.proofs.shape.find_first.Goals as goal

pub returns : goal.returns
returns c = c.find_sizes.ensures ∙ first_of c.args.list.now c.index-list-0.result c.requires.some c.index-list-0.is
