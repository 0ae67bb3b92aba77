use Rattle.std.proofs.Common.{rules}
use Rattle.info_doc.proofs.JsonSteps.{listed-items_view}
use Rattle.info_doc.proofs.json.read_elements.Goals as goal

pub returns : goal.returns
returns c = search (rules, listed-items_view)
