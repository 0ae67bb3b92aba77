use Rattle.std.proofs.Common.{arith}
use Rattle.info_doc.specs.Json.{whole}
use Rattle.info_doc.proofs.JsonSteps.{triple-other}
use Rattle.info_doc.proofs.json.read_triple.Goals as goal

pub returns-in_default : goal.returns-in_default
returns-in_default c = triple-other whole _ _ c.in_ok-read_elements.ensures (λ h. omega arith)

pub returns-in_default-2 : goal.returns-in_default-2
returns-in_default-2 c = triple-other whole _ _ c.in_ok-read_elements.ensures (λ h. omega arith)
