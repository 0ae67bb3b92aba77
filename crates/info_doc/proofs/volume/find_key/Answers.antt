use Rattle.std.proofs.Common.{rules, tests}
use Rattle.std.proofs.lemmas.Iterator.{YieldsList-from_slice}
use Rattle.std.proofs.lemmas.Iterator.Search.{find_from_yields_List}
use Rattle.serde_json.specs.View.{view}
use Rattle.info_doc.proofs.JsonSteps.{find-view}
use Rattle.info_doc.specs.Steps.{has_key}
use Rattle.info_doc.proofs.volume.find_key.Goals as goal

pub returns : goal.returns
returns c =
    find-view (has_key c.args.key.now) _ _ (find_from_yields_List (λ v. has_key c.args.key.now (view v)) _ _ _ c.find.ensures.ran (YieldsList-from_slice c.args.scales.now cc) (λ x b q k. search (rules, tests)))
