use Rattle.std.proofs.Common.{Some, rules, tests, sym, ◌∙◌}
use Rattle.std.proofs.lemmas.Iterator.{YieldsList-from_slice}
use Rattle.std.proofs.lemmas.Iterator.Search.{any_from_yields_List}
use Rattle.serde_json.specs.View.{view}
use Rattle.info_doc.proofs.JsonSteps.{list_any-map}
use Rattle.info_doc.specs.Steps.{has_zero, sizes_in}
use Rattle.info_doc.proofs.shape.some_is_empty.Goals as goal

pub returns : goal.returns
returns c =
    any_from_yields_List (λ v. has_zero (sizes_in (Some (view v)))) _ _ c.any.result c.any.ensures.ran (YieldsList-from_slice c.args.list.now cc) (λ x b q k. search (rules, tests))
    ∙ sym (list_any-map (λ d. has_zero (sizes_in (Some d))) c.args.list.now)
