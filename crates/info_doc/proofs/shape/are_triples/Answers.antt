use Rattle.std.proofs.Common.{is_some, rules, tests, sym, ◌∙◌}
use Rattle.std.proofs.lemmas.Iterator.{YieldsList-from_slice}
use Rattle.std.proofs.lemmas.Iterator.Search.{all_from_yields_List}
use Rattle.std.proofs.lemmas.List.Folds.{list_all-map}
use Rattle.serde_json.specs.View.{view}
use Rattle.info_doc.specs.Json.{triple, whole}
use Rattle.info_doc.proofs.shape.are_triples.Goals as goal

pub returns : goal.returns
returns c =
    all_from_yields_List (λ v. is_some (triple whole (view v))) _ _ c.all.result c.all.ensures.ran (YieldsList-from_slice c.args.list.now cc) (λ x b q k. search (rules, tests))
    ∙ sym (list_all-map (λ d. is_some (triple whole d)) view c.args.list.now)
