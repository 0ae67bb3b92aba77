use Rattle.std.proofs.Common.{rules, ◌∙◌, bytes_eq, codes, not}
use borrow.Author.Tests.{tests}
use Rattle.std.proofs.lemmas.Iterator.Search.{any_from_yields_List}
use Rattle.std.proofs.lemmas.Iterator.Consumers.{YieldsList-from_first}
use Rattle.http_header.specs.FieldValue.{FieldValue}
use Rattle.http_header.specs.HeaderMap.{get_all}
use Rattle.request_heads.proofs.AskSteps.{any_mapped}
use Rattle.request_heads.proofs.asks.has_length.Goals as goal

pub returns : goal.returns
returns c =
    any_from_yields_List (λ v. not (bytes_eq v.bytes (codes "0"))) _ _ _ c.any.ensures.ran (YieldsList-from_first (λ y. y.now) (λ it. it) _ (c.iter.ensures ∙ c.get_all.ensures.value)) (λ x b q k. search (rules, tests))
    ∙ any_mapped (λ (v : FieldValue). v.bytes) (λ v. not (bytes_eq v (codes "0"))) (get_all c.args.fields.now (codes "content-length"))
