use Rattle.std.proofs.Common.{rules, ◌∙◌, codes}
use borrow.Author.Tests.{tests}
use Rattle.std.proofs.lemmas.Iterator.Search.{any_from_yields_List}
use Rattle.std.proofs.lemmas.Iterator.Consumers.{YieldsList-from_first}
use Rattle.request_heads.specs.Words.{has_close}
use Rattle.http_header.specs.FieldValue.{FieldValue}
use Rattle.http_header.specs.HeaderMap.{get_all}
use Rattle.request_heads.proofs.AskSteps.{any_mapped}
use Rattle.request_heads.proofs.asks.asks_close.Goals as goal

pub returns : goal.returns
returns c =
    any_from_yields_List (λ v. has_close v.bytes) _ _ _ c.any.ensures.ran (YieldsList-from_first (λ y. y.now) (λ it. it) _ (c.iter.ensures ∙ c.get_all.ensures.value)) (λ x b q k. search (rules, tests))
    ∙ any_mapped (λ (v : FieldValue). v.bytes) has_close (get_all c.args.fields.now (codes "connection"))
