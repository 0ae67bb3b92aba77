use Rattle.std.proofs.Common.{◌∙◌, ◌==◌, ◌||◌, codes, refl}
use Rattle.std.specs.List.{list_any}
use Rattle.request_heads.specs.Words.{has_close}
use Rattle.remote_store.proofs.HeadFields.{minor_is, values_are}
use Rattle.remote_store.proofs.judge.ends_behind.Goals as goal

pub returns : goal.returns
returns c = λ head rest x.
    let received = c.args.received.now in
    let spans = c.args.spans.now in
    let parts = c.args.parts.now in
    let values = values_are received spans parts (codes "connection") refl c.requires.parts head rest x in
    let minor = minor_is received spans parts c.requires.parts head rest x in
    c.is_last.ensures ∙ (λ i. (parts.version == 0) || c.asks_close-close.ensures i) ∙ (λ i. (minor i == 0) || list_any has_close (values i))
