use Rattle.std.proofs.Common.{◌∙◌, codes, refl}
use Rattle.httparse.specs.Grammar.{status_code}
use Rattle.request_heads.specs.Asks.{values_of}
use Rattle.remote_store.specs.Fits.{judged, kind_of, length_of, only, promised}
use Rattle.remote_store.specs.Reading.{capped_in}
use Rattle.remote_store.proofs.HeadFields.{status_is, values_are}
use Rattle.remote_store.proofs.Places.{same_promise}
use Rattle.remote_store.proofs.judge.judge_reply.Goals as goal

pub returns : goal.returns
unfolding judged
returns c = λ head rest x.
    let received = c.args.received.now in
    let spans = c.args.spans.now in
    let parts = c.args.parts.now in
    let wanted = c.args.wanted in
    let value = only (values_of (codes "content-range") head.fields) in
    let places = values_are received spans parts (codes "content-range") refl c.requires.parts head rest x in
    let objects = values_are received spans parts (codes "content-encoding") refl c.requires.parts head rest x in
    let codings = values_are received spans parts (codes "transfer-encoding") refl c.requires.parts head rest x in
    let lengths = values_are received spans parts (codes "content-length") refl c.requires.parts head rest x in
    let status = status_is received spans parts c.requires.parts head rest x in
    c.promise.ensures
    ∙ (λ i. promised wanted (c.find_kind-kind.ensures i) (c.find_length-len.ensures i) (c.find_place-place.ensures i))
    ∙ (λ i. promised wanted (kind_of wanted (status i)) (length_of (objects i) (codings i) (lengths i)) (capped_in (only (places i))))
    ∙ same_promise wanted c.requires.some (kind_of wanted (status_code head)) (values_of (codes "content-encoding") head.fields) (values_of (codes "transfer-encoding") head.fields) (values_of (codes "content-length") head.fields) value
