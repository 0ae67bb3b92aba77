-- The reply to a head, by its parts.
use Rattle.std.proofs.Common.{◌≡◌, ◌∙◌, ℕ, Bool, ◌||◌, ◌==◌, List, Option, Some, None, IfSome, codes, ap}
use Rattle.std.specs.List.{list_any}
use Rattle.httparse.specs.Grammar.{RequestHead, ReadsRequest}
use Rattle.httparse.specs.Spans.{IsRequestOf, span_bytes}
use Rattle.httparse.specs.declared.spans.HeaderSpan.{HeaderSpan}
use Rattle.httparse.specs.declared.spans.RequestSpans.{RequestSpans}
use Rattle.httparse.proofs.GrammarLemmas.{request_unique}
use Rattle.http_header.specs.FieldValue.{FieldValue}
use Rattle.http_header.specs.HeaderMap.{Entries}
use Rattle.vol_base.specs.Outside.{Objects}
use Rattle.request_heads.specs.Asks.{brings_body, bytes_of, closes, has_body, only_range, range_asked, values_of}
use Rattle.request_heads.specs.Fields.{field_map}
use Rattle.request_heads.specs.Words.{has_close}
use Rattle.request_heads.proofs.AskSteps.{values_in_map}
use Rattle.range_server.specs.Plans.{IsPlan, judged, planned}
use Rattle.range_server.specs.declared.reply.Reply.{Reply}

pub if_told : {A : Type 0} {P Q : A → Type 0} → (o : Option A) → IfSome o P → ((m : A) → P m → Q m) → IfSome o Q
if_told None p f = tt
if_told (Some m) p f = f m p

pub planned_by : (m : Objects) (dataset : List ℕ) (head : RequestHead) (fields : Entries FieldValue) (body : Bool) (method target : List ℕ) (range : Option (List ℕ)) (version : ℕ) (close : Bool)
    → fields ≡ field_map head.fields → body ≡ brings_body (bytes_of fields (codes "transfer-encoding")) (bytes_of fields (codes "content-length"))
    → method ≡ head.method → target ≡ head.target → range ≡ only_range (bytes_of fields (codes "range")) (bytes_of fields (codes "if-range"))
    → version ≡ head.minor → close ≡ (version == 0 || list_any has_close (bytes_of fields (codes "connection")))
    → judged m dataset body method target range close ≡ planned m dataset head
unfolding planned
planned_by m dataset head fields body method target range version close ef eb em et er ev ec =
    let at : (name : List ℕ) → bytes_of fields name ≡ values_of name head.fields = λ name. ap (λ f. bytes_of f name) ef ∙ values_in_map name head.fields in
    let body_is : body ≡ has_body head.fields = eb ∙ (λ i. brings_body (at (codes "transfer-encoding") i) (at (codes "content-length") i)) in
    let range_is : range ≡ range_asked head.fields = er ∙ (λ i. only_range (at (codes "range") i) (at (codes "if-range") i)) in
    let close_is : close ≡ closes head = ec ∙ (λ i. (ev i == 0) || list_any has_close (at (codes "connection") i)) in
    λ i. judged m dataset (body_is i) (em i) (et i) (range_is i) (close_is i)

-- the parts of the head that was found are those of any head that is read there
pub plan_read : (m : Objects) (dataset received : List ℕ) (spans : List HeaderSpan) (parts : RequestSpans) (fields : Entries FieldValue) (body : Bool) (range : Option (List ℕ)) (close : Bool) (reply : Reply)
    → IsRequestOf received spans parts → ((head : RequestHead) (rest : List ℕ) → ReadsRequest received head rest → fields ≡ field_map head.fields)
    → body ≡ brings_body (bytes_of fields (codes "transfer-encoding")) (bytes_of fields (codes "content-length"))
    → range ≡ only_range (bytes_of fields (codes "range")) (bytes_of fields (codes "if-range"))
    → close ≡ (parts.version == 0 || list_any has_close (bytes_of fields (codes "connection")))
    → reply ≡ judged m dataset body (span_bytes received parts.method) (span_bytes received parts.path) range close → IsPlan m dataset received reply
plan_read m dataset received spans parts fields body range close reply of ef eb er ec e = λ head rest reads.
    let same = (request_unique received of.0 head _ rest of.1.reads reads).0 in
    e ∙ planned_by m dataset of.0 fields body (span_bytes received parts.method) (span_bytes received parts.path) range parts.version close (ef of.0 _ of.1.reads) eb of.1.method of.1.path er of.1.version ec ∙ ap (planned m dataset) same
