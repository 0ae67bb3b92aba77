-- The fields that spans cover are those of the head.
use Rattle.std.proofs.Common.{◌≡◌, ◌∙◌, ℕ, Bool, true, false, List, [], ◌∷◌, take, map, filter, cond, bytes_eq, ap, refl}
use Rattle.httparse.specs.Grammar.{Field, ReadsResponse, ResponseHead, field_value, status_code}
use Rattle.httparse.specs.Spans.{IsResponseOf, name_and_value}
use Rattle.httparse.specs.declared.spans.HeaderSpan.{HeaderSpan}
use Rattle.httparse.specs.declared.spans.ResponseSpans.{ResponseSpans}
use Rattle.httparse.proofs.GrammarLemmas.{response_unique}
use Rattle.http_header.specs.Token.{lowercase}
use Rattle.request_heads.specs.Asks.{values_of}
use Rattle.remote_store.specs.Values.{values_in}

of_fields : (name : List ℕ) (fields : List Field) → lowercase name ≡ name
    → map (λ p. p.1) (filter (λ p. bytes_eq (lowercase p.0) (lowercase name)) (map name_and_value fields)) ≡ values_of name fields
of_fields name [] low = refl
of_fields name (f ∷ fields) low =
    by_test (bytes_eq (lowercase f.name) (lowercase name)) (bytes_eq (lowercase f.name) name) (λ i. bytes_eq (lowercase f.name) (low i)) (of_fields name fields low)
  where
    by_test : (s t : Bool) → s ≡ t → map (λ p. p.1) (filter (λ p. bytes_eq (lowercase p.0) (lowercase name)) (map name_and_value fields)) ≡ values_of name fields
        → map (λ p. p.1) (cond s (name_and_value f ∷ filter (λ p. bytes_eq (lowercase p.0) (lowercase name)) (map name_and_value fields)) (filter (λ p. bytes_eq (lowercase p.0) (lowercase name)) (map name_and_value fields)))
        ≡ map field_value (cond t (f ∷ filter (λ g. bytes_eq (lowercase g.name) name) fields) (filter (λ g. bytes_eq (lowercase g.name) name) fields))
    by_test true true e h = ap (λ l. field_value f ∷ l) h
    by_test true false e h = absurd (cc e)
    by_test false true e h = absurd (cc e)
    by_test false false e h = h

-- the head whose parts they are is the one at the front
pub values_are : (received : List ℕ) (spans : List HeaderSpan) (parts : ResponseSpans) (name : List ℕ) → lowercase name ≡ name → (of : IsResponseOf received spans parts)
    → (head : ResponseHead) (rest : List ℕ) → ReadsResponse received head rest → values_in received (take parts.headers spans) name ≡ values_of name head.fields
values_are received spans parts name low of head rest x =
    let same = (response_unique received of.0 head _ rest of.1.reads x).0 in
    ap (λ l. map (λ p. p.1) (filter (λ p. bytes_eq (lowercase p.0) (lowercase name)) l)) of.1.fields ∙ of_fields name of.0.fields low ∙ ap (λ h. values_of name h.fields) same

pub status_is : (received : List ℕ) (spans : List HeaderSpan) (parts : ResponseSpans) → (of : IsResponseOf received spans parts)
    → (head : ResponseHead) (rest : List ℕ) → ReadsResponse received head rest → parts.code ≡ status_code head
status_is received spans parts of head rest x = of.1.code ∙ ap status_code (response_unique received of.0 head _ rest of.1.reads x).0

pub minor_is : (received : List ℕ) (spans : List HeaderSpan) (parts : ResponseSpans) → (of : IsResponseOf received spans parts)
    → (head : ResponseHead) (rest : List ℕ) → ReadsResponse received head rest → parts.version ≡ head.minor
minor_is received spans parts of head rest x = of.1.version ∙ ap (λ h. h.minor) (response_unique received of.0 head _ rest of.1.reads x).0
