-- Fields that are put into a map, one after the other.
use Rattle.std.proofs.Common.{◌≡◌, ◌∙◌, ℕ, suc, ◌+◌, ◌<◌, ◌≤◌, Bool, true, false, cond, List, [], ◌∷◌, ◌++◌, length, length-append, length-take, map, take, get_or, bytes_eq, IsTrue, refl, ap, sym, subst, arith, ◌||◌, ◌==◌}
use Rattle.std.specs.Prelude.{codes}
use Rattle.std.specs.List.{list_any}
use Rattle.std.specs.Char.{is_ascii_alphanumeric}
use Rattle.std.proofs.lemmas.List.{get_or-take, length-map, get_or-map, map_more}
use Rattle.std.proofs.lemmas.List.Sums.{fold-append, sum_by-cons}
use Rattle.httparse.specs.Grammar.{is_token_byte as token_in, is_value_byte, lf, Field, field_value, RequestHead, ReadsRequest}
use Rattle.httparse.specs.Spans.{header_bytes, name_and_value, IsHeaderWithin, IsRequestOf, IsRequestWithin, span_bytes}
use Rattle.httparse.specs.declared.spans.HeaderSpan.{HeaderSpan}
use Rattle.httparse.specs.declared.spans.RequestSpans.{RequestSpans}
use Rattle.httparse.proofs.GrammarLemmas.{request_unique}
use Rattle.httparse.proofs.RunLemmas.{length-slice_range}
use Rattle.httparse.proofs.TrimLemmas.{AllPass-trim_ows}
use Rattle.http_header.specs.FieldName.{IsFieldName}
use Rattle.http_header.specs.FieldValue.{IsFieldValue}
use Rattle.http_header.specs.HeaderMap.{Entries, append, append_all, update, value_count}
use Rattle.http_header.specs.Token.{is_token_byte as token_out, IsToken}
use Rattle.request_heads.specs.Fields.{entry_of, field_map, span_map}

-- both crates mean the same bytes by a token's
plain : ℕ → Bool
plain b = is_ascii_alphanumeric b || list_any (λ c. c == b) (codes "!#$%&'*+-.^_`|~")

read_token : (b : ℕ) → token_in b ≡ plain b
unfolding token_in plain
read_token b = refl

held_token : (b : ℕ) → token_out b ≡ plain b
unfolding token_out plain
held_token b = refl

same_token : (b : ℕ) → token_in b ≡ token_out b
same_token b = read_token b ∙ sym (held_token b)

module _ {X : Type 0} where
  pub names_more : (m : Entries X) (name : List ℕ) (f : List X → List X) → length (update m name f) ≤ length m + 1
  names_more [] name f = omega arith
  names_more (e ∷ m) name f =
      let more = names_more m name f in
      elim (bytes_eq e.0 name) as (λ t. length (cond t ((e.0, f e.1) ∷ m) (e ∷ update m name f)) ≤ suc (length m) + 1) [ true ↦ omega arith | false ↦ omega arith ]

  pub values_more : (m : Entries X) (name : List ℕ) (value : X) → value_count (append m name value) ≡ value_count m + 1
  values_more [] name value = refl
  values_more (e ∷ m) name value =
      let more = values_more m name value in
      let all = sum_by-cons (λ (e : List ℕ × List X). length e.1) e m in
      let here = sum_by-cons (λ (e : List ℕ × List X). length e.1) (e.0, e.1 ++ value ∷ []) m in
      let there = sum_by-cons (λ (e : List ℕ × List X). length e.1) e (append m name value) in
      elim (bytes_eq e.0 name) as (λ t. value_count (cond t ((e.0, e.1 ++ value ∷ []) ∷ m) (e ∷ append m name value)) ≡ value_count (e ∷ m) + 1) [
        | true ↦ omega (arith, all, here, length-append e.1 (value ∷ []))
        | false ↦ omega (arith, all, there, more)
      ]

-- the name and the value of a field are those of an entry
pub field_at : (received : List ℕ) (spans : List HeaderSpan) (parts : RequestSpans) (i : ℕ) (d : HeaderSpan) → length received ≤ 8192 → IsRequestWithin received spans parts → IsRequestOf received spans parts → i < parts.headers
    → IsFieldName (span_bytes received (get_or spans i d).name) × IsFieldValue (span_bytes received (get_or spans i d).value)
field_at received spans parts i d short within of lt =
    let head = of.0 in
    let at = of.1 in
    let count = parts.headers in
    let fits = within.section in
    let none : Field = record { name = []; raw = []; end = lf } in
    let long : length (take count spans) ≡ count = omega (arith, length-take count spans, fits.count_fits) in
    let many : length head.fields ≡ count = sym (length-map head.fields name_and_value) ∙ sym (ap length at.fields) ∙ length-map (take count spans) (header_bytes received) ∙ long in
    let f = get_or head.fields i none in
    let in_spans : i < length (take count spans) = omega (arith, lt, long) in
    let in_fields : i < length head.fields = omega (arith, lt, many) in
    let here : get_or (take count spans) i d ≡ get_or spans i d = get_or-take count spans i d lt in
    let same : header_bytes received (get_or spans i d) ≡ name_and_value f =
    ap (header_bytes received) (sym here) ∙ sym (get_or-map (header_bytes received) (take count spans) i d ([], []) in_spans) ∙ ap (λ l. get_or l i ([], [])) at.fields ∙ get_or-map name_and_value head.fields i none ([], []) in_fields in
    let ok = at.reads.0.fields i none in_fields in
    let name : span_bytes received (get_or spans i d).name ≡ f.name = ap (λ p. p.0) same in
    let value : span_bytes received (get_or spans i d).value ≡ field_value f = ap (λ p. p.1) same in
    let lies : IsHeaderWithin parts.len (get_or spans i d) = subst (IsHeaderWithin parts.len) here (fits.headers_fit i d in_spans) in
    let token : IsToken f.name = (ok.name.0, λ k d lt. subst IsTrue (same_token _) (ok.name.1 k d lt)) in
    let few : length (span_bytes received (get_or spans i d).name) ≤ 65535 = omega (arith, short, fits.len_fits, lies.0.1, length-slice_range received (get_or spans i d).name.start (get_or spans i d).name.end lies.0.0 (omega (arith, lies.0.1, fits.len_fits))) in
    ((subst IsToken (sym name) token, few), subst IsFieldValue (sym value) (AllPass-trim_ows is_value_byte f.raw ok.raw))

-- one field more
pub span_more : (received : List ℕ) (spans : List HeaderSpan) (i : ℕ) (d : HeaderSpan) → i < length spans
    → span_map received (take (i + 1) spans) ≡ append (span_map received (take i spans)) (entry_of (header_bytes received (get_or spans i d))).0 (entry_of (header_bytes received (get_or spans i d))).1
span_more received spans i d lt =
    ap (append_all []) (map_more (λ span. entry_of (header_bytes received span)) spans i d lt)
    ∙ fold-append _ [] (map (λ span. entry_of (header_bytes received span)) (take i spans)) (entry_of (header_bytes received (get_or spans i d)) ∷ [])

map_twice : {X Y Z : Type 0} (f : X → Y) (g : Y → Z) (xs : List X) → map (λ x. g (f x)) xs ≡ map g (map f xs)
map_twice f g [] = refl
map_twice f g (x ∷ xs) = ap (λ l. g (f x) ∷ l) (map_twice f g xs)

-- all fields
pub span_all : (received : List ℕ) (spans : List HeaderSpan) (parts : RequestSpans) → IsRequestOf received spans parts → (head : RequestHead) (rest : List ℕ) → ReadsRequest received head rest
    → span_map received (take parts.headers spans) ≡ field_map head.fields
span_all received spans parts of head rest reads =
    let same = (request_unique received of.0 head _ rest of.1.reads reads).0 in
    ap (append_all []) (map_twice (header_bytes received) entry_of (take parts.headers spans) ∙ ap (map entry_of) of.1.fields ∙ sym (map_twice name_and_value entry_of of.0.fields))
    ∙ ap (λ (h : RequestHead). field_map h.fields) same
