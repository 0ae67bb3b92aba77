-- Fields by their names, and tests over their values.
use Rattle.std.proofs.Common.{◌≡◌, ◌∙◌, ℕ, Bool, true, false, ◌||◌, List, [], ◌∷◌, ◌++◌, map, bytes_eq, append-nil, append_assoc, inl, inr, ap, sym, refl}
use Rattle.std.specs.List.{list_any}
use Rattle.std.proofs.lemmas.Bool.{cases_Bool}
use Rattle.std.proofs.lemmas.Slice.Eq.{bytes_eq-Decides}
use Rattle.httparse.specs.Grammar.{Field, field_value}
use Rattle.http_header.specs.FieldValue.{FieldValue, plain_value}
use Rattle.http_header.specs.HeaderMap.{Entries, append, append_all, get_all}
use Rattle.http_header.specs.Token.{lowercase}
use Rattle.http_header.proofs.HeaderMapLemmas.{get_all-append_same, get_all-append_other}
use Rattle.request_heads.specs.Asks.{values_of, bytes_of}
use Rattle.request_heads.specs.Fields.{field_entry, field_map}

pub any_mapped : {A B : Type 0} (f : A → B) (test : B → Bool) (xs : List A) → list_any (λ x. test (f x)) xs ≡ list_any test (map f xs)
any_mapped f test [] = refl
any_mapped f test (x ∷ xs) = ap (λ b. test (f x) || b) (any_mapped f test xs)

map_appended : {A B : Type 0} (f : A → B) (xs ys : List A) → map f (xs ++ ys) ≡ map f xs ++ map f ys
map_appended f [] ys = refl
map_appended f (x ∷ xs) ys = ap (λ l. f x ∷ l) (map_appended f xs ys)

-- a field that is appended stands behind those of its name, and nowhere else
appended_same : (m : Entries FieldValue) (n name : List ℕ) (v : List ℕ) → bytes_eq n name ≡ true → bytes_of (append m n (plain_value v)) name ≡ bytes_of m name ++ v ∷ []
appended_same m n name v same =
    let e = (bytes_eq-Decides n name).0 same in
    ap (λ k. bytes_of (append m k (plain_value v)) name) e ∙ ap (map (λ (v : FieldValue). v.bytes)) (get_all-append_same m name (plain_value v)) ∙ map_appended (λ (v : FieldValue). v.bytes) (get_all m name) (plain_value v ∷ [])

appended_other : (m : Entries FieldValue) (n name : List ℕ) (v : List ℕ) → bytes_eq n name ≡ false → bytes_of (append m n (plain_value v)) name ≡ bytes_of m name
appended_other m n name v apart = ap (map (λ (v : FieldValue). v.bytes)) (get_all-append_other m n name (plain_value v) (λ e. differ e))
  where
    differ : n ≡ name → ⊥
    differ e = let same : bytes_eq n name ≡ true = (bytes_eq-Decides n name).1 e in absurd (cc)

values_more : (m : Entries FieldValue) (name : List ℕ) (fields : List Field) → bytes_of (append_all m (map field_entry fields)) name ≡ bytes_of m name ++ values_of name fields
values_more m name [] = sym (append-nil (bytes_of m name))
values_more m name (f ∷ fields) =
    let n = lowercase f.name in
    let v = field_value f in
    elim (cases_Bool (bytes_eq n name)) [
      | inl same ↦ rw same (values_more (append m n (plain_value v)) name fields ∙ ap (λ l. l ++ values_of name fields) (appended_same m n name v same) ∙ append_assoc (bytes_of m name) (v ∷ []) (values_of name fields))
      | inr apart ↦ rw apart (values_more (append m n (plain_value v)) name fields ∙ ap (λ l. l ++ values_of name fields) (appended_other m n name v apart))
    ]

-- the map of a head's fields has their values
pub values_in_map : (name : List ℕ) (fields : List Field) → bytes_of (field_map fields) name ≡ values_of name fields
values_in_map name fields = values_more [] name fields
