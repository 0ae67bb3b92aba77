-- What the fields of a request ask: a body (RFC 9112, section 6), an end of the connection (RFC 9112,
-- sections 9.3 and 9.6), a range (RFC 9110, sections 13.1.5 and 14.2).
use Rattle.std.specs.Prelude.{ℕ, Bool, ◌||◌, not, nat_lt, ◌==◌, List, [], ◌∷◌, length, map, filter, Option, Some, None, bytes_eq, codes}
use Rattle.std.specs.List.{list_any}
use Rattle.httparse.specs.Grammar.{Field, RequestHead, field_value}
use Rattle.http_header.specs.FieldValue.{FieldValue}
use Rattle.http_header.specs.HeaderMap.{Entries, get_all}
use Rattle.http_header.specs.Token.{lowercase}
use Rattle.request_heads.specs.Words.{has_close}

-- the values of the fields of a name, without the spaces and tabs around them, in order
abbrev pub values_of : List ℕ → List Field → List (List ℕ)
values_of name fields = map field_value (filter (λ f. bytes_eq (lowercase f.name) name) fields)

-- a body comes, or may come, behind the head
abbrev pub brings_body : List (List ℕ) → List (List ℕ) → Bool
brings_body codings lengths = nat_lt 0 (length codings) || list_any (λ v.
    not (bytes_eq v (codes "0"))) lengths

abbrev pub has_body : List Field → Bool
has_body fields = brings_body (values_of (codes "transfer-encoding") fields)
    (values_of (codes "content-length") fields)

-- the connection is to end behind the reply: HTTP/1.0, or `close` is a member of a Connection field
abbrev pub closes : RequestHead → Bool
closes head = head.minor == 0 || list_any has_close (values_of (codes "connection") head.fields)

-- the only range value, unless it is asked on a condition
abbrev pub only_range : List (List ℕ) → List (List ℕ) → Option (List ℕ)
only_range (value ∷ []) [] = Some value
only_range (value ∷ []) (c ∷ conditions) = None
only_range [] conditions = None
only_range (value ∷ more ∷ values) conditions = None

abbrev pub range_asked : List Field → Option (List ℕ)
range_asked fields = only_range (values_of (codes "range") fields) (values_of (codes "if-range") fields)

-- the values of a name in a map of fields
abbrev pub bytes_of : Entries FieldValue → List ℕ → List (List ℕ)
bytes_of m name = map (λ v. v.bytes) (get_all m name)
