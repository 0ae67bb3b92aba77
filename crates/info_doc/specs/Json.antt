-- Values of a JSON text (RFC 8259) as the statements of `serde_json` read it, and members that may be absent
-- (this project's words).
use Rattle.std.specs.Prelude.{ℕ, ℤ, Bool, is_some, List, [], ◌∷◌, Option, None, option_and_then, option_map, if◌then◌else◌}
use Rattle.std.specs.Str.{is_utf8}
use Rattle.serde_json.specs.Data.{Data, Items, no_items, item}
use Rattle.serde_json.specs.Find.{as_null, as_number, as_u64, as_i64, as_str, as_array}
use Rattle.serde_json.specs.Read.{read}

-- the value of a text: none where the bytes are no UTF-8 or no JSON
abbrev pub tree : List ℕ → Option Data
tree bytes = if is_utf8 bytes then read bytes else None

-- the elements of an array
abbrev pub listed : Items → List Data
listed no_items = []
listed (item d ds) = d ∷ listed ds

abbrev pub elements : Data → Option (List Data)
elements d = option_map listed (as_array d)

-- a whole number: one for which `serde_json` answers an unsigned number of 64 bits
abbrev pub whole : Data → Option ℕ
whole d = option_and_then as_u64 (as_number d)

-- three elements, each of which f reads
abbrev pub three : {A : Type 0} → (Data → Option A) → List Data → Option (List A)
three f (x ∷ y ∷ z ∷ []) = option_and_then (λ a. option_and_then (λ b.
    option_map (λ c. a ∷ b ∷ c ∷ []) (f z)) (f y)) (f x)
three f _ = None

abbrev pub triple : {A : Type 0} → (Data → Option A) → Data → Option (List A)
triple f d = option_and_then (three f) (elements d)

-- the same for a signed number
abbrev pub signed : Data → Option ℤ
signed d = option_and_then as_i64 (as_number d)

abbrev pub text : Option Data → Option (List ℕ)
text member = option_and_then as_str member

abbrev pub is_null : Option Data → Bool
is_null member = is_some (option_and_then as_null member)
