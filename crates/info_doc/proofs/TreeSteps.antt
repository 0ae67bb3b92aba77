-- The value of a text, by what `serde_json` says of the bytes.
use Rattle.std.proofs.Common.{◌≡◌, ℕ, Bool, true, false, cond, List, Option, Some, None, refl}
use Rattle.std.specs.Str.{IsUtf8, is_utf8}
use Rattle.std.proofs.lemmas.Str.{IsUtf8-from_is_utf8, is_utf8-from_IsUtf8}
use Rattle.serde_json.specs.Data.{Data}
use Rattle.serde_json.specs.Read.{read}
use Rattle.info_doc.specs.Json.{tree}

pub tree_read : (bytes : List ℕ) (d : Data) → IsUtf8 bytes × (read bytes ≡ Some d) → tree bytes ≡ Some d
tree_read bytes d h = rw (is_utf8-from_IsUtf8 bytes h.0) h.1

unread_at : (b : Bool) (found : Option Data) → (b ≡ true → found ≡ None) → cond b found None ≡ None
unread_at true found h = h refl
unread_at false found h = refl

pub tree_unread : (bytes : List ℕ) → (IsUtf8 bytes → read bytes ≡ None) → tree bytes ≡ None
tree_unread bytes h = unread_at (is_utf8 bytes) (read bytes) (λ e. h (IsUtf8-from_is_utf8 bytes e))
