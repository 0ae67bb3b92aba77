-- The words of `vol_fetch` (this project's profile).
use Rattle.std.specs.Prelude.{ℕ, Bool, ◌&&◌, ◌==◌, not, List, [], ◌∷◌, length, slice_index, nat_le, Option, Some, None, option_and_then, if◌then◌else◌}
use Rattle.std.specs.Char.{is_ascii_digit}
use Rattle.std.specs.List.{list_all}
use Rattle.std.specs.Str.Parse.{digits_value}
use Rattle.vol_base.specs.Names.{is_name}
use Rattle.vol_base.specs.declared.boxes.Box3.{Box3}
use Rattle.line_words.specs.Words.{box_of}
use Rattle.remote_store.specs.Hosts.{is_host}
use Rattle.vol_fetch.specs.declared.words.Request.{Request}

-- PORT: 1 to 65,535, by at most five digits with no 0 in front
abbrev pub is_port_word : List ℕ → Bool
is_port_word word = list_all is_ascii_digit word && (nat_le 1 (length word) && nat_le (length word) 5) && not (slice_index word 0 == 48)

abbrev pub port_within : ℕ → Option ℕ
port_within n = if nat_le 1 n && nat_le n 65535 then Some n else None

abbrev pub digits_of : List ℕ → Option ℕ
digits_of word = if is_port_word word then Some (digits_value 10 word) else None

abbrev pub port_of : List ℕ → Option ℕ
port_of word = option_and_then port_within (digits_of word)

-- DATASET and KEY: a name of at most 200 bytes that doesn't begin with `-`
abbrev pub short_name : List ℕ → Option (List ℕ)
short_name word = if is_name word && nat_le (length word) 200 && not (slice_index word 0 == 45) then Some word else None

abbrev pub request_of : Option ℕ → Option (List ℕ) → Option (List ℕ) → Option Box3 → Option Request
request_of (Some port) (Some dataset) (Some key) (Some part) = Some (record { port = port; dataset = dataset; key = key; part = part })
request_of (Some port) (Some dataset) (Some key) None = None
request_of (Some port) (Some dataset) None part = None
request_of (Some port) None key part = None
request_of None dataset key part = None

-- what stands behind the port
abbrev pub scale_line : Option ℕ → List (List ℕ) → Option Request
scale_line port (dataset ∷ key ∷ part ∷ []) = request_of port (short_name dataset) (short_name key) (box_of part)
scale_line port words = None

-- `HOST PORT DATASET KEY BOX`, but for the host
abbrev pub fetch_line : List (List ℕ) → Option Request
fetch_line (host ∷ port ∷ words) = if is_host host then scale_line (port_of port) words else None
fetch_line words = None

-- HOST
abbrev pub first_word : List (List ℕ) → List ℕ
first_word [] = []
first_word (word ∷ words) = word
