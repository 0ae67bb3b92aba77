-- The bytes of a request, piece by piece (this project's).
use Rattle.std.specs.Prelude.{ℕ, ◌+◌, ◌-◌, List, ◌++◌, codes}
use Rattle.std.specs.Fmt.{decimal}
use Rattle.remote_store.specs.declared.wanted.Wanted.{Wanted}
use Rattle.remote_store.specs.declared.wanted.Wanted.TheVariants.{Length, Part}

-- for a length
abbrev pub length_text : List ℕ → List ℕ → List ℕ
length_text peer key = codes "HEAD /" ++ key ++ codes " HTTP/1.1\r\nHost: " ++ peer ++ codes "\r\n\r\n"

-- the field that asks for the bytes from one to another, and the end of the head
abbrev pub range_text : ℕ → ℕ → List ℕ
range_text first last = codes "\r\nRange: bytes=" ++ decimal first ++ codes "-" ++ decimal last ++ codes "\r\n\r\n"

-- for so many bytes from a place on
abbrev pub part_text : List ℕ → List ℕ → ℕ → ℕ → List ℕ
part_text peer key from count = codes "GET /" ++ key ++ codes " HTTP/1.1\r\nHost: " ++ peer ++ range_text from (from + count - 1)

abbrev pub request_text : List ℕ → List ℕ → Wanted → List ℕ
request_text peer key Length = length_text peer key
request_text peer key (Part from count) = part_text peer key from count
