-- What a Range field asks of an object (RFC 9110, section 14.1.2): bytes, in one of the forms `bytes=a-b`, `bytes=a-` and
-- `bytes=-n`. Numbers have any number of digits.
use Rattle.std.specs.Prelude.{ℕ, ◌+◌, ◌-◌, min, Bool, ◌&&◌, nat_lt, nat_le, ◌==◌, List, length, take, drop, map, Option, Some, None, position, if◌then◌else◌, bytes_eq, codes}
use Rattle.std.specs.List.{list_all}
use Rattle.std.specs.Char.{is_ascii_digit, to_ascii_lowercase}
use Rattle.std.specs.Str.Parse.{digits_value}
use Rattle.request_heads.specs.Words.{trimmed}
use Rattle.range_server.specs.declared.range.RangeAnswer.{RangeAnswer}
use Rattle.range_server.specs.declared.range.RangeAnswer.TheVariants.{Whole, Part, Unsatisfiable}

-- the number of one or more digits
unfoldable pub number : List ℕ → Option ℕ
number text = if nat_lt 0 (length text) && list_all is_ascii_digit text then Some (digits_value 10 text)
    else None

-- from a byte up to another
abbrev pub between : ℕ → ℕ → ℕ → RangeAnswer
between len a b = if nat_lt b a then Whole else (if nat_le len a then Unsatisfiable
    else Part a (min b (len - 1)))

-- from a byte on
abbrev pub onward : ℕ → ℕ → RangeAnswer
onward len a = if nat_le len a then Unsatisfiable else Part a (len - 1)

-- so many bytes at the end; no reply can say that it has an empty part
abbrev pub at_end : ℕ → ℕ → RangeAnswer
at_end len n = if n == 0 then Unsatisfiable else (if len == 0 then Whole else Part (len - n) (len - 1))

-- a number before the `-`, behind it, or both; any other form is no range
abbrev pub by_numbers : ℕ → Bool → Bool → Option ℕ → Option ℕ → RangeAnswer
by_numbers len none_first none_last (Some a) (Some b) = between len a b
by_numbers len none_first none_last (Some a) None = if none_last then onward len a else Whole
by_numbers len none_first none_last None (Some n) = if none_first then at_end len n else Whole
by_numbers len none_first none_last None None = Whole

abbrev pub by_ends : ℕ → List ℕ → List ℕ → RangeAnswer
by_ends len first last = by_numbers len (length first == 0) (length last == 0) (number first) (number last)

-- what stands at both sides of the first `-`
abbrev pub by_dash : ℕ → List ℕ → Option ℕ → RangeAnswer
by_dash len text None = Whole
by_dash len text (Some at) = by_ends len (take at text) (drop (at + 1) text)

-- `bytes=` comes first, in any case
abbrev pub by_unit : ℕ → List ℕ → RangeAnswer
by_unit len text = if bytes_eq (map to_ascii_lowercase (take 6 text)) (codes "bytes=")
    then by_dash len (drop 6 text) (position (λ b. b == 45) (drop 6 text)) else Whole

-- the answer to a range's value over an object of len bytes
abbrev pub range_in : List ℕ → ℕ → RangeAnswer
range_in value len = by_unit len (trimmed value)
