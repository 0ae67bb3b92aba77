-- What the numbers of a head are read as (this project's).
use Rattle.std.specs.Prelude.{ℕ, ◌+◌, ◌-◌, ◌^◌, ◌&&◌, ◌==◌, min, take, drop, position, List, Option, Some, None, length, nat_lt, bytes_eq, codes, if◌then◌else◌, option_map}
use Rattle.std.specs.List.{list_all}
use Rattle.std.specs.Char.{is_ascii_digit}
use Rattle.std.specs.Str.Parse.{digits_value}
use Rattle.remote_store.specs.Fits.{Place}

-- the greatest number of 128 bits stands for all above it
abbrev pub capped : ℕ → ℕ
capped n = min n (2 ^ 128 - 1)

-- the number of one or more digits, so capped
abbrev pub capped_number : List ℕ → Option ℕ
capped_number text = if nat_lt 0 (length text) && list_all is_ascii_digit text then Some (capped (digits_value 10 text)) else None

abbrev pub cap_place : Place → Place
cap_place (first, last, total) = (capped first, capped last, capped total)

-- a number up to a mark, and what stands behind the mark, so capped
abbrev pub capped_to : List ℕ → Option ℕ → Option (ℕ × List ℕ)
capped_to text None = None
capped_to text (Some at) = option_map (λ n. (n, drop (at + 1) text)) (capped_number (take at text))

unfoldable pub capped_before : ℕ → List ℕ → Option (ℕ × List ℕ)
capped_before mark text = capped_to text (position (λ b. b == mark) text)

abbrev pub capped_total : ℕ → Option (ℕ × List ℕ) → Option Place
capped_total first None = None
capped_total first (Some (last, text)) = option_map (λ total. (first, last, total)) (capped_number text)

abbrev pub capped_last : Option (ℕ × List ℕ) → Option Place
capped_last None = None
capped_last (Some (first, text)) = capped_total first (capped_before 47 text)

-- the part that a value says, so capped
unfoldable pub capped_place : List ℕ → Option Place
capped_place value = if bytes_eq (take 6 value) (codes "bytes ") then capped_last (capped_before 45 (drop 6 value)) else None

-- the part that the only value says, so capped
abbrev pub capped_in : Option (List ℕ) → Option Place
capped_in None = None
capped_in (Some value) = capped_place value
