-- What the words of a line spell (this project's profile).
use Rattle.std.specs.Prelude.{ℕ, ◌&&◌, ◌||◌, ◌==◌, not, Bool, List, length, drop, slice_index, nat_eq, nat_le, Option, Some, None, option_and_then, if◌then◌else◌}
use Rattle.std.specs.Char.{is_ascii_digit}
use Rattle.std.specs.List.{list_all, starts_with}
use Rattle.std.specs.Result.{result_ok}
use Rattle.std.specs.Str.Parse.{digits_value}
use Rattle.vol_base.specs.BoxText.{box_numbers, parsed}
use Rattle.vol_base.specs.Names.{is_name}
use Rattle.vol_base.specs.declared.boxes.Box3.{Box3}

-- a plain word isn't empty and doesn't begin with `-`
abbrev pub is_plain : List ℕ → Bool
is_plain word = nat_le 1 (length word) && not (slice_index word 0 == 45)

-- DATASET and KEY: a name of at most 200 bytes
abbrev pub short_name : List ℕ → Option (List ℕ)
short_name word = if is_name word && nat_le (length word) 200 then Some word else None

-- BOX: the box that the word spells, if it spells one
abbrev pub box_of : List ℕ → Option Box3
box_of word = result_ok (parsed (box_numbers word))

-- a number: `0`, or a digit 1 to 9 that at most nine digits follow
abbrev pub is_number : List ℕ → Bool
is_number word = list_all is_ascii_digit word && (nat_le 1 (length word) && nat_le (length word) 10) &&
    (length word == 1 || not (slice_index word 0 == 48))

abbrev pub number : List ℕ → Option ℕ
number word = if is_number word then Some (digits_value 10 word) else None

-- what follows `--name=` in a word that begins so
abbrev pub value_after : List ℕ → List ℕ → Option (List ℕ)
value_after option word = if starts_with nat_eq word option then Some (drop (length option) word) else None

-- N of `--workers=N`: 1 to 16
abbrev pub worker_count : List ℕ → Option ℕ
worker_count value = option_and_then (λ n. if nat_le 1 n && nat_le n 16 then Some n else None) (number value)

-- P of `--port=P`: 0 to 65535
abbrev pub port_number : List ℕ → Option ℕ
port_number value = option_and_then (λ n. if nat_le n 65535 then Some n else None) (number value)

-- N of `--connections=N`: 1 to 65536
abbrev pub connection_count : List ℕ → Option ℕ
connection_count value = option_and_then (λ n. if nat_le 1 n && nat_le n 65536 then Some n else None)
    (number value)
