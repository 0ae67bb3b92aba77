-- The numbers of a box's text as they are kept while it is read (this project's): one more than the limit for
-- every number past it.
use Rattle.std.specs.Prelude.{ℕ, ◌+◌, ◌^◌, ◌&&◌, ◌==◌, ℤ, pos, neg_ℤ, min, List, length, take, drop, slice_index, Option, Some, None, if◌then◌else◌, position}
use Rattle.std.specs.Option.{option_map}
use Rattle.std.specs.Str.Parse.{digits_value}
use Rattle.vol_base.specs.BoxText.{◌>>=◌, is_natural, opened}
use Rattle.vol_base.specs.declared.boxes.Ends.{Ends}

abbrev pub kept_natural : List ℕ → Option ℕ
kept_natural digits = if is_natural digits then Some (min (digits_value 10 digits) (2 ^ 41 + 1)) else None

unfoldable pub kept_number : List ℕ → Option ℤ
kept_number text = if length text == 1 && (slice_index text 0 == 48) then Some (pos 0)
    else (if slice_index text 0 == 45 then option_map (λ n. neg_ℤ (pos n)) (kept_natural (drop 1 text))
    else option_map pos (kept_natural text))

unfoldable pub kept_field : ℕ → List ℕ → Option (ℤ × List ℕ)
kept_field stop text = do
  at ← position (λ b. b == stop) text
  n ← kept_number (take at text)
  Some (n, drop (at + 1) text)

unfoldable pub kept_numbers : List ℕ → Option Ends
kept_numbers text = do
  inside ← opened text
  x0 ← kept_field 58 inside
  x1 ← kept_field 44 x0.1
  y0 ← kept_field 58 x1.1
  y1 ← kept_field 44 y0.1
  z0 ← kept_field 58 y1.1
  z1 ← kept_field 93 z0.1
  if length z1.1 == 0 then Some (record {
    x = record { 0 = x0.0; 1 = x1.0 };
    y =
        record { 0 = y0.0; 1 = y1.0 };
    z = record { 0 = z0.0; 1 = z1.0 };
  }) else None
