-- The text of a box, as `[0:5,-3:4,0:1]` (this project's profile).
use Rattle.std.specs.Prelude.{ℕ, ◌+◌, ◌^◌, ◌&&◌, ◌==◌, nat_le, not, Bool, ℤ, pos, neg_ℤ, ◌-ℤ◌, int_lt, nat_abs, List, [], ◌∷◌, length, take, drop, slice_index, Option, Some, None, Result, Ok, Err, if◌then◌else◌, position}
use Rattle.std.specs.List.{list_all}
use Rattle.std.specs.Option.{option_map}
use Rattle.std.specs.Char.{is_ascii_digit}
use Rattle.std.specs.Str.Parse.{digits_value}
use Rattle.vol_base.specs.declared.boxes.Box3.{Box3}
use Rattle.vol_base.specs.declared.boxes.Ends.{Ends}
use Rattle.vol_base.specs.declared.boxes.BoxFault.{BoxFault}
use Rattle.vol_base.specs.declared.boxes.BoxFault.TheVariants.{Syntax, Range, Empty}

infixl 10 ◌>>=◌
abbrev pub ◌>>=◌ : {A B : Type 0} → Option A → (A → Option B) → Option B
None >>= f = None
(Some x) >>= f = f x

-- digits, the first of which is not 0
abbrev pub is_natural : List ℕ → Bool
is_natural digits = nat_le 1 (length digits) && not
    (slice_index digits 0 == 48) && list_all is_ascii_digit digits

-- their number
abbrev pub natural : List ℕ → Option ℕ
natural digits = if is_natural digits then Some (digits_value 10 digits) else None

-- `0`, or an optional `-` and such digits
unfoldable pub number : List ℕ → Option ℤ
number text = if length text == 1 && (slice_index text 0 == 48) then Some (pos 0)
    else (if slice_index text 0 == 45 then option_map (λ n. neg_ℤ (pos n)) (natural (drop 1 text))
    else option_map pos (natural text))

-- a number up to the first stop, and what comes after it
unfoldable pub field : ℕ → List ℕ → Option (ℤ × List ℕ)
field stop text = do
  at ← position (λ b. b == stop) text
  n ← number (take at text)
  Some (n, drop (at + 1) text)

-- what comes after `[`
unfoldable pub opened : List ℕ → Option (List ℕ)
opened text = if slice_index text 0 == 91 then Some (drop 1 text) else None

-- `[x0:x1,y0:y1,z0:z1]`
unfoldable pub box_numbers : List ℕ → Option Ends
box_numbers text = do
  inside ← opened text
  x0 ← field 58 inside
  x1 ← field 44 x0.1
  y0 ← field 58 x1.1
  y1 ← field 44 y0.1
  z0 ← field 58 y1.1
  z1 ← field 93 z0.1
  if length z1.1 == 0 then Some (record {
    x = record { 0 = x0.0; 1 = x1.0 };
    y =
        record { 0 = y0.0; 1 = y1.0 };
    z = record { 0 = z0.0; 1 = z1.0 };
  }) else None

abbrev pub in_range : ℤ → Bool
in_range n = nat_le (nat_abs n) (2 ^ 41)

abbrev pub extent : ℤ → ℤ → Option ℕ
extent low high = if int_lt low high then Some (nat_abs (high -ℤ low)) else None

abbrev pub sized : List ℤ → Option ℕ → Option ℕ → Option ℕ → Result Box3 BoxFault
sized begin (Some x) (Some y) (Some z) = Ok (record { begin = begin; size = x ∷ y ∷ z ∷ [] })
sized begin (Some x) (Some y) None = Err Empty
sized begin (Some x) None z = Err Empty
sized begin None y z = Err Empty

-- the first fault, or the box
abbrev pub judged : Ends → Result Box3 BoxFault
judged e = if (in_range e.x.0 && in_range e.x.1) && (in_range e.y.0 && in_range e.y.1) &&
    (in_range e.z.0 && in_range e.z.1)
    then sized (e.x.0 ∷ e.y.0 ∷ e.z.0 ∷ []) (extent e.x.0 e.x.1) (extent e.y.0 e.y.1) (extent e.z.0 e.z.1)
    else Err Range

abbrev pub parsed : Option Ends → Result Box3 BoxFault
parsed None = Err Syntax
parsed (Some ends) = judged ends
