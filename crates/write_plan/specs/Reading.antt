-- The stream of box writes as it is read from the front, with what is left behind what was read (this
-- project's).
use Rattle.std.specs.Prelude.{ℕ, zero, suc, ◌+◌, ◌^◌, ◌==◌, not, nat_lt, List, [], ◌∷◌, ◌++◌, length, take, drop, Result, Ok, Err, if◌then◌else◌}
use Rattle.std.specs.Int.{w32, from_le_bytes}
use Rattle.std.specs.Str.{bytes_eq}
use Rattle.vol_base.specs.declared.boxes.Box3.{Box3}
use Rattle.vol_spec.specs.Raw.{raw_len}
use Rattle.vol_spec.specs.declared.scale.Scale.{Scale}
use Rattle.write_plan.specs.Stream.{box_of, is_empty, is_within, magic}
use Rattle.write_plan.specs.WriteLists.{BoxWrite, total}
use Rattle.write_plan.specs.declared.fault.PlanFault.{PlanFault}
use Rattle.write_plan.specs.declared.fault.PlanFault.TheVariants.{BadMagic, TooManyWrites, EmptyBox, OutsideBox, WritesTooLarge, Truncated, TrailingBytes}

infixl 10 ◌>>=◌
abbrev pub ◌>>=◌ : {A B : Type 0} → Result A PlanFault → (A → Result B PlanFault) → Result B PlanFault
(Ok x) >>= f = f x
(Err e) >>= f = Err e

-- the first n bytes, and what comes after them
abbrev pub front : ℕ → PlanFault → List ℕ → Result (List ℕ × List ℕ) PlanFault
front n short bytes = if nat_lt (length bytes) n then Err short else Ok (take n bytes, drop n bytes)

-- the box of write i, behind so many bytes of values
unfoldable pub judged : Scale → ℕ → ℕ → Box3 → Result Box3 PlanFault
judged s i before b =
    if is_empty b then Err (EmptyBox i)
    else (if not (is_within s b) then Err (OutsideBox i)
    else (if nat_lt (2 ^ 30) (before + raw_len b s.channels s.width) then Err (WritesTooLarge i)
    else Ok b))

unfoldable pub box_at : Scale → ℕ → ℕ → List ℕ → Result (Box3 × List ℕ) PlanFault
box_at s i before bytes = do
  head ← front 48 (Truncated i) bytes
  b ← judged s i before (box_of head.0)
  Ok (b, head.1)

-- write i, and what comes after it
unfoldable pub write_at : Scale → ℕ → ℕ → List ℕ → Result (BoxWrite × List ℕ) PlanFault
write_at s i before bytes = do
  b ← box_at s i before bytes
  values ← front (raw_len b.0 s.channels s.width) (Truncated i) b.1
  Ok ((b.0, values.0), values.1)

-- n more writes behind these, and what comes after them
unfoldable pub writes_at : Scale → ℕ → List BoxWrite → List ℕ → Result (List BoxWrite × List ℕ) PlanFault
writes_at s zero before bytes = Ok (before, bytes)
writes_at s (suc n) before bytes = do
  write ← write_at s (length before) (total before) bytes
  writes_at s n (before ++ write.0 ∷ []) write.1

unfoldable pub marked : List ℕ → Result (List ℕ) PlanFault
marked bytes = do
  head ← front 4 BadMagic bytes
  if bytes_eq head.0 magic then Ok head.1 else Err BadMagic

-- at most 65,536 writes
abbrev pub limited : ℕ → List ℕ → Result (ℕ × List ℕ) PlanFault
limited n rest = if nat_lt 65536 n then Err (TooManyWrites n) else Ok (n, rest)

-- the count of the writes
unfoldable pub count_at : List ℕ → Result (ℕ × List ℕ) PlanFault
count_at bytes = do
  rest ← marked bytes
  count ← front 4 (Truncated 0) rest
  limited (from_le_bytes w32 count.0) count.1

-- nothing follows
abbrev pub ended : {A : Type 0} → A → List ℕ → Result A PlanFault
ended value bytes = if length bytes == 0 then Ok value else Err TrailingBytes

-- nothing, where nothing follows
abbrev pub end_at : List ℕ → Result (List ℕ × List ℕ) PlanFault
end_at = ended ([], [])

-- the writes of a stream, or its first fault
unfoldable pub writes_read : List ℕ → Scale → Result (List BoxWrite) PlanFault
writes_read bytes s = do
  count ← count_at bytes
  writes ← writes_at s count.0 [] count.1
  ended writes.0 writes.1
