-- The stream of box writes, this project's own format. Numbers have their lowest byte first. The bytes `PVW1`; a count of 32 bits; for
-- each write its head, three signed 64-bit begins and three 64-bit sizes, x first, and the values of its box in the order of a raw chunk.
-- Nothing follows. The first fault from the front is the answer. A write's fault has its number, counted from 0.
use Rattle.std.specs.Prelude.{ℕ, zero, suc, ◌+◌, ◌*◌, ◌^◌, ◌==◌, ◌&&◌, not, nat_lt, Bool, List, [], ◌∷◌, ◌++◌, length, map, sum, take, drop, int_le, Option, Some, None, Result, Ok, Err, if◌then◌else◌}
use Rattle.std.specs.Int.{w32, w64, from_le_bytes, cast_signed}
use Rattle.std.specs.List.{list_all, list_any, range_with_len}
use Rattle.std.specs.Str.{bytes_eq}
use Rattle.vol_base.specs.declared.boxes.Box3.{Box3}
use Rattle.vol_base.specs.Boxes.{at, end, size, on_axes}
use Rattle.vol_spec.specs.BoxValues.{first_some}
use Rattle.vol_spec.specs.Grid.{whole}
use Rattle.vol_spec.specs.Raw.{raw_len}
use Rattle.vol_spec.specs.Types.{Bytes}
use Rattle.vol_spec.specs.declared.scale.Scale.{Scale}
use Rattle.write_plan.specs.WriteLists.{BoxWrite, total}
use Rattle.write_plan.specs.declared.fault.PlanFault.{PlanFault}
use Rattle.write_plan.specs.declared.fault.PlanFault.TheVariants.{BadMagic, TooManyWrites, EmptyBox, OutsideBox, WritesTooLarge, Truncated, TrailingBytes}

-- `PVW1`
abbrev pub magic : List ℕ
magic = 80 ∷ 86 ∷ 87 ∷ 49 ∷ []

-- the n-th number of 64 bits of the head of a write
abbrev pub head_number : List ℕ → ℕ → ℕ
head_number bytes n = from_le_bytes w64 (take 8 (drop (8 * n) bytes))

-- a box from its begins and its sizes
abbrev pub box_of : List ℕ → Box3
box_of head = record {
  begin = on_axes (λ axis. cast_signed w64 (head_number head axis));
  size = on_axes (λ axis. head_number head (3 + axis));
}

-- a size is 0
abbrev pub is_empty : Box3 → Bool
is_empty b = list_any (λ axis. size b axis == 0) (0 ∷ 1 ∷ 2 ∷ [])

-- on each axis the box begins and ends within the scale
abbrev pub is_within : Scale → Box3 → Bool
is_within s b = list_all (λ axis. int_le (at s.offset axis) (at b.begin axis) && int_le (end b axis)
    (end (whole s) axis)) (0 ∷ 1 ∷ 2 ∷ [])

-- the place of a write: behind the mark, the count and, for each write before it, a head of 48 bytes and its values
abbrev pub place : List BoxWrite → ℕ
place before = 8 + sum (map (λ w. 48 + length w.1) before)

-- the box of the write behind some writes, and how many bytes its values have
abbrev pub box_behind : Bytes → List BoxWrite → Box3
box_behind bytes before = box_of (take 48 (drop (place before) bytes))

abbrev pub len_behind : Scale → Bytes → List BoxWrite → ℕ
len_behind s bytes before = raw_len (box_behind bytes before) s.channels s.width

-- the write itself
abbrev pub write_behind : Scale → Bytes → List BoxWrite → BoxWrite
write_behind s bytes before = (
  box_behind bytes before,
  take (len_behind s bytes before)
      (drop (place before + 48) bytes),
)

-- a fault where a test holds
abbrev pub fault_if : Bool → PlanFault → Option PlanFault
fault_if test fault = if test then Some fault else None

-- the count of the writes
abbrev pub count_in : Bytes → ℕ
count_in bytes = from_le_bytes w32 (take 4 (drop 4 bytes))

-- the first fault of the mark and the count: at most 65,536 writes
abbrev pub count_fault : Bytes → Option PlanFault
count_fault bytes = first_some (
    fault_if (not (bytes_eq (take 4 bytes) magic)) BadMagic
    ∷ fault_if (nat_lt (length bytes) 8) (Truncated 0)
    ∷ fault_if (nat_lt 65536 (count_in bytes)) (TooManyWrites (count_in bytes))
    ∷ [])

-- the first fault of the write behind some writes; all values together have at most 2^30 bytes
abbrev pub write_fault : Scale → Bytes → List BoxWrite → Option PlanFault
write_fault s bytes before = first_some (
    fault_if (nat_lt (length bytes) (place before + 48)) (Truncated (length before))
    ∷ fault_if (is_empty (box_behind bytes before)) (EmptyBox (length before))
    ∷ fault_if (not (is_within s (box_behind bytes before))) (OutsideBox (length before))
    ∷ fault_if (nat_lt (2 ^ 30) (total before + len_behind s bytes before)) (WritesTooLarge (length before))
    ∷ fault_if (nat_lt (length bytes) (place before + 48 + len_behind s bytes before))
    (Truncated (length before))
    ∷ [])

-- the first n writes, as long as none has a fault
abbrev pub first_writes : Scale → Bytes → ℕ → List BoxWrite
first_writes s bytes zero = []
first_writes s bytes (suc n) = first_writes s bytes n ++ write_behind s bytes (first_writes s bytes n) ∷ []

-- the first fault of a stream: of its count, of each write, or that something follows
abbrev pub stream_fault : Bytes → Scale → Option PlanFault
stream_fault bytes s = first_some (
    count_fault bytes
    ∷ map (λ n. write_fault s bytes (first_writes s bytes n)) (range_with_len 0 (count_in bytes))
    ++ fault_if (nat_lt (place (first_writes s bytes (count_in bytes))) (length bytes)) TrailingBytes
    ∷ [])

-- a value where there is no fault
abbrev pub unless_fault : {A : Type 0} → Option PlanFault → A → Result A PlanFault
unless_fault None value = Ok value
unless_fault (Some fault) value = Err fault

-- the writes of a stream, or its first fault
unfoldable pub writes_of : Bytes → Scale → Result (List BoxWrite) PlanFault
writes_of bytes s = unless_fault (stream_fault bytes s) (first_writes s bytes (count_in bytes))
