-- The stream that a list of writes stands in (docs/statuses.md).
use Rattle.std.specs.Prelude.{ℕ, ◌+◌, ◌^◌, nat_lt, List, [], ◌∷◌, ◌++◌, length, flat_map, Option, Some, None, Result, if◌then◌else◌}
use Rattle.std.specs.Int.{w64, cast_unsigned}
use Rattle.byteorder.specs.Endian.{little_bytes}
use Rattle.vol_base.specs.declared.boxes.Box3.{Box3}
use Rattle.vol_base.specs.Boxes.{at, size, on_axes}
use Rattle.vol_spec.specs.Types.{Bytes, Writes}
use Rattle.write_plan.specs.Stream.{magic, unless_fault}
use Rattle.write_plan.specs.declared.fault.PlanFault.{PlanFault}
use Rattle.write_plan.specs.declared.fault.PlanFault.TheVariants.{WritesTooLarge}

-- numbers of 64 bits, the lowest byte first
abbrev pub words : List ℕ → Bytes
words ns = flat_map (little_bytes 8) ns

-- a write's begins, signed, and its sizes
unfoldable pub head_of : Box3 → Bytes
head_of b = words (on_axes (λ axis. cast_unsigned w64 (at b.begin axis)) ++ on_axes (size b))

-- a write: its head and its values
abbrev pub write_bytes : Box3 × Bytes → Bytes
write_bytes write = head_of write.0 ++ write.1

abbrev pub written : Writes → Bytes
written writes = flat_map write_bytes writes

-- the mark, the count and the writes
abbrev pub stream_of : Writes → Bytes
stream_of writes = magic ++ little_bytes 4 (length writes) ++ written writes

-- the first write, counted from write i, with which the values have more than 2^30 bytes, where so many stand before
abbrev pub size_fault : ℕ → ℕ → Writes → Option PlanFault
size_fault i before [] = None
size_fault i before (write ∷ rest) =
    if nat_lt (2 ^ 30) (before + length write.1) then Some (WritesTooLarge i)
    else size_fault (i + 1) (before + length write.1) rest

-- a list, unless its values have more than 2^30 bytes
abbrev pub unless_large : Writes → Result Writes PlanFault
unless_large writes = unless_fault (size_fault 0 0 writes) writes
