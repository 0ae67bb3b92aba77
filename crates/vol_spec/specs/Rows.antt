-- Rows of a minishard index (precomputed volume format, sharded format, minishard index format). That a start is counted from the end of
-- the entries, and a later one from the end of the chunk before, is the reading of this project's profile.
use Rattle.std.specs.Prelude.{ℕ, ◌+◌, ◌*◌, ◌/◌, ◌^◌, ◌==◌, ◌&&◌, ◌||◌, nat_lt, nat_le, Bool, List, length, map, sum, take, drop, find, slice_index, true, Option, Some, None, Result, Ok, Err, if◌then◌else◌}
use Rattle.std.specs.List.{range_with_len}
use Rattle.std.specs.Option.{option_map_or}
use Rattle.byteorder.specs.Endian.{little_number}
use Rattle.vol_spec.specs.Types.{Bytes}
use Rattle.vol_spec.specs.declared.row.Row.{Row}
use Rattle.vol_base.specs.declared.faults.IndexFault.{IndexFault}
use Rattle.vol_base.specs.declared.faults.IndexFault.TheVariants.{BadId, BadStart}

-- the numbers that an index stores: of each row what its id and its start add to what came before, and its size
pub record Columns : Type 0 where
  pub ids : List ℕ
  pub starts : List ℕ
  pub sizes : List ℕ

-- the id of row r is the sum of the stored ids up to it
abbrev pub id_at : Columns → ℕ → ℕ
id_at c r = sum (take (r + 1) c.ids)

-- its start is the sum of the stored starts up to it and of the sizes before it
abbrev pub start_at : Columns → ℕ → ℕ
start_at c r = sum (take (r + 1) c.starts) + sum (take r c.sizes)

-- A row is bad where, past row 0, its id doesn't ascend or where its id passes 64 bits; else where its start plus its size
-- passes 64 bits, as it does where the start alone does.
abbrev pub judged_by : ℕ → ℕ → ℕ → ℕ → ℕ → Result Row IndexFault
judged_by r stored_id id start size =
    if (nat_lt 0 r && (stored_id == 0)) || nat_le (2 ^ 64) id then Err (BadId r)
    else (if nat_le (2 ^ 64) (start + size) then Err (BadStart r)
    else Ok (record { id = id; start = start; size = size }))

-- row r, or its fault
abbrev pub judged_row : Columns → ℕ → Result Row IndexFault
judged_row c r = judged_by r (slice_index c.ids r) (id_at c r) (start_at c r) (slice_index c.sizes r)

-- A look-up ends at the first row that has a fault or whose id isn't below the wanted one.
abbrev pub stops_at : ℕ → Result Row IndexFault → Bool
stops_at wanted (Ok row) = nat_le wanted row.id
stops_at wanted (Err fault) = true

abbrev pub stops : Columns → ℕ → ℕ → Bool
stops c wanted r = stops_at wanted (judged_row c r)

-- what it answers there
abbrev pub wanted_row : ℕ → Result Row IndexFault → Result (Option Row) IndexFault
wanted_row wanted (Ok row) = Ok (if row.id == wanted then Some row else None)
wanted_row wanted (Err fault) = Err fault

-- the answer at the first such row, or none
abbrev pub find_in : Columns → ℕ → Result (Option Row) IndexFault
find_in c wanted = option_map_or (λ r. wanted_row wanted (judged_row c r))
    (find (stops c wanted) (range_with_len 0 (length c.ids))) (Ok None)

-- the k-th number of some bytes
unfoldable pub number_at : Bytes → ℕ → ℕ
number_at bytes k = little_number 8 (drop (8 * k) bytes)

-- n numbers from the k-th on
abbrev pub numbers_at : Bytes → ℕ → ℕ → List ℕ
numbers_at bytes k n = map (number_at bytes) (range_with_len k n)

-- ids, then starts, then sizes
abbrev pub columns_of : Bytes → Columns
columns_of bytes = record {
  ids = numbers_at bytes 0 (length bytes / 24);
  starts = numbers_at bytes (length bytes / 24) (length bytes / 24);
  sizes = numbers_at bytes (2 * (length bytes / 24)) (length bytes / 24);
}
