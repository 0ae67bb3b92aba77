-- Where a shard has the chunk of an id (precomputed volume format, sharded format). What is wrong is told in the order of the look-up, which
-- is this project's profile: the entry, the index, its rows up to the wanted one, the chunk.
use Rattle.std.specs.Prelude.{ℕ, ◌+◌, ◌*◌, nat_lt, length, Option, Some, None, Result, Ok, Err, if◌then◌else◌}
use Rattle.vol_base.specs.Outside.{part}
use Rattle.vol_base.specs.declared.faults.Fault.{Fault}
use Rattle.vol_base.specs.declared.faults.Fault.TheVariants.{Index, Shard}
use Rattle.vol_base.specs.declared.faults.IndexFault.{IndexFault}
use Rattle.vol_base.specs.declared.faults.ShardFault.{ShardFault}
use Rattle.vol_base.specs.declared.faults.ShardFault.TheVariants.{ShortIndex, ChunkTooLong, ShortChunk}
use Rattle.vol_spec.specs.Entries.{base_of, entry_of, judged_entry}
use Rattle.vol_spec.specs.Places.{minishard_of}
use Rattle.vol_spec.specs.Rows.{columns_of, find_in}
use Rattle.vol_spec.specs.Types.{Bytes}
use Rattle.vol_spec.specs.declared.entry.Entry.{Entry}
use Rattle.vol_spec.specs.declared.row.Row.{Row}
use Rattle.vol_spec.specs.declared.sharding.Sharding.{Sharding}
use Rattle.vol_spec.specs.declared.span.ChunkSpan.{ChunkSpan}

-- what comes next where there is no fault
infixl 10 ◌>>=◌
abbrev pub ◌>>=◌ : {A B : Type 0} → Result A Fault → (A → Result B Fault) → Result B Fault
(Ok x) >>= f = f x
(Err fault) >>= f = Err fault

abbrev pub of_shard : {A : Type 0} → Result A ShardFault → Result A Fault
of_shard (Ok x) = Ok x
of_shard (Err fault) = Err (Shard fault)

abbrev pub of_index : {A : Type 0} → Result A IndexFault → Result A Fault
of_index (Ok x) = Ok x
of_index (Err fault) = Err (Index fault)

-- the entry of a minishard
abbrev pub entry_in : Bytes → ℕ → Entry
entry_in object m = entry_of (part object (16 * m) 16)

-- how many rows its index has; 0 where it is empty
abbrev pub rows_in : Bytes → Sharding → ℕ → Result ℕ ShardFault
rows_in object sharding m =
    if nat_lt (length object) (16 * m + 16) then Err ShortIndex
    else judged_entry (entry_in object m) (base_of sharding) (length object)

-- the bytes of so many rows
abbrev pub index_in : Bytes → Sharding → ℕ → ℕ → Bytes
index_in object sharding m rows = part object (base_of sharding + (entry_in object m).start) (24 * rows)

-- the row with an id among them, or none
abbrev pub row_in : Bytes → Sharding → ℕ → ℕ → ℕ → Result (Option Row) IndexFault
row_in object sharding m id rows = find_in (columns_of (index_in object sharding m rows)) id

-- where the chunk of a row stands in an object of so many bytes
abbrev pub span_of : ℕ → ℕ → ℕ → Option Row → Result (Option ChunkSpan) ShardFault
span_of base len limit None = Ok None
span_of base len limit (Some row) =
    if nat_lt limit row.size then Err (ChunkTooLong row.size limit)
    else (if nat_lt len (base + row.start + row.size) then Err ShortChunk
    else Ok (Some (record { start = base + row.start; len = row.size })))

-- where the chunk of an id stands in its shard's object, none where it is absent, or the first fault; `limit` is the chunk's longest length
unfoldable pub found : Bytes → Sharding → ℕ → ℕ → Result (Option ChunkSpan) Fault
found object sharding limit id = do
  rows ← of_shard (rows_in object sharding (minishard_of sharding id))
  row ← of_index (row_in object sharding (minishard_of sharding id) id rows)
  of_shard (span_of (base_of sharding) (length object) limit row)
