-- The entries in front of a shard (precomputed volume format, sharded format, shard index format).
use Rattle.std.specs.Prelude.{ℕ, ◌+◌, ◌-◌, ◌*◌, ◌/◌, ◌%◌, ◌^◌, ◌==◌, not, nat_lt, ◌++◌, drop, Result, Ok, Err, if◌then◌else◌}
use Rattle.byteorder.specs.Endian.{little_bytes, little_number}
use Rattle.vol_base.specs.declared.faults.ShardFault.{ShardFault}
use Rattle.vol_base.specs.declared.faults.ShardFault.TheVariants.{BadRange, BadLength, TooManyRows, ShortMinishard}
use Rattle.vol_spec.specs.Types.{Bytes}
use Rattle.vol_spec.specs.declared.sharding.Sharding.{Sharding}
use Rattle.vol_spec.specs.declared.entry.Entry.{Entry}

-- the length of the entries: one of 16 bytes for each minishard
abbrev pub base_of : Sharding → ℕ
base_of sharding = 16 * 2 ^ sharding.minishard_bits

-- the start and the end, eight bytes each, the lowest first
unfoldable pub entry_bytes : Entry → Bytes
entry_bytes entry = little_bytes 8 entry.start ++ little_bytes 8 entry.end

unfoldable pub entry_of : Bytes → Entry
entry_of bytes = record { start = little_number 8 bytes; end = little_number 8 (drop 8 bytes) }

-- the number of rows of 24 bytes behind an entry, or its first fault; `len` is the object's length
abbrev pub judged_entry : Entry → ℕ → ℕ → Result ℕ ShardFault
judged_entry entry base len =
    let bytes = entry.end - entry.start in
    if entry.start == entry.end then Ok 0
    else (if nat_lt entry.end entry.start then Err BadRange
    else (if not (bytes % 24 == 0) then Err (BadLength bytes)
    else (if nat_lt (2 ^ 22) (bytes / 24) then Err (TooManyRows (bytes / 24))
    else (if nat_lt len (base + entry.end) then Err ShortMinishard
    else Ok (bytes / 24)))))
