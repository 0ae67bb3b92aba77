-- The bytes of a shard (precomputed volume format, sharded format). Every position is a sum over the shard's chunks. That behind the entries
-- each minishard in order has its chunks by ascending id, without gaps, and then its index, is this project's profile.
use Rattle.std.specs.Prelude.{ℕ, ◌+◌, ◌*◌, ◌^◌, ◌==◌, nat_lt, List, ◌++◌, length, map, flat_map, filter, sum_by, if◌then◌else◌}
use Rattle.std.specs.List.{range_with_len}
use Rattle.vol_spec.specs.Entries.{entry_bytes}
use Rattle.vol_spec.specs.IndexBytes.{index_bytes, stored}
use Rattle.vol_spec.specs.Types.{Bytes}
use Rattle.vol_spec.specs.declared.entry.Entry.{Entry}
use Rattle.vol_spec.specs.declared.row.Row.{Row}

-- a chunk of a shard
pub record Chunk : Type 0 where
  pub minishard : ℕ
  pub id : ℕ
  pub bytes : Bytes

-- the chunks of a minishard
abbrev pub of : List Chunk → ℕ → List Chunk
of chunks m = filter (λ (c : Chunk). c.minishard == m) chunks

-- their joint length
abbrev pub joint : List Chunk → ℕ
joint chunks = sum_by (λ (c : Chunk). length c.bytes) chunks

-- what the minishards below take: the lengths of their chunks, and a row of 24 bytes for each
abbrev pub before : List Chunk → ℕ → ℕ
before chunks m = sum_by (λ (c : Chunk). length c.bytes + 24)
    (filter (λ (c : Chunk). nat_lt c.minishard m) chunks)

-- A chunk starts behind them and behind the chunks of its minishard with lower ids, counted from the end of the entries.
abbrev pub start_of : List Chunk → Chunk → ℕ
start_of chunks c = before chunks c.minishard + joint
    (filter (λ (d : Chunk). nat_lt d.id c.id) (of chunks c.minishard))

abbrev pub row_of : List Chunk → Chunk → Row
row_of chunks c = record { id = c.id; start = start_of chunks c; size = length c.bytes }

-- the rows of a minishard, one for each of its chunks
abbrev pub rows_of : List Chunk → ℕ → List Row
rows_of chunks m = map (row_of chunks) (of chunks m)

-- the index of a minishard starts behind its chunks
abbrev pub index_start : List Chunk → ℕ → ℕ
index_start chunks m = before chunks m + joint (of chunks m)

-- where the index starts and ends, both 0 where the minishard has no chunk
abbrev pub entry_at : List Chunk → ℕ → Entry
entry_at chunks m =
    if length (of chunks m) == 0 then record { start = 0; end = 0 }
    else record { start = index_start chunks m; end = index_start chunks m + 24 * length (of chunks m) }

-- the entries of the first minishards
abbrev pub entries : List Chunk → ℕ → Bytes
entries chunks n = flat_map (λ m. entry_bytes (entry_at chunks m)) (range_with_len 0 n)

-- the chunks of a minishard and its index, nothing where it has no chunk
abbrev pub body : List Chunk → ℕ → Bytes
body chunks m = flat_map (λ (c : Chunk). c.bytes) (of chunks m) ++ index_bytes (stored (rows_of chunks m))

abbrev pub bodies : List Chunk → ℕ → Bytes
bodies chunks n = flat_map (body chunks) (range_with_len 0 n)

-- a shard of 2^bits minishards; the chunks of each are given by ascending id
unfoldable pub shard_bytes : ℕ → List Chunk → Bytes
shard_bytes bits chunks = entries chunks (2 ^ bits) ++ bodies chunks (2 ^ bits)
