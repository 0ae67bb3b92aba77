-- A shard being written, in parts (this project's).
use Rattle.std.specs.Prelude.{ℕ, ◌+◌, ◌-◌, ◌*◌, List, [], ◌∷◌, ◌++◌, length, map, flat_map, sum_by, Option}
use Rattle.std.specs.List.{range_with_len}
use Rattle.std.specs.Option.{option_map}
use Rattle.vol_base.specs.Outside.{Draft, Objects}
use Rattle.vol_spec.specs.IndexBytes.{index_bytes, stored}
use Rattle.vol_spec.specs.Shards.{Chunk, joint, shard_bytes}
use Rattle.vol_spec.specs.Types.{Bytes, Name}
use Rattle.vol_spec.specs.declared.entry.Entry.{Entry}
use Rattle.vol_spec.specs.declared.row.Row.{Row}

abbrev pub all_bytes : List Chunk → Bytes
all_bytes cs = flat_map (λ (c : Chunk). c.bytes) cs

-- what chunks take in a shard: their lengths, and a row of 24 bytes for each
abbrev pub room : List Chunk → ℕ
room cs = sum_by (λ (c : Chunk). length c.bytes + 24) cs

-- the rows of chunks side by side, the first of which starts there
abbrev pub rows_from : ℕ → List Chunk → List Row
rows_from at [] = []
rows_from at (c ∷ cs) = record { id = c.id; start = at; size = length c.bytes }
    ∷ rows_from (at + length c.bytes) cs

abbrev pub index_of : ℕ → List Chunk → Bytes
index_of at cs = index_bytes (stored (rows_from at cs))

-- where the index of chunks side by side starts and ends
abbrev pub entry_for : ℕ → List Chunk → Entry
entry_for at cs = record { start = at + joint cs; end = at + joint cs + 24 * length cs }

-- the chunks of the jobs from one number up to, not with, another
abbrev pub run : (ℕ → Chunk) → ℕ → ℕ → List Chunk
run chunk a b = map chunk (range_with_len a (b - a))

-- an object being written, with its bytes so far, where objects are told
abbrev pub draft_of : Option Objects → Name → Bytes → Draft
draft_of objects name bytes = record {
  len = length bytes;
  told =
      option_map (λ _. let d : Name × Bytes = (name, bytes) in d) objects;
}

-- The bytes of a shard between two jobs: those of a shard that has the chunks of whole minishards alone, and behind them the chunks of
-- the minishard that is open. An entry that isn't written yet is that of an empty minishard.
abbrev pub so_far : ℕ → List Chunk → List Chunk → Bytes
so_far bits closed opened = shard_bytes bits closed ++ all_bytes opened
