-- The objects of a sharded scale (precomputed volume format, sharded format), by its chunks: a list of cells,
-- each with the bytes of its chunk.
use Rattle.std.specs.Prelude.{ℕ, ◌==◌, nat_lt, Bool, List, [], ◌∷◌, length, map, filter, slice_index}
use Rattle.std.specs.FinMap as fin
use Rattle.std.specs.Ordering.{nat_cmp}
use Rattle.std.specs.Cmp.Lexicographic.{slice_cmp}
use Rattle.vol_spec.specs.Places.{id_of, minishard_of, shard_of}
use Rattle.vol_spec.specs.ShardNames.{shard_name}
use Rattle.vol_spec.specs.Shards.{Chunk, shard_bytes}
use Rattle.vol_spec.specs.Types.{Bytes, Cell, Chunks, Key, Keyed, Listed, Name}
use Rattle.vol_spec.specs.declared.scale.Scale.{Scale}
use Rattle.vol_spec.specs.declared.sharding.Sharding.{Sharding}

-- the shard, the minishard and the id of a cell
abbrev pub key_of : Scale → Sharding → Cell → Key
key_of s sharding cell = shard_of sharding (id_of s cell) ∷ minishard_of sharding (id_of s cell)
    ∷ id_of s cell ∷ []

-- by ascending keys
abbrev pub in_order : Keyed → Keyed
in_order entries = let by_key : fin.FinMap (slice_cmp nat_cmp) (List ℕ) = fin.from_entries entries in
    fin.entries by_key

-- chunks by shard, minishard and id, in this order
abbrev pub placed : Scale → Sharding → Chunks → Keyed
placed s sharding chunks = in_order (map (λ (c : Cell × Bytes). let entry : Key ×
    Bytes = (key_of s sharding c.0, c.1) in entry) chunks)

-- the chunks of a shard, by minishard and then by id
abbrev pub chunk_of : Key × Bytes → Chunk
chunk_of e = record { minishard = slice_index e.0 1; id = slice_index e.0 2; bytes = e.1 }

abbrev pub in_shard : Keyed → ℕ → List Chunk
in_shard chunks n = map chunk_of (filter (λ (e : Key × Bytes). slice_index e.0 0 == n) chunks)

abbrev pub has_chunk : Keyed → ℕ → Bool
has_chunk chunks n = nat_lt 0 (length (in_shard chunks n))

-- the object of a shard: its name and its bytes
abbrev pub shard_object : Name → Scale → Sharding → Keyed → ℕ → Name × Bytes
shard_object dataset s sharding chunks n = (
  shard_name dataset s n,
  shard_bytes sharding.minishard_bits
      (in_shard chunks n),
)

-- the objects of those of some shards that have a chunk
abbrev pub objects_in : Name → Scale → Sharding → Keyed → List ℕ → Listed
objects_in dataset s sharding chunks shards = map (shard_object dataset s sharding chunks)
    (filter (has_chunk chunks) shards)
