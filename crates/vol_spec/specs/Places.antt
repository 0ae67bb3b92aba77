-- Chunk ids and their places (precomputed volume format, sharded format, chunk ids and sharding specification).
use Rattle.std.specs.Prelude.{ℕ, ◌/◌, ◌%◌, ◌^◌}
use Rattle.vol_spec.specs.Codes.{code_of}
use Rattle.vol_spec.specs.Hashes.{hash8}
use Rattle.vol_spec.specs.Limits.{cell_counts}
use Rattle.vol_spec.specs.Types.{Cell}
use Rattle.vol_spec.specs.declared.scale.Scale.{Scale}
use Rattle.vol_spec.specs.declared.sharding.Sharding.{Sharding}
use Rattle.vol_spec.specs.declared.sharding.HashKind.{HashKind}
use Rattle.vol_spec.specs.declared.sharding.HashKind.TheVariants.{Identity, Murmur}

-- the id of a cell: its code in the scale's grid
abbrev pub id_of : Scale → Cell → ℕ
id_of s cell = code_of (cell_counts s.size s.chunk) cell

abbrev pub hash_of : HashKind → ℕ → ℕ
hash_of Identity n = n
hash_of Murmur n = hash8 n

-- the hash of the id without its low bits, none of which are left where all 64 go
abbrev pub hashed : Sharding → ℕ → ℕ
hashed sharding id = hash_of sharding.hash (id / 2 ^ sharding.preshift)

-- the low bits of the hash
abbrev pub minishard_of : Sharding → ℕ → ℕ
minishard_of sharding id = hashed sharding id % 2 ^ sharding.minishard_bits

-- the bits above them
abbrev pub shard_of : Sharding → ℕ → ℕ
shard_of sharding id = hashed sharding id / 2 ^ sharding.minishard_bits % 2 ^ sharding.shard_bits
