-- Known shards: their bytes, and what is found in sound and in damaged ones.
use Rattle.std.proofs.Common.{◌≡◌, ℕ, ◌-◌, ◌^◌, List, [], ◌∷◌, ◌++◌, take, Ok, Err, Some, None, refl, lit≤}
use Rattle.vol_base.specs.declared.faults.Fault.TheVariants.{Index, Shard}
use Rattle.vol_base.specs.declared.faults.IndexFault.TheVariants.{BadId, BadStart}
use Rattle.vol_base.specs.declared.faults.ShardFault.TheVariants.{ShortIndex, BadRange, BadLength, TooManyRows, ShortMinishard, ChunkTooLong, ShortChunk}
use Rattle.vol_spec.specs.Entries.{entry_bytes, entry_of}
use Rattle.vol_spec.specs.FoundChunks.{found}
use Rattle.vol_spec.specs.IndexBytes.{eight, numbers}
use Rattle.vol_spec.specs.Rows.{number_at}
use Rattle.vol_spec.specs.Shards.{shard_bytes}
use Rattle.vol_spec.specs.declared.sharding.HashKind.TheVariants.{Identity}
use Rattle.vol_spec.specs.declared.sharding.Sharding.{Sharding}

-- a chunk of a byte in each of two minishards
abbrev two : List ℕ
two = numbers (1 ∷ 25 ∷ 26 ∷ 50 ∷ []) ++ 10 ∷ numbers (0 ∷ 0 ∷ 1 ∷ []) ++ 11 ∷ numbers (1 ∷ 25 ∷ 1 ∷ [])

two_written : shard_bytes 1 (record { minishard = 0; id = 0; bytes = 10 ∷ [] } ∷ record { minishard = 1; id = 1; bytes = 11 ∷ [] } ∷ []) ≡ two
unfolding shard_bytes entry_bytes eight
two_written = refl

-- both in one minishard
abbrev one : List ℕ
one = numbers (2 ∷ 50 ∷ []) ++ 10 ∷ 11 ∷ numbers (0 ∷ 1 ∷ 0 ∷ 0 ∷ 1 ∷ 1 ∷ [])

one_written : shard_bytes 0 (record { minishard = 0; id = 0; bytes = 10 ∷ [] } ∷ record { minishard = 0; id = 1; bytes = 11 ∷ [] } ∷ []) ≡ one
unfolding shard_bytes entry_bytes eight
one_written = refl

-- an empty minishard before one with a chunk
second_written : shard_bytes 1 (record { minishard = 1; id = 1; bytes = 11 ∷ [] } ∷ []) ≡ numbers (0 ∷ 0 ∷ 1 ∷ 25 ∷ []) ++ 11 ∷ numbers (1 ∷ 0 ∷ 1 ∷ [])
unfolding shard_bytes entry_bytes eight
second_written = refl

-- no hash, and one shard
abbrev plain : Sharding
plain = record { preshift = 0; hash = Identity; minishard_bits = 0; shard_bits = 0; preshift_ok = lit≤ tt; minishard_ok = lit≤ tt; bits_ok = lit≤ tt }

abbrev halved : Sharding
halved = record { preshift = 0; hash = Identity; minishard_bits = 1; shard_bits = 0; preshift_ok = lit≤ tt; minishard_ok = lit≤ tt; bits_ok = lit≤ tt }

abbrev all_shifted : Sharding
all_shifted = record { preshift = 64; hash = Identity; minishard_bits = 0; shard_bits = 0; preshift_ok = lit≤ tt; minishard_ok = lit≤ tt; bits_ok = lit≤ tt }

-- the first entry and the numbers of the two rows as they are given
two_with : ℕ → ℕ → List ℕ
two_with start end = numbers (start ∷ end ∷ 26 ∷ 50 ∷ []) ++ 10 ∷ numbers (0 ∷ 0 ∷ 1 ∷ []) ++ 11 ∷ numbers (1 ∷ 25 ∷ 1 ∷ [])

one_with : ℕ → ℕ → ℕ → ℕ → ℕ → List ℕ
one_with end id next start size = numbers (2 ∷ end ∷ []) ++ 10 ∷ 11 ∷ numbers (id ∷ next ∷ start ∷ 0 ∷ size ∷ 1 ∷ [])

two_0 : found two halved 1 0 ≡ Ok (Some (record { start = 32; len = 1 }))
unfolding found entry_of number_at eight
two_0 = refl

two_1 : found two halved 1 1 ≡ Ok (Some (record { start = 57; len = 1 }))
unfolding found entry_of number_at eight
two_1 = refl

one_1 : found one plain 1 1 ≡ Ok (Some (record { start = 17; len = 1 }))
unfolding found entry_of number_at eight
one_1 = refl

absent_2 : found one plain 1 2 ≡ Ok None
unfolding found entry_of number_at eight
absent_2 = refl

shifted_1 : found one all_shifted 1 1 ≡ Ok (Some (record { start = 17; len = 1 }))
unfolding found entry_of number_at eight
shifted_1 = refl

short_index : found (take 8 two) halved 1 0 ≡ Err (Shard ShortIndex)
unfolding found entry_of number_at eight
short_index = refl

empty_minishard : found (two_with 0 0) halved 1 0 ≡ Ok None
unfolding found entry_of number_at eight two_with
empty_minishard = refl

bad_range : found (two_with 25 1) halved 1 0 ≡ Err (Shard BadRange)
unfolding found entry_of number_at eight two_with
bad_range = refl

bad_length : found (two_with 2 25) halved 1 0 ≡ Err (Shard (BadLength 23))
unfolding found entry_of number_at eight two_with
bad_length = refl

many_rows : found (one_with 100663322 0 1 0 1) plain 1 0 ≡ Err (Shard (TooManyRows 4194305))
unfolding found entry_of number_at eight one_with
many_rows = refl

short_minishard : found (take 33 two) halved 1 0 ≡ Err (Shard ShortMinishard)
unfolding found entry_of number_at eight
short_minishard = refl

far_entry : found (two_with (2 ^ 64 - 25) (2 ^ 64 - 1)) halved 1 0 ≡ Err (Shard ShortMinishard)
unfolding found entry_of number_at eight two_with
far_entry = refl

same_id_0 : found (one_with 50 0 0 0 1) plain 1 0 ≡ Ok (Some (record { start = 16; len = 1 }))
unfolding found entry_of number_at eight one_with
same_id_0 = refl

same_id_1 : found (one_with 50 0 0 0 1) plain 1 1 ≡ Err (Index (BadId 1))
unfolding found entry_of number_at eight one_with
same_id_1 = refl

last_id_0 : found (one_with 50 (2 ^ 64 - 1) 1 0 1) plain 1 0 ≡ Ok None
unfolding found entry_of number_at eight one_with
last_id_0 = refl

last_id_1 : found (one_with 50 (2 ^ 64 - 1) 1 0 1) plain 1 1 ≡ Ok None
unfolding found entry_of number_at eight one_with
last_id_1 = refl

far_start : found (one_with 50 0 1 1000 1) plain 1 0 ≡ Err (Shard ShortChunk)
unfolding found entry_of number_at eight one_with
far_start = refl

long_chunk : found (one_with 50 0 1 0 2) plain 1 0 ≡ Err (Shard (ChunkTooLong 2 1))
unfolding found entry_of number_at eight one_with
long_chunk = refl

last_size_0 : found (one_with 50 0 1 0 (2 ^ 64 - 1)) plain 1 0 ≡ Err (Shard (ChunkTooLong (2 ^ 64 - 1) 1))
unfolding found entry_of number_at eight one_with
last_size_0 = refl

last_size_1 : found (one_with 50 0 1 0 (2 ^ 64 - 1)) plain 1 1 ≡ Err (Index (BadStart 1))
unfolding found entry_of number_at eight one_with
last_size_1 = refl
