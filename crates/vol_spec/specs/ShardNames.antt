-- Names of shard objects (precomputed volume format, sharded format): DATASET/KEY/NUMBER.shard
use Rattle.std.specs.Prelude.{ℕ, ◌+◌, ◌-◌, ◌/◌, ◌%◌, ◌^◌, false, max, [], ◌∷◌, ◌++◌, map}
use Rattle.std.specs.Fmt.{digit_glyph}
use Rattle.std.specs.List.{range_with_len}
use Rattle.std.specs.Option.{option_map_or}
use Rattle.vol_spec.specs.CellNames.{joined, folder_of}
use Rattle.vol_spec.specs.Types.{Name}
use Rattle.vol_spec.specs.declared.scale.Scale.{Scale}
use Rattle.vol_spec.specs.declared.sharding.Sharding.{Sharding}

-- how many bits name the shard; 0 in a scale without shards
abbrev pub shard_bits_of : Scale → ℕ
shard_bits_of s = option_map_or (λ (sharding : Sharding). sharding.shard_bits) s.sharding 0

-- the lower-case hexadecimal digit of a number at a place, counted from the lowest
abbrev pub hex_at : ℕ → ℕ → ℕ
hex_at n place = digit_glyph false (n / 16 ^ place % 16)

-- so many digits of a number, the highest first
abbrev pub filled_hex : ℕ → ℕ → Name
filled_hex n count = map (λ i. hex_at n (count - 1 - i)) (range_with_len 0 count)

-- a digit for each four bits that name the shard, and at least one
abbrev pub hex_len : ℕ → ℕ
hex_len bits = max 1 ((bits + 3) / 4)

-- `.shard`
abbrev pub suffix : Name
suffix = 46 ∷ 115 ∷ 104 ∷ 97 ∷ 114 ∷ 100 ∷ []

abbrev pub shard_file : ℕ → ℕ → Name
shard_file bits shard = filled_hex shard (hex_len bits) ++ suffix

-- the object of a shard
abbrev pub shard_name : Name → Scale → ℕ → Name
shard_name dataset s shard = joined (folder_of dataset s) (shard_file (shard_bits_of s) shard)
