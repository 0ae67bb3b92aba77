-- The room of chunks in a shard (this project's).
use Rattle.std.specs.Prelude.{ℕ, ◌+◌, List, length, sum_by}
use Rattle.vol_spec.specs.Shards.{Chunk}

-- what chunks take in a shard: their lengths, and a row of 24 bytes for each
abbrev pub room : List Chunk → ℕ
room cs = sum_by (λ (c : Chunk). length c.bytes + 24) cs
