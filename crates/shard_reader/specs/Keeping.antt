-- What a reader of shards keeps of the index that it opened last (this project's).
use Rattle.std.specs.Prelude.{◌≡◌, ℕ, ◌*◌, Option, None, Some, IfSome}
use Rattle.std.specs.FinMap as map
use Rattle.vol_base.specs.Outside.{Objects, part}
use Rattle.vol_spec.specs.Types.{Bytes, Name}
use Rattle.vol_spec.specs.declared.sharding.Sharding.{Sharding}
use Rattle.minishard.specs.Walks.{Progress}
use Rattle.shard_reader.specs.Reading.{IsOpened, IsWindow}
use Rattle.shard_reader.specs.declared.kept.KeptIndex.{KeptIndex}
use Rattle.shard_reader.specs.declared.opened.OpenedIndex.{OpenedIndex}

-- what is kept is what an object says
pub record Agrees (sharding : Sharding) (kept : KeptIndex) (w : Progress) (count : ℕ)
    (columns object : Bytes) : Type 0 where
  pub opened : IsOpened sharding kept.minishard object kept.opened.len kept.opened.index.at
      kept.opened.index.rows
  pub window : IsWindow w count columns (part object kept.opened.index.at (24 * kept.opened.index.rows))

-- the object is there, and says it
abbrev pub AgreesWith : Option Bytes → Sharding → KeptIndex → Progress → ℕ → Bytes → Type 0
AgreesWith None sharding kept w count columns = ⊥
AgreesWith (Some object) sharding kept w count columns = Agrees sharding kept w count columns object

-- an index that is kept is one of the objects, under the names of the shards, where they are told
abbrev pub KeepsIndex : Option Objects → (ℕ → Name) → Sharding → Option KeptIndex → Progress → ℕ → Bytes →
    Type 0
KeepsIndex objects names sharding None w count columns = Unit {0}
KeepsIndex objects names sharding (Some kept) w count columns =
    IfSome objects (λ m. AgreesWith (map.get m (names kept.shard)) sharding kept w count columns)

-- an index that is kept is that of a minishard of a shard
abbrev pub IsOf : Option KeptIndex → ℕ → ℕ → Type 0
IsOf None shard minishard = ⊥
IsOf (Some kept) shard minishard = (kept.shard ≡ shard) × (kept.minishard ≡ minishard)

-- the index of a minishard of a shard is kept
abbrev pub IsKept : Option KeptIndex → ℕ → ℕ → OpenedIndex → Type 0
IsKept None shard minishard opened = ⊥
IsKept (Some kept) shard minishard opened = (kept.shard ≡ shard) × (kept.minishard ≡ minishard) ×
    (kept.opened ≡ opened)
