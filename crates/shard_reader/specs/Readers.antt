-- What a reader of shards keeps between two look-ups, as its calls say it (this project's).
use Rattle.std.specs.Prelude.{◌≡◌, ℕ, ◌+◌, ◌-◌, ◌*◌, ◌<◌, ◌≤◌, ◌==◌, ◌&&◌, Option, None, Some, if◌then◌else◌}
use Rattle.std.specs.FinMap as map
use Rattle.minishard.specs.Walks.{Progress}
use Rattle.vol_base.specs.Outside.{Objects, part}
use Rattle.vol_spec.specs.Places.{minishard_of, shard_of}
use Rattle.vol_spec.specs.Rows.{columns_of}
use Rattle.vol_spec.specs.ShardNames.{shard_name}
use Rattle.vol_spec.specs.Types.{Bytes, Name}
use Rattle.vol_spec.specs.declared.scale.Scale.{Scale}
use Rattle.vol_spec.specs.declared.sharding.Sharding.{Sharding}
use Rattle.vol_spec.specs.declared.stored_scale.StoredScale.{StoredScale}
use Rattle.shard_reader.specs.Keeping.{IsOf, KeepsIndex}
use Rattle.shard_reader.specs.Reading.{EndsAt, resumed}
use Rattle.shard_reader.specs.declared.kept.KeptIndex.{KeptIndex}
use Rattle.shard_reader.specs.declared.reader.ShardReader.{ShardReader}

-- what a reader keeps is what the objects of a scale say, where they are told
abbrev pub Keeps : Option Objects → Name → Scale → Sharding → ShardReader → Type 0
Keeps objects dataset s sharding reader = KeepsIndex objects
    (shard_name dataset s) sharding reader.kept reader.window.before reader.window.count
    reader.window.columns.bytes

-- the object of the shard that an id belongs into
abbrev pub object_of : Objects → StoredScale → Sharding → ℕ → Option Bytes
object_of m stored sharding id = map.get m (shard_name stored.dataset stored.scale (shard_of sharding id))

-- it keeps nothing: whatever the objects are
abbrev pub KeepsNothing : ShardReader → Type 0
KeepsNothing reader = (objects : Option Objects) (dataset : Name) (s : Scale) (sharding : Sharding) →
    Keeps objects dataset s sharding reader

-- the index that it keeps is that of an id
abbrev pub KeepsOf : ShardReader → Sharding → ℕ → Type 0
KeepsOf reader sharding id = IsOf reader.kept (shard_of sharding id) (minishard_of sharding id)

-- how many rows of the index of an id stand where a look-up has to read them, where the index is the one that is kept
abbrev pub left_by : Option KeptIndex → Progress → ℕ → ℕ → ℕ → ℕ → Option ℕ
left_by None w count shard m id = None
left_by (Some kept) w count shard m id =
    if (kept.shard == shard) && (kept.minishard == m)
    then Some (kept.opened.index.rows - resumed w count kept.opened.index.rows id) else None

abbrev pub rows_left : ShardReader → Sharding → ℕ → Option ℕ
rows_left reader sharding id = left_by reader.kept reader.window.before reader.window.count
    (shard_of sharding id) (minishard_of sharding id) id

-- how many rows of the index of an id a reader is past, where a look-up of the id goes on behind them
abbrev pub past_by : Option KeptIndex → Progress → ℕ → ℕ → ℕ → ℕ → ℕ
past_by None w count shard m id = 0
past_by (Some kept) w count shard m id =
    if (kept.shard == shard) && (kept.minishard == m) then resumed w count kept.opened.index.rows id else 0

abbrev pub rows_past : ShardReader → Sharding → ℕ → ℕ
rows_past reader sharding id = past_by reader.kept reader.window.before reader.window.count
    (shard_of sharding id) (minishard_of sharding id) id

-- an id stands behind another one in one index
pub record IsBehind (sharding : Sharding) (id next : ℕ) : Type 0 where
  pub same_shard : shard_of sharding next ≡ shard_of sharding id
  pub same_minishard : minishard_of sharding next ≡ minishard_of sharding id
  pub above : id < next

-- a look-up of an id asked for the rows up to those that the reader is past now, but for those that it was past, and for so many
-- bytes more: and so no look-up of an id behind it has to ask for these rows
abbrev pub AsksOnce : Sharding → ℕ → ShardReader → ShardReader → ℕ → ℕ → ℕ → Type 0
AsksOnce sharding id old new before after more = (next : ℕ) → IsBehind sharding id next →
    after + 24 * rows_past old sharding id ≤ before + more + 24 * rows_past new sharding next

-- a look-up of an id ends at a row that is kept
pub record EndsInside (kept : KeptIndex) (w : Progress) (count shard m id : ℕ) (object : Bytes) : Type 0 where
  pub row : ℕ
  pub same_shard : kept.shard ≡ shard
  pub same_minishard : kept.minishard ≡ m
  pub from : w.rows ≤ row
  pub to : row < w.rows + count
  pub ends : EndsAt (columns_of (part object kept.opened.index.at (24 * kept.opened.index.rows))) id row

abbrev pub EndsBy : Option KeptIndex → Progress → ℕ → ℕ → ℕ → ℕ → Option Bytes → Type 0
EndsBy None w count shard m id object = ⊥
EndsBy (Some kept) w count shard m id None = ⊥
EndsBy (Some kept) w count shard m id (Some object) = EndsInside kept w count shard m id object

-- the same of what a reader keeps, by the object of the id's shard
abbrev pub EndsKept : ShardReader → Sharding → ℕ → Option Bytes → Type 0
EndsKept reader sharding id object = EndsBy reader.kept reader.window.before reader.window.count
    (shard_of sharding id) (minishard_of sharding id) id object
