-- What a reader keeps of an index while it goes over cells, and what reading a cell costs (this project's).
use Rattle.std.specs.Prelude.{ℕ, ◌+◌, Option, Some, None, take, Result, Ok}
use Rattle.std.specs.FinMap as fin
use Rattle.vol_base.specs.Outside.{Objects}
use Rattle.vol_base.specs.declared.faults.Fault.{Fault}
use Rattle.vol_spec.specs.Costs.{cost_by, rows_cost}
use Rattle.vol_spec.specs.FoundChunks.{rows_in}
use Rattle.vol_spec.specs.Places.{id_of, minishard_of}
use Rattle.vol_spec.specs.StoredBytes.{object_of}
use Rattle.vol_spec.specs.Types.{Bytes, Cell, Name}
use Rattle.vol_spec.specs.declared.scale.Scale.{Scale}
use Rattle.vol_spec.specs.declared.sharding.Sharding.{Sharding}
use Rattle.shard_reader.specs.Readers.{Keeps}
use Rattle.shard_reader.specs.declared.reader.ShardReader.{ShardReader}

-- what is kept is what the shards' objects say
abbrev pub KeepsBy : Option Sharding → Option Objects → Name → Scale → ShardReader → Type 0
KeepsBy None objects dataset s shards = Unit {0}
KeepsBy (Some sharding) objects dataset s shards = Keeps objects dataset s sharding shards

abbrev pub KeepsShards : Option Objects → Name → Scale → ShardReader → Type 0
KeepsShards objects dataset s shards = KeepsBy s.sharding objects dataset s shards

-- the front of an object, where it is there
abbrev pub front_of : ℕ → Option Bytes → Result (Option Bytes) Fault
front_of n None = Ok None
front_of n (Some object) = Ok (Some (take n object))

-- how many bytes a reader asks for at most, of a cell
abbrev pub cell_cost : Objects → Name → Scale → Cell → ℕ
cell_cost m dataset s cell = cost_by s.sharding s cell (fin.get m (object_of dataset s cell))

-- and of a cell whose chunk it doesn't read: an entry and the rows of its index
abbrev pub rows_of : Sharding → Scale → Cell → Option Bytes → ℕ
rows_of sharding s cell None = 16
rows_of sharding s cell (Some object) = 16 + rows_cost
    (rows_in object sharding (minishard_of sharding (id_of s cell)))

abbrev pub search_by : Option Sharding → Scale → Cell → Option Bytes → ℕ
search_by None s cell object = 0
search_by (Some sharding) s cell object = rows_of sharding s cell object

abbrev pub search_cost : Objects → Name → Scale → Cell → ℕ
search_cost m dataset s cell = search_by s.sharding s cell (fin.get m (object_of dataset s cell))
