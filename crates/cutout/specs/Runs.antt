-- What reading cells one after the other asks for, by a reader that keeps the index that it opened last (this project's).
use Rattle.std.specs.Prelude.{◌≡◌, ℕ, ◌+◌, ◌*◌, ◌≤◌, ◌==◌, ◌&&◌, nat_lt, Bool, true, false, if◌then◌else◌, List, [], ◌∷◌, ◌++◌, Option, Some, None}
use Rattle.std.specs.FinMap as fin
use Rattle.vol_base.specs.Outside.{Objects}
use Rattle.vol_spec.specs.Costs.{rows_cost, span_cost}
use Rattle.vol_spec.specs.Encodings.{cell_limit}
use Rattle.vol_spec.specs.FoundChunks.{rows_in}
use Rattle.vol_spec.specs.Places.{id_of, minishard_of, shard_of}
use Rattle.vol_spec.specs.StoredBytes.{object_of}
use Rattle.vol_spec.specs.Types.{Bytes, Cell, Name}
use Rattle.vol_spec.specs.declared.scale.Scale.{Scale}
use Rattle.vol_spec.specs.declared.sharding.Sharding.{Sharding}
use Rattle.shard_reader.specs.Readers.{rows_past}
use Rattle.shard_reader.specs.Reading.{found_of}
use Rattle.shard_reader.specs.declared.reader.ShardReader.{ShardReader}
use Rattle.cutout.specs.Opened.{chunk_room}

-- what is asked for of each cell: an entry and a chunk, or an object of its own
abbrev pub own_by : Option Sharding → Scale → Cell → Option Bytes → ℕ
own_by None s cell object = chunk_room s
own_by (Some sharding) s cell object = 16 + span_cost (found_of object sharding (cell_limit s cell) (id_of s cell))

abbrev pub own_cost : Objects → Name → Scale → Cell → ℕ
own_cost m dataset s cell = own_by s.sharding s cell (fin.get m (object_of dataset s cell))

-- the rows of its index
abbrev pub rows_on : Sharding → ℕ → Option Bytes → ℕ
rows_on sharding id None = 0
rows_on sharding id (Some object) = rows_cost (rows_in object sharding (minishard_of sharding id))

abbrev pub index_by : Option Sharding → Scale → Cell → Option Bytes → ℕ
index_by None s cell object = 0
index_by (Some sharding) s cell object = rows_on sharding (id_of s cell) object

abbrev pub index_cost : Objects → Name → Scale → Cell → ℕ
index_cost m dataset s cell = index_by s.sharding s cell (fin.get m (object_of dataset s cell))

-- a cell stands behind another one in one index
abbrev pub is_behind : Sharding → ℕ → ℕ → Bool
is_behind sharding id next = (shard_of sharding next == shard_of sharding id)
    && ((minishard_of sharding next == minishard_of sharding id) && nat_lt id next)

abbrev pub follows_by : Option Sharding → Scale → Cell → Cell → Bool
follows_by None s cell next = false
follows_by (Some sharding) s cell next = is_behind sharding (id_of s cell) (id_of s next)

abbrev pub follows : Scale → Option Cell → Cell → Bool
follows s None next = false
follows s (Some cell) next = follows_by s.sharding s cell next

-- the last of some cells, where there is one; else a cell before them
abbrev pub last_from : Option Cell → List Cell → Option Cell
last_from last [] = last
last_from last (cell ∷ rest) = last_from (Some cell) rest

-- how many bytes reading cells one after the other asks for at most: of each its entry and its chunk, and the rows of its index
-- unless it stands behind the cell before it in the same one
abbrev pub run_from : Objects → Name → Scale → Option Cell → List Cell → ℕ
run_from m dataset s last [] = 0
run_from m dataset s last (cell ∷ rest) = own_cost m dataset s cell
    + (if follows s last cell then 0 else index_cost m dataset s cell)
    + run_from m dataset s (Some cell) rest

abbrev pub run_cost : Objects → Name → Scale → List Cell → ℕ
run_cost m dataset s cells = run_from m dataset s None cells

-- how many rows of the index of a cell a reader is past
abbrev pub past_of : Option Sharding → Scale → ShardReader → Cell → ℕ
past_of None s shards cell = 0
past_of (Some sharding) s shards cell = rows_past shards sharding (id_of s cell)

abbrev pub past : Scale → ShardReader → Cell → ℕ
past s shards cell = past_of s.sharding s shards cell

-- a reader has read some cells one after the other: it asked for no more than they cost, less what it needn't ask for of the index that it is in
pub record HasRun (m : Objects) (dataset : Name) (s : Scale) (done : List Cell) (begin asked : ℕ)
    (shards : ShardReader) : Type 0 where
  pub total : asked ≤ begin + run_cost m dataset s done
  pub onward : (next : Cell) → follows s (last_from None done) next ≡ true →
      asked + index_cost m dataset s next ≤ begin + run_cost m dataset s done + 24 * past s shards next

-- it reads some more, whatever it has read before, up to the end or not
abbrev pub RunsOn : Bool → Objects → Name → Scale → List Cell → ℕ → ℕ → ShardReader → ShardReader → Type 0
RunsOn whole m dataset s cells before after old new = (done : List Cell) (begin : ℕ) →
    HasRun m dataset s done begin before old →
    (after ≤ begin + run_cost m dataset s (done ++ cells)) ×
    (whole ≡ true → HasRun m dataset s (done ++ cells) begin after new)
