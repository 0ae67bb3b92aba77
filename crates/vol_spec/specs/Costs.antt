-- How many bytes a reader asks for at most (this project's limit).
use Rattle.std.specs.Prelude.{ℕ, ◌+◌, ◌*◌, map, sum, Option, Some, None, Result, Ok, Err}
use Rattle.std.specs.FinMap as fin
use Rattle.vol_base.specs.Outside.{Objects}
use Rattle.vol_base.specs.declared.boxes.Box3.{Box3}
use Rattle.vol_base.specs.declared.faults.Fault.{Fault}
use Rattle.vol_base.specs.declared.faults.ShardFault.{ShardFault}
use Rattle.vol_spec.specs.Encodings.{cell_limit}
use Rattle.vol_spec.specs.FoundChunks.{found, rows_in}
use Rattle.vol_spec.specs.Grid.{cells_in}
use Rattle.vol_spec.specs.Limits.{limit_of}
use Rattle.vol_spec.specs.Places.{id_of, minishard_of}
use Rattle.vol_spec.specs.StoredBytes.{object_of}
use Rattle.vol_spec.specs.Types.{Bytes, Cell, Name}
use Rattle.vol_spec.specs.declared.scale.Scale.{Scale}
use Rattle.vol_spec.specs.declared.sharding.Sharding.{Sharding}
use Rattle.vol_spec.specs.declared.span.ChunkSpan.{ChunkSpan}

-- an index, where the way leads to one
abbrev pub rows_cost : Result ℕ ShardFault → ℕ
rows_cost (Ok rows) = 24 * rows
rows_cost (Err fault) = 0

-- a chunk, where it is found
abbrev pub span_cost : Result (Option ChunkSpan) Fault → ℕ
span_cost (Ok None) = 0
span_cost (Ok (Some span)) = span.len
span_cost (Err fault) = 0

-- a shard: the entry, the index and the chunk
abbrev pub shard_cost : Sharding → Scale → Cell → Option Bytes → ℕ
shard_cost sharding s cell None = 16
shard_cost sharding s cell (Some object) =
    16 + rows_cost (rows_in object sharding (minishard_of sharding (id_of s cell)))
    + span_cost (found object sharding (cell_limit s cell) (id_of s cell))

-- an object of its own: one byte more than the longest chunk of the scale
abbrev pub cost_by : Option Sharding → Scale → Cell → Option Bytes → ℕ
cost_by None s cell object = limit_of s.encoding s.width s.channels s.size s.chunk + 1
cost_by (Some sharding) s cell object = shard_cost sharding s cell object

-- the cells that meet a box
unfoldable pub cost : Objects → Name → Scale → Box3 → ℕ
cost objects dataset s b = sum (map (λ cell. cost_by s.sharding s cell
    (fin.get objects (object_of dataset s cell))) (cells_in s b))
