-- Where objects have the chunk of a cell, apart from what its bytes say (precomputed volume format, chunk
-- storage and sharded format).
use Rattle.std.specs.Prelude.{◌+◌, take, Option, Some, None, Result, Ok, Err}
use Rattle.std.specs.FinMap as fin
use Rattle.vol_base.specs.Outside.{Objects, part}
use Rattle.vol_base.specs.declared.faults.Fault.{Fault}
use Rattle.vol_spec.specs.CellNames.{cell_name}
use Rattle.vol_spec.specs.Encodings.{cell_limit}
use Rattle.vol_spec.specs.FoundChunks.{found}
use Rattle.vol_spec.specs.Places.{id_of, shard_of}
use Rattle.vol_spec.specs.ShardNames.{shard_name}
use Rattle.vol_spec.specs.Types.{Bytes, Cell, Name}
use Rattle.vol_spec.specs.declared.scale.Scale.{Scale}
use Rattle.vol_spec.specs.declared.sharding.Sharding.{Sharding}
use Rattle.vol_spec.specs.declared.span.ChunkSpan.{ChunkSpan}

-- the object of a cell: its own, or its shard's
abbrev pub object_by : Option Sharding → Name → Scale → Cell → Name
object_by None dataset s cell = cell_name dataset s cell
object_by (Some sharding) dataset s cell = shard_name dataset s (shard_of sharding (id_of s cell))

abbrev pub object_of : Name → Scale → Cell → Name
object_of dataset s cell = object_by s.sharding dataset s cell

-- the bytes of a span of an object
abbrev pub spanned : Bytes → Result (Option ChunkSpan) Fault → Result (Option Bytes) Fault
spanned object (Ok None) = Ok None
spanned object (Ok (Some span)) = Ok (Some (part object span.start span.len))
spanned object (Err fault) = Err fault

-- what an object of its own has of a cell is its front, one byte more than a chunk has at most; a shard has the chunk where it is found
abbrev pub held_by : Option Sharding → Scale → Cell → Bytes → Result (Option Bytes) Fault
held_by None s cell object = Ok (Some (take (cell_limit s cell + 1) object))
held_by (Some sharding) s cell object = spanned object
    (found object sharding (cell_limit s cell) (id_of s cell))

abbrev pub held : Scale → Cell → Option Bytes → Result (Option Bytes) Fault
held s cell None = Ok None
held s cell (Some object) = held_by s.sharding s cell object

-- the bytes that stand for a cell's chunk, none where it is absent, or a fault on the way to them
unfoldable pub stored_bytes : Objects → Name → Scale → Cell → Result (Option Bytes) Fault
stored_bytes objects dataset s cell = held s cell (fin.get objects (object_of dataset s cell))
