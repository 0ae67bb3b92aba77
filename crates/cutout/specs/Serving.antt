-- A reader of the cells of a scale, and what it leaves (this project's).
use Rattle.std.specs.Prelude.{◌≡◌, is_ok, IfSome, length, List, Option, Result}
use Rattle.vol_base.specs.Outside.{Objects}
use Rattle.vol_base.specs.declared.outside.Source.{Ghosts}
use Rattle.vol_spec.specs.Types.{Cell}
use Rattle.vol_spec.specs.declared.scale.Scale.{Scale}
use Rattle.shard_reader.specs.Readers.{KeepsNothing}
use Rattle.shard_reader.specs.declared.reader.ShardReader.{ShardReader}
use Rattle.vol_base.specs.Calls.{ReadsFrom}
use Rattle.cutout.specs.Keeping.{KeepsShards}
use Rattle.cutout.specs.Opened.{chunk_room, values_room}
use Rattle.cutout.specs.Runs.{RunsOn}
use Rattle.cutout.specs.declared.cells.CellReader.{CellReader}
use Rattle.vol_spec.specs.declared.stored_scale.StoredScale.{StoredScale}

-- a reader has room for a chunk of a scale and a byte more, and for the values of a chunk that is decoded
pub record HasRoom (s : Scale) (reader : CellReader) : Type 0 where
  pub chunk : length reader.chunk.bytes ≡ chunk_room s
  pub values : length reader.values.bytes ≡ values_room s

-- it has the room, and keeps nothing
pub record IsFresh (s : Scale) (reader : CellReader) : Type 0 where
  pub room : HasRoom s reader
  pub keeps : KeepsNothing reader.shards

-- it has the room for the scale that is read, and what it keeps is what the objects say
pub record Serves (objects : Option Objects) (origin : StoredScale) (reader : CellReader) : Type 0 where
  pub room : HasRoom origin.scale reader
  pub keeps : KeepsShards objects origin.dataset origin.scale reader.shards

-- it read some cells one after the other, up to the end or to a fault, and asked for no more than they cost
pub record Walks {T A E : Type 0} (source : Ghosts T) (origin : StoredScale) (cells : List Cell) (fault : E)
    (before after : T) (old new : ShardReader) (result : Result A E) : Type 0 where
  pub run : IfSome (source.objects before) (λ m. RunsOn (is_ok result) m origin.dataset origin.scale cells
      (source.asked before) (source.asked after) old new)
  pub reads : ReadsFrom source fault before after result
