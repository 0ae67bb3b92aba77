-- An opened reader with what it keeps of an index from call to call (this project's).
use Rattle.vol_base.specs.Outside.{Objects}
use Rattle.std.specs.Prelude.{Option}
use Rattle.cutout.specs.Keeping.{KeepsShards}
use Rattle.cutout.specs.Opened.{Opened}
use Rattle.shard_reader.specs.declared.reader.ShardReader.{ShardReader}

-- a reader, and what it keeps
pub record Keeping : Type 0 where
  pub opened : Opened
  pub shards : ShardReader

-- what it keeps is what the objects say, where they are told
abbrev pub KeepsIndex : Option Objects → Keeping → Type 0
KeepsIndex objects reader = KeepsShards objects reader.opened.dataset reader.opened.scale reader.shards
