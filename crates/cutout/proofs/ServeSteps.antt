-- A reader that serves an origin.
use Rattle.std.proofs.Common.{◌≡◌, Option, sym, subst}
use Rattle.vol_base.specs.Outside.{Objects}
use Rattle.vol_spec.specs.Types.{Name}
use Rattle.vol_spec.specs.declared.scale.Scale.{Scale}
use Rattle.vol_spec.specs.declared.sharding.Sharding.{Sharding}
use Rattle.shard_reader.specs.Readers.{Keeps}
use Rattle.cutout.proofs.StoredSteps.{keeps_none}
use Rattle.cutout.specs.Serving.{HasRoom, Serves}
use Rattle.cutout.specs.declared.cells.CellReader.{CellReader}
use Rattle.vol_spec.specs.declared.stored_scale.StoredScale.{StoredScale}

-- it does where the objects stay the same
pub serves_still : (o same : Option Objects) (origin : StoredScale) (reader : CellReader) → same ≡ o → Serves o origin reader → Serves same origin reader
serves_still o same origin reader e h = subst (λ x. Serves x origin reader) (sym e) h

-- and where it keeps nothing
pub serves_none : (o : Option Objects) (origin : StoredScale) (reader : CellReader) → HasRoom origin.scale reader
    → ((objects : Option Objects) (name : Name) (t : Scale) (sharding : Sharding) → Keeps objects name t sharding reader.shards) → Serves o origin reader
serves_none o origin reader room all = record { room = room; keeps = keeps_none o origin.dataset origin.scale reader.shards all }
