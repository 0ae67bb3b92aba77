-- What is being written once an update ends, however it ends.
use Rattle.std.proofs.Common.{◌≡◌, ◌⊎◌, ℕ, List, Option, Some, None, IfSome, Ok, sym, subst, inl, inr}
use Rattle.std.specs.Prelude.{IsOkAnd}
use Rattle.vol_base.specs.Outside.{Draft, Objects}
use Rattle.vol_spec.specs.Types.{Bytes, Name, Writes}
use Rattle.vol_spec.specs.declared.scale.Scale.{Scale}
use Rattle.shard_writer.specs.Writing.{BeginsNext, Drops}
use Rattle.shard_writer.specs.Works.{DropsOrBegins}
use Rattle.updater.specs.Updates as updater
use Rattle.updater.specs.Updates.{work_of}
use Rattle.write_plan.specs.Stream.{writes_of}
use Rattle.command_base.specs.Scales.{stored_scale}
use Rattle.update_cmd.proofs.UpdatingSteps.{IsOf, updater_objects}
use Rattle.update_cmd.specs.Answering.{BeginsUpdate, DropsOrPuts, ReadsWritable}
use Rattle.update_cmd.specs.Putting.{DropsOrUpdates, HasUpdateJobs}

-- the jobs of an updater are the objects of its writes
pub updated_begun : (o now : Option Objects) (u : updater.Updates) (dataset : List ℕ) (s : Scale) (before after : Option Draft) → IsOf u dataset s → IfSome o (λ m. HasUpdateJobs m u dataset s)
    → DropsOrBegins dataset (work_of u) o now before after → DropsOrUpdates o now dataset s u.writes before after
updated_begun None now u dataset s before after is jobs begun = inr tt
updated_begun (Some m) now u dataset s before after is jobs (inl drops) = inl drops
updated_begun (Some m) now u dataset s before after is jobs (inr begins) = inr (subst (λ list. BeginsNext list m now after) (updater_objects m u dataset s is jobs) begins)

-- of other writes that are the same
pub begun_as : (o now : Option Objects) (dataset : Name) (s : Scale) (own writes : Writes) (before after : Option Draft) → own ≡ writes → DropsOrUpdates o now dataset s own before after → DropsOrUpdates o now dataset s writes before after
begun_as o now dataset s own writes before after same begun = subst (λ ws. DropsOrUpdates o now dataset s ws before after) same begun

-- the store was only read before
pub begun_read : (P : Objects → Type 0) (o same : Option Objects) (before read after : Option Draft) → same ≡ o → read ≡ before → Drops read after ⊎ IfSome same P → Drops before after ⊎ IfSome o P
begun_read P o same before read after objects kept begun = subst (λ d. Drops d after ⊎ IfSome o P) kept (subst (λ x. Drops read after ⊎ IfSome x P) objects begun)

-- the writes are those of the stream,
pub begun_fed : (o now : Option Objects) (fed : Option Bytes) (dataset : Name) (s : Scale) (writes : Writes) (before after : Option Draft) → IfSome fed (λ bytes. writes_of bytes s ≡ Ok writes)
    → DropsOrUpdates o now dataset s writes before after → Drops before after ⊎ IfSome o (λ m. IfSome fed (λ bytes. BeginsUpdate m now (writes_of bytes s) dataset s after))
begun_fed None now fed dataset s writes before after is begun = inr tt
begun_fed (Some m) now None dataset s writes before after is begun = inr tt
begun_fed (Some m) now (Some bytes) dataset s writes before after is (inl drops) = inl drops
begun_fed (Some m) now (Some bytes) dataset s writes before after is (inr begins) = inr (subst (λ list. BeginsUpdate m now list dataset s after) (sym is) begins)

-- and the scale is that of the key
pub begun_stored : (o same now : Option Objects) (fed : Option Bytes) (dataset key : Name) (s : Scale) (before read after : Option Draft) → same ≡ o → read ≡ before
    → IfSome o (λ m. ReadsWritable (Ok s) (stored_scale m dataset key)) → Drops read after ⊎ IfSome same (λ m. IfSome fed (λ bytes. BeginsUpdate m now (writes_of bytes s) dataset s after))
    → DropsOrPuts o now fed dataset key before after
begun_stored None same now fed dataset key s before read after objects kept reads begun = inr tt
begun_stored (Some m) same now fed dataset key s before read after objects kept reads begun =
    subst (λ told. Drops before after ⊎ IfSome fed (λ bytes. IsOkAnd told (λ s. BeginsUpdate m now (writes_of bytes s) dataset s after))) (sym reads.0)
    (begun_read (λ m. IfSome fed (λ bytes. BeginsUpdate m now (writes_of bytes s) dataset s after)) (Some m) same before read after objects kept begun)
