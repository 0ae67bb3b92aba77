-- The moments of an update.
use Rattle.std.proofs.Common.{◌≡◌, List, Option, Some, IfSome, Ok, subst}
use Rattle.std.specs.Prelude.{IsOkAnd}
use Rattle.vol_base.proofs.Moments.{passes_weaker}
use Rattle.vol_base.specs.Outside.{Objects}
use Rattle.vol_spec.proofs.Told.{from_told, in_told}
use Rattle.vol_spec.specs.Types.{Bytes, Name, Writes}
use Rattle.vol_spec.specs.declared.scale.Scale.{Scale}
use Rattle.write_plan.specs.Stream.{writes_of}
use Rattle.shard_writer.specs.Works.{PassesFronts, job_objects}
use Rattle.shard_writer.specs.Writing.{PutsFront}
use Rattle.shard_writer.proofs.FrontSteps.{passed_as, passed_behind}
use Rattle.updater.specs.Updates as updater
use Rattle.updater.specs.Updates.{work_of}
use Rattle.command_base.proofs.Choices.{ok_is}
use Rattle.command_base.specs.Scales.{stored_scale}
use Rattle.write_cmd.specs.Storing.{Listing}
use Rattle.update_cmd.proofs.UpdatingSteps.{IsOf, updater_objects}
use Rattle.update_cmd.specs.Answering.{PassesOver, PassesUpdate, ReadsWritable}
use Rattle.update_cmd.specs.Putting.{HasUpdateJobs}
use Rattle.update_cmd.specs.Updating.{update_list}

-- the jobs of an updater are the objects of its writes
pub updated_passed : (o : Option Objects) (u : updater.Updates) (dataset : Name) (s : Scale) (was now : List Objects) → IsOf u dataset s → IfSome o (λ m. HasUpdateJobs m u dataset s)
    → PassesFronts (job_objects dataset (work_of u)) o was now → PassesFronts (λ m. update_list m dataset s u.writes) o was now
updated_passed o u dataset s was now is jobs =
    passed_as (job_objects dataset (work_of u)) (λ m. update_list m dataset s u.writes) o was now
    (in_told o (λ m. job_objects dataset (work_of u) m ≡ update_list m dataset s u.writes) (λ m told. updater_objects m u dataset s is (from_told o (λ m. HasUpdateJobs m u dataset s) m told jobs)))

-- of other writes that are the same
pub over_as : (o : Option Objects) (dataset : Name) (s : Scale) (own writes : Writes) (was now : List Objects) → own ≡ writes → PassesFronts (λ m. update_list m dataset s own) o was now → PassesFronts (λ m. update_list m dataset s writes) o was now
over_as o dataset s own writes was now same passed = subst (λ ws. PassesFronts (λ m. update_list m dataset s ws) o was now) same passed

-- the writes are those of the stream,
pub over_fed : (o : Option Objects) (fed : Option Bytes) (dataset : Name) (s : Scale) (writes : Writes) (was now : List Objects) → IfSome fed (λ bytes. writes_of bytes s ≡ Ok writes)
    → PassesFronts (λ m. update_list m dataset s writes) o was now → IfSome fed (λ bytes. PassesOver (writes_of bytes s) dataset s o was now)
over_fed o fed dataset s writes was now read passed =
    in_told fed (λ bytes. PassesOver (writes_of bytes s) dataset s o was now)
    (λ bytes is.
    passes_weaker (λ x. IfSome o (λ m. PutsFront (update_list m dataset s writes) m (Some x))) (λ x. IfSome o (λ m. IsOkAnd (writes_of bytes s) (λ ws. PutsFront (update_list m dataset s ws) m (Some x))))
    (λ x h.
    in_told o (λ m. IsOkAnd (writes_of bytes s) (λ ws. PutsFront (update_list m dataset s ws) m (Some x)))
    (λ m told.
    ok_is (writes_of bytes s) writes (λ ws. PutsFront (update_list m dataset s ws) m (Some x)) (from_told fed (λ b. writes_of b s ≡ Ok writes) bytes is read)
    (from_told o (λ m. PutsFront (update_list m dataset s writes) m (Some x)) m told h))) was now passed)

-- and the scale is that of the key
pub over_stored : (o same : Option Objects) (fed : Option Bytes) (dataset key : Name) (s : Scale) (was before now : List Objects) → same ≡ o → before ≡ was
    → IfSome o (λ m. ReadsWritable (Ok s) (stored_scale m dataset key)) → IfSome fed (λ bytes. PassesOver (writes_of bytes s) dataset s same before now)
    → IfSome fed (λ bytes. PassesUpdate (writes_of bytes) dataset key o was now)
over_stored o same fed dataset key s was before now objects history reads passed =
    in_told fed (λ bytes. PassesUpdate (writes_of bytes) dataset key o was now)
    (λ bytes is.
    passes_weaker (λ x. IfSome o (λ m. IsOkAnd (writes_of bytes s) (λ ws. PutsFront (update_list m dataset s ws) m (Some x))))
    (λ x. IfSome o (λ m. IsOkAnd (stored_scale m dataset key) (λ s. IsOkAnd (writes_of bytes s) (λ ws. PutsFront (update_list m dataset s ws) m (Some x)))))
    (λ x h.
    in_told o (λ m. IsOkAnd (stored_scale m dataset key) (λ s. IsOkAnd (writes_of bytes s) (λ ws. PutsFront (update_list m dataset s ws) m (Some x))))
    (λ m told.
    ok_is (stored_scale m dataset key) s (λ s. IsOkAnd (writes_of bytes s) (λ ws. PutsFront (update_list m dataset s ws) m (Some x))) (from_told o (λ m. ReadsWritable (Ok s) (stored_scale m dataset key)) m told reads).0
    (from_told o (λ m. IsOkAnd (writes_of bytes s) (λ ws. PutsFront (update_list m dataset s ws) m (Some x))) m told h))) was now
    (subst (λ h. PassesOver (writes_of bytes s) dataset s o h now) history
    (subst (λ x. PassesOver (writes_of bytes s) dataset s x before now) objects (from_told fed (λ bytes. PassesOver (writes_of bytes s) dataset s same before now) bytes is passed))))
