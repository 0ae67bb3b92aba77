-- What `reshard` answers, by what the copy of a scale answers.
use Rattle.std.proofs.Common.{◌≡◌, ◌∙◌, Option, Some, None, IfSome, Result, Ok, Err, subst, ap, inl, inr, ⊎_elim}
use Rattle.vol_base.specs.Outside.{Objects}
use Rattle.vol_spec.proofs.Told.{in_told}
use Rattle.vol_spec.specs.Copies.{AreOfOneVolume, copy}
use Rattle.vol_spec.specs.Types.{Name}
use Rattle.vol_spec.specs.declared.scale.Scale.{Scale}
use Rattle.chunk_laws.specs.Told.{HasNoFault}
use Rattle.shard_writer.specs.declared.written.Written.{Written}
use Rattle.command_base.specs.Ending.{EndsWell, Refuses}
use Rattle.command_base.specs.Outlets.{Outlets, Tells}
use Rattle.command_base.specs.Scales.{stored_scale}
use Rattle.command_base.specs.Statuses.{Reports}
use Rattle.command_base.specs.declared.status.Status.{Status}
use Rattle.reshard_cmd.proofs.CopySteps.{all_read, scales_kept}
use Rattle.make_scale.proofs.StoredSteps.{both_and, no_difference, refused_ready, retold}
use Rattle.make_scale.specs.Stored.{MakesStored, told_making}
use Rattle.reshard_cmd.specs.Copying.{AllReadAsSource, CanReshard, CopiedBack, CopiesStored, CountsCopy, HasCopied, IsReadyCopy, IsRightCopy, named_in, refusal_line, told_copy}
use Rattle.reshard_cmd.specs.Judging.{DiffersFirst}
use Rattle.make_scale.specs.Refusals.{refusal_line as make_line, refusal_status}
use Rattle.reshard_cmd.specs.Copies.{IsCopied, said_copy}
use Rattle.make_scale.specs.declared.fault.MakeFault.TheVariants as fault
use Rattle.make_scale.specs.declared.refusal.MakeRefusal.{MakeRefusal}
use Rattle.make_scale.specs.declared.refusal.MakeRefusal.TheVariants as refused

-- what is made is a copy
pub copied_stored : (o now : Option Objects) (r : Result Written MakeRefusal) (from_dataset from_key to_dataset to_key : Name)
    → IfSome o (λ m. MakesStored (λ from to. told_making (DiffersFirst from to) (AreOfOneVolume from to) (said_copy m now from_dataset from to_dataset to) m from to_dataset to) r (stored_scale m from_dataset from_key) (stored_scale m to_dataset to_key) m now to_dataset)
    → IfSome o (λ m. CopiesStored r (stored_scale m from_dataset from_key) (stored_scale m to_dataset to_key) m now from_dataset to_dataset)
copied_stored None now r from_dataset from_key to_dataset to_key makes = tt
copied_stored (Some m) now r from_dataset from_key to_dataset to_key makes =
    retold (λ from to. told_making (DiffersFirst from to) (AreOfOneVolume from to) (said_copy m now from_dataset from to_dataset to) m from to_dataset to) (λ from to. told_copy m now from_dataset from to_dataset to) m now to_dataset (λ from to item is. is)
    (λ from to is. is) (λ from to written h. made_copy m now from_dataset to_dataset from to written h) (λ from to cell fault is. (is.first, λ sound. let none = sound cell is.of_source in cc (none, is.its_own))) (λ from to front. front) r
    (stored_scale m from_dataset from_key) (stored_scale m to_dataset to_key) makes
  where
    made_copy : (m : Objects) (now : Option Objects) (from_dataset to_dataset : Name) (from to : Scale) (written : Written) → IsReadyCopy m from to_dataset to × IsCopied m now from_dataset from to_dataset to written
        → HasCopied m now from_dataset from to_dataset to × CountsCopy written m from_dataset from to_dataset to
    made_copy m now from_dataset to_dataset from to written h = (
      record {
        ready = h.0;
        put = h.1.put;
        scales = scales_kept m to_dataset to (copy m from_dataset from to) h.0.2.1;
        source = h.1.source;
        values = h.1.values;
        target = h.1.target;
      },
      record { objects = h.1.objects; cells = h.1.cells },
    )

-- after a copy each box reads as the source
pub copied_back : (written : Written) (told now : Option Objects) (from_dataset from_key to_dataset to_key : Name)
    → IfSome told (λ m. CopiesStored (Ok written) (stored_scale m from_dataset from_key) (stored_scale m to_dataset to_key) m now from_dataset to_dataset)
    → IfSome told (λ m. CopiedBack m now from_dataset from_key to_dataset to_key)
copied_back written None now from_dataset from_key to_dataset to_key copies = tt
copied_back written (Some m) now from_dataset from_key to_dataset to_key copies =
    both_and (stored_scale m from_dataset from_key) (stored_scale m to_dataset to_key) (λ from to. (told_copy m now from_dataset from to_dataset to).made written) (λ from to. AllReadAsSource m now from_dataset from to_dataset to)
    (λ from to h. all_read m now from_dataset to_dataset from to h.0) copies

-- without memory nothing is copied
pub memory_right : (told now : Option Objects) (from_dataset from_key to_dataset to_key : Name) → now ≡ told → IsRightCopy (Err (refused.Unmade fault.OutOfMemory)) told now from_dataset from_key to_dataset to_key
memory_right told now from_dataset from_key to_dataset to_key kept = in_told told _ (λ m is. inl (kept ∙ is))

-- a refusal is told with the name of the data set that it is of
pub refusal_told : (refusal : MakeRefusal) (status : Status) (from_dataset to_dataset named : Name) (o : Outlets) → named ≡ named_in refusal from_dataset to_dataset
    → Reports (refusal_status refusal) (make_line named refusal) status (Tells o) → Refuses refusal_status (refusal_line from_dataset to_dataset) refusal status o
refusal_told refusal status from_dataset to_dataset named o names told = subst (λ d. Reports (refusal_status refusal) (make_line d refusal) status (Tells o)) names told

pub reshard_complete : (refusal : MakeRefusal) (status : Status) (m : Objects) (now : Option Objects) (from_dataset from_key to_dataset to_key named : Name) (o : Outlets)
    → CopiesStored (Err refusal) (stored_scale m from_dataset from_key) (stored_scale m to_dataset to_key) m now from_dataset to_dataset → CanReshard m from_dataset from_key to_dataset to_key
    → (refusal ≡ refused.Unmade fault.StoreFault → ⊥) → Reports (refusal_status refusal) (make_line named refusal) status (Tells o) → EndsWell status
reshard_complete refusal status m now from_dataset from_key to_dataset to_key named o copies can failed (inr told) = inr told.0
reshard_complete refusal status m now from_dataset from_key to_dataset to_key named o copies can failed (inl told) =
    ⊎_elim (λ is. absurd (failed is)) (λ is. inr (told.0 ∙ ap refusal_status is))
    (refused_ready (λ from to. told_copy m now from_dataset from to_dataset to) (λ from to. HasNoFault m from_dataset from) m now to_dataset
    (λ item from to h same. no_difference (from.size ≡ to.size) (from.offset ≡ to.offset) item from to h same.sizes same.offsets same.widths same.channel_counts) (λ cell found from to h sound. h.1 sound)
    refusal (stored_scale m from_dataset from_key) (stored_scale m to_dataset to_key) copies can)
