-- What `downsample` answers, by what the reduction of a scale answers.
use Rattle.std.proofs.Common.{◌≡◌, ◌∙◌, Option, Some, None, IfSome, Result, Ok, Err, sym, subst, ap, inl, inr, ⊎_elim}
use Rattle.vol_base.specs.Outside.{Draft, Objects}
use Rattle.vol_spec.proofs.Told.{in_told}
use Rattle.vol_spec.specs.Types.{Name}
use Rattle.vol_spec.specs.declared.scale.Scale.{Scale}
use Rattle.chunk_laws.specs.Told.{HasNoFault}
use Rattle.coarse_laws.proofs.ReadSteps.{reads_reduced}
use Rattle.reduce_laws.specs.Reduced.{IsNext, reduced_chunks}
use Rattle.reduce_laws.specs.declared.method.Method.{Method}
use Rattle.shard_writer.specs.declared.written.Written.{Written}
use Rattle.command_base.specs.Ending.{EndsWell}
use Rattle.command_base.specs.Outlets.{Outlets, Tells}
use Rattle.command_base.specs.Scales.{stored_scale}
use Rattle.command_base.specs.Statuses.{Reports}
use Rattle.command_base.specs.declared.status.Status.{Status}
use Rattle.make_scale.proofs.AnswerSteps.{few_cells}
use Rattle.reshard_cmd.proofs.CopySteps.{scales_kept}
use Rattle.make_scale.proofs.StoredSteps.{both_and, no_difference, refused_ready, retold}
use Rattle.make_scale.specs.Stored.{MakesStored, told_making}
use Rattle.make_scale.specs.Refusals.{refusal_line, refusal_status}
use Rattle.make_scale.specs.declared.fault.MakeFault.TheVariants as fault
use Rattle.make_scale.specs.declared.refusal.MakeRefusal.{MakeRefusal}
use Rattle.make_scale.specs.declared.refusal.MakeRefusal.TheVariants as refused
use Rattle.downsample_cmd.specs.Answering.{AllReadAsReduced, CanDownsample, HasDownsampled, DropsOrDownsamples, CountsReduced, IsReadyReduction, IsRightReduction, ReducedBack, ReducesStored, told_reduction}
use Rattle.downsample_cmd.specs.Reductions.{IsReduced, said_reduction}
use Rattle.downsample_cmd.specs.Judging.{DiffersNext, HasHalfSize, HasTwiceOffset}
use Rattle.downsample_cmd.proofs.ReducingSteps.{few_reduced}
use Rattle.downsample_cmd.proofs.SameInfo.{can_begin}

-- what is made is a reduction
made_reduction : (m : Objects) (now : Option Objects) (method : Method) (dataset : Name) (from to : Scale) (written : Written) → IsReadyReduction m dataset from to × IsReduced method m now dataset from to written
    → HasDownsampled method m now dataset from to × CountsReduced written method m dataset from to
made_reduction m now method dataset from to written h = (
  record {
    ready = h.0;
    put = h.1.put;
    scales = scales_kept m dataset to (reduced_chunks method m dataset from to) h.0.2.1;
    source = h.1.source;
    values = h.1.values;
    target = h.1.target;
  },
  record { objects = h.1.objects; cells = h.1.cells },
)

pub reduced_stored : (o now : Option Objects) (r : Result Written MakeRefusal) (way method : Method) (dataset key to_key : Name) → way ≡ method
    → IfSome o (λ m. MakesStored (λ from to. told_making (DiffersNext from to) (IsNext from to) (said_reduction way m now dataset from to) m from dataset to) r (stored_scale m dataset key) (stored_scale m dataset to_key) m now dataset)
    → IfSome o (λ m. ReducesStored r (stored_scale m dataset key) (stored_scale m dataset to_key) method m now dataset)
reduced_stored o now r way method dataset key to_key is makes = subst (λ w. IfSome o (λ m. ReducesStored r (stored_scale m dataset key) (stored_scale m dataset to_key) w m now dataset)) is (by o makes)
  where
    by : (o : Option Objects) → IfSome o (λ m. MakesStored (λ from to. told_making (DiffersNext from to) (IsNext from to) (said_reduction way m now dataset from to) m from dataset to) r (stored_scale m dataset key) (stored_scale m dataset to_key) m now dataset)
        → IfSome o (λ m. ReducesStored r (stored_scale m dataset key) (stored_scale m dataset to_key) way m now dataset)
    by None makes = tt
    by (Some m) makes =
        retold (λ from to. told_making (DiffersNext from to) (IsNext from to) (said_reduction way m now dataset from to) m from dataset to) (told_reduction way m now dataset) m now dataset (λ from to item h. h) (λ from to h. h)
        (λ from to written h. made_reduction m now way dataset from to written h) (λ from to cell fault h. (h.first, λ sound. let none = sound cell h.of_source in cc (none, h.its_own))) (λ from to front. front) r (stored_scale m dataset key)
        (stored_scale m dataset to_key) makes

-- each box of a target reads as the reduced source
all_read : (m : Objects) (now : Option Objects) (method : Method) (dataset : Name) (from to : Scale) → HasDownsampled method m now dataset from to → AllReadAsReduced method m now dataset from to
all_read m now method dataset from to h =
    let few = few_reduced m dataset from to (few_cells from to h.ready.1) in
    subst (λ o. AllReadAsReduced method m o dataset from to) (sym h.put)
    (λ b inside. reads_reduced method m dataset from to h.ready.0 few h.ready.2.0 h.ready.2.1 h.values b inside)

pub reduced_back : (written : Written) (told now : Option Objects) (method : Method) (dataset from_key to_key : Name)
    → IfSome told (λ m. ReducesStored (Ok written) (stored_scale m dataset from_key) (stored_scale m dataset to_key) method m now dataset)
    → IfSome told (λ m. ReducedBack method m now dataset from_key to_key)
reduced_back written None now method dataset from_key to_key reduces = tt
reduced_back written (Some m) now method dataset from_key to_key reduces =
    both_and (stored_scale m dataset from_key) (stored_scale m dataset to_key) (λ from to. (told_reduction method m now dataset from to).made written) (λ from to. AllReadAsReduced method m now dataset from to)
    (λ from to h. all_read m now method dataset from to h.0) reduces

-- without memory nothing is reduced
pub memory_right : (told now : Option Objects) (method : Method) (dataset key to_key : Name) → now ≡ told → IsRightReduction (Err (refused.Unmade fault.OutOfMemory)) method told now dataset key to_key
memory_right told now method dataset key to_key kept = in_told told _ (λ m is. inl (kept ∙ is))

pub downsample_complete : (refusal : MakeRefusal) (status : Status) (m : Objects) (now : Option Objects) (method : Method) (dataset from_key to_key : Name) (o : Outlets)
    → ReducesStored (Err refusal) (stored_scale m dataset from_key) (stored_scale m dataset to_key) method m now dataset → CanDownsample m dataset from_key to_key
    → (refusal ≡ refused.Unmade fault.StoreFault → ⊥) → Reports (refusal_status refusal) (refusal_line dataset refusal) status (Tells o) → EndsWell status
downsample_complete refusal status m now method dataset from_key to_key o reduces can failed (inr told) = inr told.0
downsample_complete refusal status m now method dataset from_key to_key o reduces can failed (inl told) =
    ⊎_elim (λ is. absurd (failed is)) (λ is. inr (told.0 ∙ ap refusal_status is))
    (refused_ready (told_reduction method m now dataset) (λ from to. HasNoFault m dataset from) m now dataset
    (λ item from to h same. no_difference (HasHalfSize from to) (HasTwiceOffset from to) item from to h (λ axis l. same.half.sizes axis l) (λ axis l. same.half.begins axis l) same.widths same.channel_counts) (λ cell found from to h sound. h.1 sound)
    refusal (stored_scale m dataset from_key) (stored_scale m dataset to_key) reduces (can_begin m dataset from_key to_key can))
