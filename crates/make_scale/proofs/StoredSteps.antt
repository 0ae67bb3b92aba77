-- What making a scale of another one answers, from what its parts answer.
use Rattle.std.proofs.Common.{◌≡◌, ◌⊎◌, ◌<◌, [], ◌∷◌, length, map, Option, Some, None, IfSome, Result, Ok, Err, false, refl, sym, subst, inl, inr, ⊎_elim, arith}
use Rattle.std.specs.Prelude.{All, IfErr, IsOkAnd, OnOk}
use Rattle.std.specs.List.{range_with_len}
use Rattle.std.proofs.lemmas.List.Elements.{All-cons, All-nil}
use Rattle.vol_base.specs.Outside.{Objects}
use Rattle.vol_base.specs.declared.faults.Fault.{Fault}
use Rattle.vol_spec.specs.Types.{Cell, Listed, Name}
use Rattle.vol_spec.specs.Views.{view}
use Rattle.vol_spec.specs.Writable.{IsWritable, padded}
use Rattle.vol_spec.specs.declared.scale.Scale.{Scale}
use Rattle.info_doc.specs.declared.fault.Item.{Item}
use Rattle.info_doc.specs.declared.fault.Item.TheVariants.{Root, AtType, VolumeType, DataType, NumChannels, Scales, Size, VoxelOffset, ChunkSizes, Resolution, Encoding, BlockSize, Sharding, ShardingType, PreshiftBits, Hash, MinishardBits, ShardBits, MinishardIndexEncoding, DataEncoding, ChunkBytes, MortonBits, Padded}
use Rattle.size_laws.specs.Further.{all_views}
use Rattle.shard_writer.specs.declared.written.Written.{Written}
use Rattle.view_writer.proofs.PairSteps.{each_few}
use Rattle.view_writer.specs.Views.{first_wide}
use Rattle.command_base.specs.Scales.{IsWritableAlone, ReadsScale, stored_scale}
use Rattle.command_base.specs.declared.refusal.NoScale.{NoScale as NoScaleType}
use Rattle.command_base.specs.declared.refusal.ScaleRefusal.{ScaleRefusal}
use Rattle.command_base.specs.declared.refusal.ScaleRefusal.TheVariants as unread
use Rattle.make_scale.specs.Judging.{DiffersAt, JudgesAs}
use Rattle.make_scale.specs.Making.{KeepsStore, Makes, Said}
use Rattle.command_base.proofs.Choices.{ok_and}
use Rattle.command_base.specs.Statuses.{puts}
use Rattle.vol_base.specs.Causes.{HasCauseOf}
use Rattle.vol_base.specs.Outside.{Draft, OnlyReads, Passes}
use Rattle.vol_base.proofs.Moments.{passes_none, passes_weaker}
use Rattle.vol_base.specs.declared.outside.Source.{Ghosts}
use Rattle.vol_spec.proofs.Told.{in_told}
use Rattle.shard_writer.specs.Writing.{BeginsNext, Drops, PutsFront}
use Rattle.make_scale.specs.Stored.{CanBegin, DropsUnsharded, MakeLeaves, Making, MakesScale, MakesStored, OfBoth, ReadsTarget, told_making, unmade}
use Rattle.make_scale.specs.Refusals.{refusal_status, unsourced}
use Rattle.make_scale.specs.declared.fault.MakeFault.{MakeFault}
use Rattle.make_scale.specs.declared.fault.MakeFault.TheVariants.{Differs, TooManyCells, NotEmpty, StoreFault, Damaged, OutOfMemory}
use Rattle.make_scale.specs.declared.refusal.MakeRefusal.{MakeRefusal}
use Rattle.make_scale.specs.declared.refusal.MakeRefusal.TheVariants as refused

-- a target that is as it is to be differs in no item
pub no_difference : (SameSize SameOffset : Type 0) (item : Item) (from to : Scale) → DiffersAt SameSize SameOffset from to item → SameSize → SameOffset → from.width ≡ to.width → from.channels ≡ to.channels → ⊥
no_difference P Q Size from to h size offset width channels = h size
no_difference P Q VoxelOffset from to h size offset width channels = h.1 offset
no_difference P Q DataType from to h size offset width channels = h.2 width
no_difference P Q NumChannels from to h size offset width channels = h.3 channels
no_difference P Q Root from to h size offset width channels = h
no_difference P Q AtType from to h size offset width channels = h
no_difference P Q VolumeType from to h size offset width channels = h
no_difference P Q Scales from to h size offset width channels = h
no_difference P Q ChunkSizes from to h size offset width channels = h
no_difference P Q Resolution from to h size offset width channels = h
no_difference P Q Encoding from to h size offset width channels = h
no_difference P Q BlockSize from to h size offset width channels = h
no_difference P Q Sharding from to h size offset width channels = h
no_difference P Q ShardingType from to h size offset width channels = h
no_difference P Q PreshiftBits from to h size offset width channels = h
no_difference P Q Hash from to h size offset width channels = h
no_difference P Q MinishardBits from to h size offset width channels = h
no_difference P Q ShardBits from to h size offset width channels = h
no_difference P Q MinishardIndexEncoding from to h size offset width channels = h
no_difference P Q DataEncoding from to h size offset width channels = h
no_difference P Q ChunkBytes from to h size offset width channels = h
no_difference P Q MortonBits from to h size offset width channels = h
no_difference P Q Padded from to h size offset width channels = h

-- a scale of one chunk size that keeps the writing limit keeps it in each view
alone_each : (s : Scale) → IsWritableAlone s → All IsWritable (all_views s)
alone_each s can =
    subst (λ n. All IsWritable (s ∷ map (view s) (range_with_len 1 n))) (sym can.1) (All-cons IsWritable s [] can.0 (All-nil IsWritable))

none_wide : (s : Scale) → IsWritableAlone s → first_wide (all_views s) ≡ None
none_wide s can = each_few padded (all_views s) (alone_each s can)

-- what is answered of a target that was judged, in the words that are told
module _ (differs : Item → Type 0) (fits : Type 0) where
  told_one : (said : Said) (m : Objects) (now : Option Objects) (dataset : Name) (from to : Scale) (r : Result Written MakeFault) → IsWritableAlone to → JudgesAs differs fits r from to → Makes said r m now dataset to
      → MakesScale (told_making differs fits said m from dataset to) (unmade r) m now dataset from to
  told_one said m now dataset from to (Ok written) few judges h = ((judges.0, judges.1, (few.0, h.0), few.1), h.1)
  told_one said m now dataset from to (Err (Differs item)) few judges h = (h, few, judges)
  told_one said m now dataset from to (Err (TooManyCells cells)) few judges h = (h, few, judges.0, judges.1)
  told_one said m now dataset from to (Err NotEmpty) few judges h = (h.1, few, judges.0, judges.1, h.0)
  told_one said m now dataset from to (Err (Damaged cell found)) few judges h = (((judges.0, judges.1, (few.0, h.0), few.1), h.1.1), h.1.0)
  told_one said m now dataset from to (Err StoreFault) few judges (inl kept) = inl kept
  told_one said m now dataset from to (Err StoreFault) few judges (inr h) = inr ((judges.0, judges.1, (few.0, h.0), few.1), h.1)
  told_one said m now dataset from to (Err OutOfMemory) few judges h = inr ((judges.0, judges.1, (few.0, h.0), few.1), h.1)

  pub told_of : (said : Objects → Said) (o now : Option Objects) (dataset : Name) (from to : Scale) (r : Result Written MakeFault) (answer : Result Written MakeRefusal) → answer ≡ unmade r → IsWritableAlone to
      → JudgesAs differs fits r from to → IfSome o (λ m. Makes (said m) r m now dataset to) → IfSome o (λ m. MakesScale (told_making differs fits (said m) m from dataset to) answer m now dataset from to)
  told_of said None now dataset from to r answer is few judges h = tt
  told_of said (Some m) now dataset from to r answer is few judges h =
      subst (λ a. MakesScale (told_making differs fits (said m) m from dataset to) a m now dataset from to) (sym is) (told_one (said m) m now dataset from to r few judges h)

kept_one : (found : MakeFault) (old new : Option Objects) (before after : Option Draft) → KeepsStore found old new before after → puts (refusal_status (refused.Unmade found)) ≡ false → OnlyReads old new before after
kept_one (Differs item) old new before after kept none = kept
kept_one (TooManyCells cells) old new before after kept none = kept
kept_one NotEmpty old new before after kept none = kept
kept_one (Damaged cell found) old new before after kept none = cc none
kept_one StoreFault old new before after kept none = cc none
kept_one OutOfMemory old new before after kept none = cc none

pub refused_kept : (r : Result Written MakeRefusal) (found : MakeFault) (old new : Option Objects) (before after : Option Draft) → r ≡ Err (refused.Unmade found) → KeepsStore found old new before after
    → IfErr r (λ refusal. puts (refusal_status refusal) ≡ false → OnlyReads old new before after)
refused_kept r found old new before after is kept = subst (λ a. IfErr a (λ refusal. puts (refusal_status refusal) ≡ false → OnlyReads old new before after)) (sym is) (kept_one found old new before after kept)

-- what is answered of a target that is there,
of_target : (making : Scale → Scale → Making) (r : Result Written MakeRefusal) (m : Objects) (now : Option Objects) (dataset : Name) (from to : Scale) → MakesScale (making from to) r m now dataset from to → MakesStored making r (Ok from) (Ok to) m now dataset
of_target making (Ok written) m now dataset from to h = h
of_target making (Err (refused.NoSource why)) m now dataset from to h = absurd h
of_target making (Err (refused.NoTarget why)) m now dataset from to h = absurd h
of_target making (Err (refused.TooManyVoxels voxels)) m now dataset from to h = absurd h
of_target making (Err refused.SeveralSizes) m now dataset from to h = absurd h
of_target making (Err (refused.Unmade (Differs item))) m now dataset from to h = h
of_target making (Err (refused.Unmade (TooManyCells cells))) m now dataset from to h = h
of_target making (Err (refused.Unmade NotEmpty)) m now dataset from to h = h
of_target making (Err (refused.Unmade (Damaged cell found))) m now dataset from to h = h
of_target making (Err (refused.Unmade StoreFault)) m now dataset from to h = h
of_target making (Err (refused.Unmade OutOfMemory)) m now dataset from to h = h

-- or that isn't,
no_target : (making : Scale → Scale → Making) (refusal : MakeRefusal) (told : Result Scale NoScaleType) (m : Objects) (now : Option Objects) (dataset : Name) (from : Scale) → now ≡ Some m → ReadsTarget (Err refusal) told
    → MakesStored making (Err refusal) (Ok from) told m now dataset
no_target making (refused.NoTarget why) told m now dataset from kept reads = (kept, reads)
no_target making (refused.TooManyVoxels voxels) told m now dataset from kept reads = (kept, reads)
no_target making refused.SeveralSizes told m now dataset from kept reads = (kept, reads)
no_target making (refused.Unmade StoreFault) told m now dataset from kept reads = inl kept
no_target making (refused.Unmade OutOfMemory) told m now dataset from kept reads = inl kept
no_target making (refused.NoSource why) told m now dataset from kept reads = absurd reads
no_target making (refused.Unmade (Differs item)) told m now dataset from kept reads = absurd reads
no_target making (refused.Unmade (TooManyCells cells)) told m now dataset from kept reads = absurd reads
no_target making (refused.Unmade NotEmpty) told m now dataset from kept reads = absurd reads
no_target making (refused.Unmade (Damaged cell found)) told m now dataset from kept reads = absurd reads

-- and where the source isn't
no_source : (making : Scale → Scale → Making) (refusal : ScaleRefusal) (source target : Result Scale NoScaleType) (m : Objects) (now : Option Objects) (dataset : Name) → now ≡ Some m → ReadsScale (Err refusal) source
    → MakesStored making (Err (unsourced refusal)) source target m now dataset
no_source making (unread.NoScale why) source target m now dataset kept reads = (kept, reads)
no_source making unread.StoreFault source target m now dataset kept reads = inl kept
no_source making unread.NoMemory source target m now dataset kept reads = inl kept

-- the same over a store that is told
module _ (making : Objects → Scale → Scale → Making) (o : Option Objects) (now : Option Objects) (dataset : Name) where
  pub target_made : (r : Result Written MakeRefusal) (same : Option Objects) (key : Name) (from to : Scale) → same ≡ o → IfSome o (λ m. ReadsTarget (Ok to) (stored_scale m dataset key))
      → IfSome same (λ m. MakesScale (making m from to) r m now dataset from to) → IfSome o (λ m. MakesStored (making m) r (Ok from) (stored_scale m dataset key) m now dataset)
  target_made r same key from to kept reads makes = by o reads (subst (λ x. IfSome x (λ m. MakesScale (making m from to) r m now dataset from to)) kept makes)
    where
      by : (o : Option Objects) → IfSome o (λ m. ReadsTarget (Ok to) (stored_scale m dataset key)) → IfSome o (λ m. MakesScale (making m from to) r m now dataset from to)
          → IfSome o (λ m. MakesStored (making m) r (Ok from) (stored_scale m dataset key) m now dataset)
      by None reads makes = tt
      by (Some m) reads makes = subst (λ told. MakesStored (making m) r (Ok from) told m now dataset) (sym reads.0) (of_target (making m) r m now dataset from to makes)

  pub target_missing : (r : Result Written MakeRefusal) (refusal : MakeRefusal) (key : Name) (from : Scale) → r ≡ Err refusal → now ≡ o → IfSome o (λ m. ReadsTarget (Err refusal) (stored_scale m dataset key))
      → IfSome o (λ m. MakesStored (making m) r (Ok from) (stored_scale m dataset key) m now dataset)
  target_missing r refusal key from is kept reads = by o kept reads
    where
      by : (o : Option Objects) → now ≡ o → IfSome o (λ m. ReadsTarget (Err refusal) (stored_scale m dataset key)) → IfSome o (λ m. MakesStored (making m) r (Ok from) (stored_scale m dataset key) m now dataset)
      by None kept reads = tt
      by (Some m) kept reads = subst (λ r. MakesStored (making m) r (Ok from) (stored_scale m dataset key) m now dataset) (sym is) (no_target (making m) refusal (stored_scale m dataset key) m now dataset from kept reads)

  -- a source that is there,
  pub source_made : (r : Result Written MakeRefusal) (same : Option Objects) (from_dataset from_key key : Name) (from : Scale) → same ≡ o → IfSome o (λ m. ReadsScale (Ok from) (stored_scale m from_dataset from_key))
      → IfSome same (λ m. MakesStored (making m) r (Ok from) (stored_scale m dataset key) m now dataset)
      → IfSome o (λ m. MakesStored (making m) r (stored_scale m from_dataset from_key) (stored_scale m dataset key) m now dataset)
  source_made r same from_dataset from_key key from kept reads makes = by o reads (subst (λ x. IfSome x (λ m. MakesStored (making m) r (Ok from) (stored_scale m dataset key) m now dataset)) kept makes)
    where
      by : (o : Option Objects) → IfSome o (λ m. ReadsScale (Ok from) (stored_scale m from_dataset from_key)) → IfSome o (λ m. MakesStored (making m) r (Ok from) (stored_scale m dataset key) m now dataset)
          → IfSome o (λ m. MakesStored (making m) r (stored_scale m from_dataset from_key) (stored_scale m dataset key) m now dataset)
      by None reads makes = tt
      by (Some m) reads makes = subst (λ told. MakesStored (making m) r told (stored_scale m dataset key) m now dataset) (sym reads) makes

  -- or that isn't
  pub source_missing : (r : Result Written MakeRefusal) (refusal : ScaleRefusal) (from_dataset from_key key : Name) → r ≡ Err (unsourced refusal) → now ≡ o → IfSome o (λ m. ReadsScale (Err refusal) (stored_scale m from_dataset from_key))
      → IfSome o (λ m. MakesStored (making m) r (stored_scale m from_dataset from_key) (stored_scale m dataset key) m now dataset)
  source_missing r refusal from_dataset from_key key is kept reads = by o kept reads
    where
      by : (o : Option Objects) → now ≡ o → IfSome o (λ m. ReadsScale (Err refusal) (stored_scale m from_dataset from_key)) → IfSome o (λ m. MakesStored (making m) r (stored_scale m from_dataset from_key) (stored_scale m dataset key) m now dataset)
      by None kept reads = tt
      by (Some m) kept reads =
          subst (λ r. MakesStored (making m) r (stored_scale m from_dataset from_key) (stored_scale m dataset key) m now dataset) (sym is) (no_source (making m) refusal (stored_scale m from_dataset from_key) (stored_scale m dataset key) m now dataset kept reads)

-- a refusal of what could be made
meet : (source target : Result Scale NoScaleType) (P Q : Scale → Scale → Type 0) → OfBoth source target P → OfBoth source target Q → ((from to : Scale) → P from to → Q from to → ⊥) → ⊥
meet (Ok from) (Ok to) P Q p q f = f from to p q
meet (Ok from) (Err why) P Q p q f = p
meet (Err why) target P Q p q f = p

module _ (making : Scale → Scale → Making) (Sound : Scale → Scale → Type 0) (m : Objects) (now : Option Objects) (dataset : Name) (differs_not : (item : Item) (from to : Scale) → (making from to).differs item → (making from to).fits → ⊥)
    (faulty_not : (cell : Cell) (found : Fault) (from to : Scale) → (making from to).faulty cell found → Sound from to → ⊥) where
  abbrev Ready : Scale → Scale → Type 0
  Ready from to = CanBegin (making from to).fits m from dataset to × Sound from to

  abbrev Tells : MakeRefusal → Scale → Scale → Type 0
  Tells refusal from to = MakesScale (making from to) (Err refusal) m now dataset from to

  pub refused_ready : (refusal : MakeRefusal) (source target : Result Scale NoScaleType) → MakesStored making (Err refusal) source target m now dataset → OfBoth source target Ready → (refusal ≡ refused.Unmade StoreFault) ⊎ (refusal ≡ refused.Unmade OutOfMemory)
  refused_ready (refused.Unmade StoreFault) source target makes can = inl refl
  refused_ready (refused.Unmade OutOfMemory) source target makes can = inr refl
  refused_ready (refused.NoSource why) (Ok from) target makes can = absurd (cc makes.1)
  refused_ready (refused.NoSource why) (Err missing) target makes can = absurd can
  refused_ready (refused.NoTarget why) (Ok from) (Ok to) makes can = absurd (cc makes.1)
  refused_ready (refused.NoTarget why) (Ok from) (Err missing) makes can = absurd can
  refused_ready (refused.NoTarget why) (Err missing) target makes can = absurd can
  refused_ready (refused.TooManyVoxels voxels) source target makes can =
      absurd (meet source target (λ from to. first_wide (all_views to) ≡ Some voxels) Ready makes.1 can (λ from to h k. let none = none_wide to (k.0.2.0, k.0.3) in cc (none, h)))
  refused_ready refused.SeveralSizes source target makes can =
      absurd (meet source target (λ from to. All IsWritable (all_views to) × (0 < length to.more)) Ready makes.1 can (λ from to h k. omega (arith, h.1, k.0.3)))
  refused_ready (refused.Unmade (Differs item)) source target makes can = absurd (meet source target (Tells (refused.Unmade (Differs item))) Ready makes can (λ from to h k. differs_not item from to h.2 k.0.0))
  refused_ready (refused.Unmade (TooManyCells cells)) source target makes can = absurd (meet source target (Tells (refused.Unmade (TooManyCells cells))) Ready makes can (λ from to h k. cc (h.3, k.0.1)))
  refused_ready (refused.Unmade NotEmpty) source target makes can = absurd (meet source target (Tells (refused.Unmade NotEmpty)) Ready makes can (λ from to h k. cc (h.4, k.0.2.1)))
  refused_ready (refused.Unmade (Damaged cell found)) source target makes can = absurd (meet source target (Tells (refused.Unmade (Damaged cell found))) Ready makes can (λ from to h k. faulty_not cell found from to h.1 k.1))

-- what is left of an object that was being written, where the target isn't sharded
pub draft_kept : (told : Result Scale NoScaleType) (before after : Option Draft) → after ≡ before → DropsUnsharded told before after
draft_kept (Ok to) before after kept = λ none. inr kept
draft_kept (Err why) before after kept = tt

if_refused : {A E : Type 0} (r : Result A E) (P : E → Type 0) → ((e : E) → P e) → IfErr r P
if_refused (Ok x) P h = tt
if_refused (Err e) P h = h e

if_done : {A E : Type 0} (r : Result A E) (P : Type 0) → P → OnOk r P
if_done (Ok x) P h = h
if_done (Err e) P h = tt

module _ {T : Type 0} (store : Ghosts T) (due : Objects → Scale → Scale → Listed) (after : T) (result : Result Written MakeRefusal) where
  abbrev Keeps : Option Objects → Option Draft → Type 0
  Keeps o d = IfErr result (λ refusal. puts (refusal_status refusal) ≡ false → OnlyReads o (store.objects after) d (store.draft after))

  both_found : (Of : Objects → Scale → Scale → Type 0) (source target found reached : Objects → Result Scale NoScaleType) (o : Option Objects) → IfSome o (λ m. (source m ≡ found m) × (target m ≡ reached m)) → IfSome o (λ m. OfBoth (found m) (reached m) (Of m))
      → IfSome o (λ m. OfBoth (source m) (target m) (Of m))
  both_found Of source target found reached None told of = tt
  both_found Of source target found reached (Some m) told of = subst (λ s. OfBoth s (target m) (Of m)) (sym told.0) (subst (λ t. OfBoth (found m) t (Of m)) (sym told.1) of)

  abbrev Begins : Objects → Scale → Scale → Type 0
  Begins m from to = BeginsNext (due m from to) m (store.objects after) (store.draft after)

  abbrev Fronts : (Objects → Result Scale NoScaleType) → (Objects → Result Scale NoScaleType) → Option Objects → Objects → Type 0
  Fronts source target o x = IfSome o (λ m. OfBoth (source m) (target m) (λ from to. PutsFront (due m from to) m (Some x)))

  target_found : (source target found reached : Objects → Result Scale NoScaleType) (before : Option Draft) (o : Option Objects) → IfSome o (λ m. (source m ≡ found m) × (target m ≡ reached m)) → IfSome o (λ m. DropsUnsharded (reached m) before (store.draft after))
      → IfSome o (λ m. DropsUnsharded (target m) before (store.draft after))
  target_found source target found reached before None told drops = tt
  target_found source target found reached before (Some m) told drops = subst (λ t. DropsUnsharded t before (store.draft after)) (sym told.1) drops

  -- behind a call that only read, which found the scales
  pub leaves_read : (source target found reached : Objects → Result Scale NoScaleType) (before read : T) → store.objects read ≡ store.objects before → store.draft read ≡ store.draft before → store.history read ≡ store.history before → store.faults read ≡ store.faults before
      → IfSome (store.objects before) (λ m. (source m ≡ found m) × (target m ≡ reached m)) → MakeLeaves store found reached due read after result → MakeLeaves store source target due before after result
  leaves_read source target found reached before read objects draft history faults told h = record {
    kept = subst (λ o. Keeps o (store.draft before)) objects (subst (λ d. Keeps (store.objects read) d) draft h.kept);
    draft = subst (λ d. OnOk result (Drops d (store.draft after))) draft h.draft;
    begun =
        ⊎_elim inl (λ begins. inr (both_found Begins source target found reached (store.objects before) told begins))
        (subst (λ o. Drops (store.draft before) (store.draft after) ⊎ IfSome o (λ m. OfBoth (found m) (reached m) (Begins m))) objects (subst (λ d. Drops d (store.draft after) ⊎ IfSome (store.objects read) (λ m. OfBoth (found m) (reached m) (Begins m))) draft h.begun));
    unsharded =
        target_found source target found reached (store.draft before) (store.objects before) told
        (subst (λ o. IfSome o (λ m. DropsUnsharded (reached m) (store.draft before) (store.draft after))) objects (subst (λ d. IfSome (store.objects read) (λ m. DropsUnsharded (reached m) d (store.draft after))) draft h.unsharded));
    killed =
        passes_weaker (Fronts found reached (store.objects read)) (Fronts source target (store.objects before))
        (λ x front. both_found (λ m from to. PutsFront (due m from to) m (Some x)) source target found reached (store.objects before) told (subst (λ o. Fronts found reached o x) objects front)) (store.history before) (store.history after)
        (subst (λ was. Passes (Fronts found reached (store.objects read)) was (store.history after)) history h.killed);
    cause = subst (λ n. HasCauseOf (refused.Unmade StoreFault) n (store.faults after) result) faults h.cause;
  }

  -- and where nothing was begun
  pub leaves_kept : (source target : Objects → Result Scale NoScaleType) (before : T) → OnlyReads (store.objects before) (store.objects after) (store.draft before) (store.draft after)
      → store.history after ≡ store.history before → HasCauseOf (refused.Unmade StoreFault) (store.faults before) (store.faults after) result → MakeLeaves store source target due before after result
  leaves_kept source target before reads history cause = record {
    kept = if_refused result (λ refusal. puts (refusal_status refusal) ≡ false → OnlyReads (store.objects before) (store.objects after) (store.draft before) (store.draft after)) (λ refusal none. reads);
    draft = if_done result (Drops (store.draft before) (store.draft after)) (inr reads.same_draft);
    begun = inl (inr reads.same_draft);
    unsharded = in_told (store.objects before) _ (λ m told. draft_kept (target m) (store.draft before) (store.draft after) reads.same_draft);
    killed = passes_none (Fronts source target (store.objects before)) (store.history before) (store.history after) history;
    cause = cause;
  }

-- of both scales
pub both_and : (source target : Result Scale NoScaleType) (P Q : Scale → Scale → Type 0) → ((from to : Scale) → P from to → Q from to) → OfBoth source target P → OfBoth source target Q
both_and source target P Q f = ok_and source (λ from. IsOkAnd target (P from)) (λ from. IsOkAnd target (Q from)) (λ from. ok_and target (P from) (Q from) (f from))

-- the same in other words
module _ (old new : Scale → Scale → Making) (m : Objects) (now : Option Objects) (dataset : Name) (differs : (from to : Scale) (item : Item) → (old from to).differs item → (new from to).differs item) (fits : (from to : Scale) → (old from to).fits → (new from to).fits)
    (made : (from to : Scale) (written : Written) → (old from to).made written → (new from to).made written) (faulty : (from to : Scale) (cell : Cell) (found : Fault) → (old from to).faulty cell found → (new from to).faulty cell found)
    (front : (from to : Scale) → (old from to).front → (new from to).front) where
  one : (r : Result Written MakeRefusal) (from to : Scale) → MakesScale (old from to) r m now dataset from to → MakesScale (new from to) r m now dataset from to
  one (Ok written) from to h = made from to written h
  one (Err (refused.Unmade (Differs item))) from to h = (h.0, h.1, differs from to item h.2)
  one (Err (refused.Unmade (TooManyCells cells))) from to h = (h.0, h.1, fits from to h.2, h.3)
  one (Err (refused.Unmade NotEmpty)) from to h = (h.0, h.1, fits from to h.2, h.3, h.4)
  one (Err (refused.Unmade (Damaged cell found))) from to h = (front from to h.0, faulty from to cell found h.1)
  one (Err (refused.Unmade StoreFault)) from to h = ⊎_elim inl (λ f. inr (front from to f)) h
  one (Err (refused.Unmade OutOfMemory)) from to h = ⊎_elim inl (λ f. inr (front from to f)) h
  one (Err (refused.NoSource why)) from to h = h
  one (Err (refused.NoTarget why)) from to h = h
  one (Err (refused.TooManyVoxels voxels)) from to h = h
  one (Err refused.SeveralSizes) from to h = h

  pub retold : (r : Result Written MakeRefusal) (source target : Result Scale NoScaleType) → MakesStored old r source target m now dataset → MakesStored new r source target m now dataset
  retold (Err (refused.NoSource why)) source target h = h
  retold (Err (refused.NoTarget why)) source target h = h
  retold (Err (refused.TooManyVoxels voxels)) source target h = h
  retold (Err refused.SeveralSizes) source target h = h
  retold (Err (refused.Unmade StoreFault)) source target h = ⊎_elim inl (λ f. inr (both_and source target (λ from to. (old from to).front) (λ from to. (new from to).front) front f)) h
  retold (Err (refused.Unmade OutOfMemory)) source target h = ⊎_elim inl (λ f. inr (both_and source target (λ from to. (old from to).front) (λ from to. (new from to).front) front f)) h
  retold (Err (refused.Unmade (Differs item))) source target h = both_and source target (λ from to. MakesScale (old from to) (Err (refused.Unmade (Differs item))) m now dataset from to) (λ from to. MakesScale (new from to) (Err (refused.Unmade (Differs item))) m now dataset from to) (one (Err (refused.Unmade (Differs item)))) h
  retold (Err (refused.Unmade (TooManyCells cells))) source target h = both_and source target (λ from to. MakesScale (old from to) (Err (refused.Unmade (TooManyCells cells))) m now dataset from to) (λ from to. MakesScale (new from to) (Err (refused.Unmade (TooManyCells cells))) m now dataset from to) (one (Err (refused.Unmade (TooManyCells cells)))) h
  retold (Err (refused.Unmade NotEmpty)) source target h = both_and source target (λ from to. MakesScale (old from to) (Err (refused.Unmade NotEmpty)) m now dataset from to) (λ from to. MakesScale (new from to) (Err (refused.Unmade NotEmpty)) m now dataset from to) (one (Err (refused.Unmade NotEmpty))) h
  retold (Err (refused.Unmade (Damaged cell found))) source target h = both_and source target (λ from to. MakesScale (old from to) (Err (refused.Unmade (Damaged cell found))) m now dataset from to) (λ from to. MakesScale (new from to) (Err (refused.Unmade (Damaged cell found))) m now dataset from to) (one (Err (refused.Unmade (Damaged cell found)))) h
  retold (Ok written) source target h = both_and source target (λ from to. (old from to).made written) (λ from to. (new from to).made written) (λ from to. made from to written) h
