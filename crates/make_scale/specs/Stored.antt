-- What making a stored scale of another one answers (this project's profile).
use Rattle.std.specs.Prelude.{◌≡◌, ◌⊎◌, true, false, Option, Some, None, Result, Ok as Done, Err, IfErr, IfOk, IfSome, IsOkAnd, OnOk}
use Rattle.vol_base.specs.Causes.{HasCauseOf}
use Rattle.vol_base.specs.Outside.{Objects, OnlyReads, Passes, any_under, Draft}
use Rattle.vol_base.specs.declared.outside.Source.{Ghosts}
use Rattle.vol_base.specs.declared.faults.Fault.{Fault}
use Rattle.vol_spec.specs.CellNames.{folder_of}
use Rattle.vol_spec.specs.Types.{Cell, Listed, Name}
use Rattle.vol_spec.specs.declared.scale.Scale.{Scale}
use Rattle.info_doc.specs.declared.fault.Item.{Item}
use Rattle.shard_writer.specs.declared.written.Written.{Written}
use Rattle.view_writer.specs.Views.{HasSeveralSizes, IsTooWide}
use Rattle.command_base.specs.Scales.{HasOneSize, IsReady, IsWritableAlone}
use Rattle.command_base.specs.Statuses.{puts}
use Rattle.command_base.specs.declared.refusal.NoScale.{NoScale}
use Rattle.make_scale.specs.Judging.{too_many}
use Rattle.make_scale.specs.Refusals.{refusal_status}
use Rattle.make_scale.specs.declared.refusal.MakeRefusal.{MakeRefusal}
use Rattle.make_scale.specs.declared.refusal.MakeRefusal.TheVariants as refused
use Rattle.make_scale.specs.declared.fault.MakeFault.TheVariants as fault
use Rattle.make_scale.specs.declared.fault.MakeFault.{MakeFault}
use Rattle.make_scale.specs.Making.{Said}
use Rattle.shard_writer.specs.Writing.{BeginsNext, Drops, PutsFront}

-- what is said of a target that is made of a source: in which item it isn't as it is to be, and that it is in each; what stands once it is
-- made, with the numbers that are told; that a cell of the source has this fault, the first on the way; and what stands after a front of
-- its objects
pub record Making : Type 1 where
  pub differs : Item → Type 0
  pub fits : Type 0
  pub made : Written → Type 0
  pub faulty : Cell → Fault → Type 0
  pub front : Type 0

-- it can be begun: the target is as it is to be, no grid has too many cells, and the target keeps the writing limit, has an empty folder and
-- one chunk size
abbrev pub CanBegin : Type 0 → Objects → Scale → Name → Scale → Type 0
CanBegin Fits m from dataset to = Fits × (too_many from to ≡ None) × IsReady m dataset to × HasOneSize to

-- what is said of a target once it is told: it could be begun
abbrev pub told_making : (Item → Type 0) → Type 0 → Said → Objects → Scale → Name → Scale → Making
told_making differs fits said m from dataset to = record {
  differs = differs;
  fits = fits;
  made = λ written. CanBegin fits m from dataset to × said.made written;
  faulty = said.faulty;
  front = CanBegin fits m from dataset to × said.front;
}

-- what is said of a source and a target that are both there
abbrev pub OfBoth : Result Scale NoScale → Result Scale NoScale → (Scale → Scale → Type 0) → Type 0
OfBoth source target Of = IsOkAnd source (λ from. IsOkAnd target (λ to. Of from to))

-- what making it of a scale answers, where the target keeps the writing limit and has one chunk size
abbrev pub MakesScale : Making → Result Written MakeRefusal → Objects → Option Objects → Name → Scale →
    Scale → Type 0
MakesScale making (Done written) m now dataset from to = making.made written
MakesScale making (Err (refused.Unmade (fault.Differs item))) m now dataset from to =
    (now ≡ Some m) × IsWritableAlone to × making.differs item
MakesScale making (Err (refused.Unmade (fault.TooManyCells cells))) m now dataset from to =
    (now ≡ Some m) × IsWritableAlone to × making.fits × (too_many from to ≡ Some cells)
MakesScale making (Err (refused.Unmade fault.NotEmpty)) m now dataset from to = (now ≡ Some m) × IsWritableAlone to ×
    making.fits × (too_many from to ≡ None) × (any_under m (folder_of dataset to) ≡ true)
MakesScale making (Err (refused.Unmade (fault.Damaged cell found))) m now dataset from to =
    making.front × making.faulty cell found
MakesScale making (Err (refused.Unmade fault.StoreFault)) m now dataset from to = (now ≡ Some m) ⊎ making.front
MakesScale making (Err (refused.Unmade fault.OutOfMemory)) m now dataset from to = (now ≡ Some m) ⊎ making.front
MakesScale making (Err other) m now dataset from to = ⊥

-- what is answered before anything is printed, by the two scales that are told
abbrev pub MakesStored : (Scale → Scale → Making) → Result Written MakeRefusal → Result Scale NoScale →
    Result Scale NoScale → Objects → Option Objects → Name → Type 0
MakesStored making (Err (refused.NoSource why)) source target m now dataset = (now ≡ Some m) ×
    (source ≡ Err why)
MakesStored making (Err (refused.NoTarget why)) source target m now dataset = (now ≡ Some m) ×
    IsOkAnd source (λ from. target ≡ Err why)
MakesStored making (Err (refused.TooManyVoxels voxels)) source target m now dataset =
    (now ≡ Some m) × OfBoth source target (λ from to. IsTooWide to voxels)
MakesStored making (Err refused.SeveralSizes) source target m now dataset =
    (now ≡ Some m) × OfBoth source target (λ from to. HasSeveralSizes to)
MakesStored making (Err (refused.Unmade fault.StoreFault)) source target m now dataset =
    (now ≡ Some m) ⊎ OfBoth source target (λ from to. (making from to).front)
MakesStored making (Err (refused.Unmade fault.OutOfMemory)) source target m now dataset =
    (now ≡ Some m) ⊎ OfBoth source target (λ from to. (making from to).front)
MakesStored making result source target m now dataset =
    OfBoth source target (λ from to. MakesScale (making from to) result m now dataset from to)

-- a fault of making, as a refusal
abbrev pub unmade : Result Written MakeFault → Result Written MakeRefusal
unmade (Done written) = Done written
unmade (Err found) = Err (refused.Unmade found)

-- what reading the scale that is written answers
abbrev pub ReadsTarget : Result Scale MakeRefusal → Result Scale NoScale → Type 0
ReadsTarget (Done to) told = (told ≡ Done to) × IsWritableAlone to
ReadsTarget (Err (refused.NoTarget why)) told = told ≡ Err why
ReadsTarget (Err (refused.TooManyVoxels voxels)) told = IsOkAnd told (λ to. IsTooWide to voxels)
ReadsTarget (Err refused.SeveralSizes) told = IsOkAnd told HasSeveralSizes
ReadsTarget (Err (refused.Unmade fault.StoreFault)) told = Unit {0}
ReadsTarget (Err (refused.Unmade fault.OutOfMemory)) told = Unit {0}
ReadsTarget (Err other) told = ⊥

-- where the target isn't sharded, nothing is being written, or what was before
abbrev pub DropsUnsharded : Result Scale NoScale → Option Draft → Option Draft → Type 0
DropsUnsharded target before after = IfOk target (λ to. to.sharding ≡ None → Drops before after)

-- what is left of a store in which a target is made of a source: after a refusal of a status that puts nothing it is as before; nothing is being
-- written, or what was before, at success and where the target isn't sharded, else maybe the next of the objects that are due; at each
-- moment that passed a front of these was put in; and the store's count rose at its fault, and stands at success
pub record MakeLeaves {T : Type 0} (store : Ghosts T) (source target : Objects → Result Scale NoScale)
    (due : Objects → Scale → Scale → Listed) (before after : T) (result : Result Written MakeRefusal) : Type 0 where
  pub kept : IfErr result (λ refusal. puts (refusal_status refusal) ≡ false →
      OnlyReads (store.objects before) (store.objects after) (store.draft before) (store.draft after))
  pub draft : OnOk result (Drops (store.draft before) (store.draft after))
  pub begun : Drops (store.draft before) (store.draft after) ⊎ IfSome (store.objects before) (λ m.
      OfBoth (source m) (target m) (λ from to.
      BeginsNext (due m from to) m (store.objects after) (store.draft after)))
  pub unsharded : IfSome (store.objects before) (λ m.
      DropsUnsharded (target m) (store.draft before) (store.draft after))
  pub killed : Passes (λ x. IfSome (store.objects before) (λ m. OfBoth (source m) (target m) (λ from to.
      PutsFront (due m from to) m (Some x)))) (store.history before) (store.history after)
  pub cause : HasCauseOf (refused.Unmade fault.StoreFault) (store.faults before) (store.faults after) result
