-- What `reshard` answers (this project's profile).
use Rattle.std.specs.Prelude.{◌≡◌, ◌⊎◌, List, length, Option, Some, Result, Ok as Done, IfSome, IsSomeAnd}
use Rattle.vol_base.specs.Outside.{Draft, Objects, Passes}
use Rattle.vol_base.specs.declared.boxes.Box3.{Box3}
use Rattle.vol_spec.specs.Copies.{AreOfOneVolume, copied_cells}
use Rattle.vol_spec.specs.Grid.{Inside}
use Rattle.vol_spec.specs.Types.{Bytes, Name}
use Rattle.vol_spec.specs.declared.scale.Scale.{Scale}
use Rattle.chunk_laws.specs.Told.{HasNoFault}
use Rattle.copy_laws.specs.Copied.{copied_in, KeepsValues, ReadsAsSource}
use Rattle.shard_writer.specs.Writing.{BeginsNext, Drops, PutsFront}
use Rattle.shard_writer.specs.declared.written.Written.{Written}
use Rattle.command_base.specs.Ending.{Ends}
use Rattle.told_writer.specs.Lines.{count_line}
use Rattle.command_base.specs.Outlets.{Outlets}
use Rattle.command_base.specs.Scales.{stored_scale}
use Rattle.command_base.specs.declared.refusal.NoScale.{NoScale}
use Rattle.command_base.specs.declared.status.Status.{Status}
use Rattle.reshard_cmd.specs.Judging.{DiffersFirst}
use Rattle.make_scale.specs.Stored.{CanBegin, Making, MakesStored, OfBoth}
use Rattle.make_scale.specs.Refusals.{refusal_line as make_line, refusal_status}
use Rattle.reshard_cmd.specs.Resharding.{copy_fault, copy_list, PutsCopyFront}
use Rattle.make_scale.specs.declared.refusal.MakeRefusal.{MakeRefusal}
use Rattle.make_scale.specs.declared.refusal.MakeRefusal.TheVariants as refused

-- a copy can be begun: the target keeps the writing limit and has one chunk size, both scales are of one volume, no grid has too many cells, and
-- the target's folder is empty
abbrev pub IsReadyCopy : Objects → Scale → Name → Scale → Type 0
IsReadyCopy m from to_dataset to = CanBegin (AreOfOneVolume from to) m from to_dataset to

-- each scale that was there, of whatever data set and key, is there as before
abbrev pub KeepsScales : Objects → Objects → Type 0
KeepsScales m now = (dataset key : Name) (s : Scale) → stored_scale m dataset key ≡ Done s →
    stored_scale now dataset key ≡ Done s

-- what stands after a copy: its objects were put in and nothing else was changed, so both scales are as
-- before; the source has no fault, each value of the target is the source's, and the target has no fault
pub record HasCopied (m : Objects) (now : Option Objects) (from_dataset : Name) (from : Scale)
    (to_dataset : Name) (to : Scale) : Type 0 where
  pub ready : IsReadyCopy m from to_dataset to
  pub put : now ≡ Some (copied_in m from_dataset from to_dataset to)
  pub scales : KeepsScales m (copied_in m from_dataset from to_dataset to)
  pub source : HasNoFault m from_dataset from
  pub values : KeepsValues m from_dataset from to_dataset to
  pub target : HasNoFault (copied_in m from_dataset from to_dataset to) to_dataset to

-- each box inside the target reads as the source did: no cell of it has a fault, its cutout is the one that
-- was cut out of the source before, and nothing is wrong with its cells; and the source reads as before
abbrev pub AllReadAsSource : Objects → Option Objects → Name → Scale → Name → Scale → Type 0
AllReadAsSource m objects from_dataset from to_dataset to =
    IsSomeAnd objects (λ now. (b : Box3) → Inside to b →
    ReadsAsSource m now from_dataset from to_dataset to b)

abbrev pub CopiedBack : Objects → Option Objects → Name → Name → Name → Name → Type 0
CopiedBack m now from_dataset from_key to_dataset to_key =
    OfBoth (stored_scale m from_dataset from_key) (stored_scale m to_dataset to_key)
    (λ from to. AllReadAsSource m now from_dataset from to_dataset to)

-- numbers of objects and of cells that are those of a copy
pub record CountsCopy (written : Written) (m : Objects) (from_dataset : Name) (from : Scale)
    (to_dataset : Name) (to : Scale) : Type 0 where
  pub objects : written.objects ≡ length (copy_list m from_dataset from to_dataset to)
  pub cells : written.cells ≡ length (copied_cells m from_dataset from to)

-- a front of the objects of a copy that could be begun, none of them with a cell in whose box the source has a fault
abbrev pub CopyFront : Objects → Option Objects → Name → Scale → Name → Scale → Type 0
CopyFront m now from_dataset from to_dataset to = IsReadyCopy m from to_dataset to ×
    PutsCopyFront m now from_dataset from to_dataset to

-- what is said of a copy once it is told
abbrev pub told_copy : Objects → Option Objects → Name → Scale → Name → Scale → Making
told_copy m now from_dataset from to_dataset to = record {
  differs = DiffersFirst from to;
  fits = AreOfOneVolume from to;
  made = λ written. HasCopied m now from_dataset from to_dataset to ×
      CountsCopy written m from_dataset from to_dataset to;
  faulty = λ cell found. (copy_fault m from_dataset from to ≡ Some (cell, found)) ×
      ¬ HasNoFault m from_dataset from;
  front = CopyFront m now from_dataset from to_dataset to;
}

-- what `reshard` answers before it prints, by the two scales that are told
abbrev pub CopiesStored : Result Written MakeRefusal → Result Scale NoScale → Result Scale NoScale →
    Objects → Option Objects → Name → Name → Type 0
CopiesStored result source target m now from_dataset to_dataset =
    MakesStored (λ from to. told_copy m now from_dataset from to_dataset to) result source target m now
    to_dataset

-- both scales are there, and of the objects of their copy the next one is being written, behind those that were put in
abbrev pub BeginsCopy : Result Scale NoScale → Result Scale NoScale → Objects → Option Objects → Name →
    Name → Option Draft → Type 0
BeginsCopy source target m now from_dataset to_dataset draft = OfBoth source target
    (λ from to. BeginsNext (copy_list m from_dataset from to_dataset to) m now draft)

-- nothing is being written, or what was before, or the next of the copy's objects
abbrev pub DropsOrReshards : Option Objects → Option Objects → Name → Name → Name → Name → Option Draft →
    Option Draft → Type 0
DropsOrReshards old now from_dataset from_key to_dataset to_key before after = Drops before after ⊎
    IfSome old (λ m. BeginsCopy (stored_scale m from_dataset from_key) (stored_scale m to_dataset to_key) m
    now from_dataset to_dataset after)

-- at each moment that passed both scales were there, and a front of the copy's objects was put, where objects are told
abbrev pub PassesReshard : Name → Name → Name → Name → Option Objects → List Objects → List Objects → Type 0
PassesReshard from_dataset from_key to_dataset to_key old was now = Passes
    (λ x. IfSome old (λ m. OfBoth (stored_scale m from_dataset from_key) (stored_scale m to_dataset to_key)
    (λ from to. PutsFront (copy_list m from_dataset from to_dataset to) m (Some x)))) was now

-- which data set's name a refusal tells, the target's only where its scale isn't there
abbrev pub named_in : MakeRefusal → Name → Name → Name
named_in (refused.NoTarget why) from_dataset to_dataset = to_dataset
named_in other from_dataset to_dataset = from_dataset

-- both scales are there, the copy can be begun, and the source has no fault
abbrev pub CanReshard : Objects → Name → Name → Name → Name → Type 0
CanReshard m from_dataset from_key to_dataset to_key =
    OfBoth (stored_scale m from_dataset from_key) (stored_scale m to_dataset to_key)
    (λ from to. IsReadyCopy m from to_dataset to × HasNoFault m from_dataset from)

-- the line of a refusal, with the name of the data set that it is told of
abbrev pub refusal_line : Name → Name → MakeRefusal → Bytes
refusal_line from_dataset to_dataset refusal =
    make_line (named_in refusal from_dataset to_dataset) refusal

-- an answer that is right over the objects, where they are told
abbrev pub IsRightCopy : Result Written MakeRefusal → Option Objects → Option Objects → Name → Name →
    Name → Name → Type 0
IsRightCopy answer told now from_dataset from_key to_dataset to_key = IfSome told (λ m.
    CopiesStored answer (stored_scale m from_dataset from_key) (stored_scale m to_dataset to_key) m now
    from_dataset to_dataset)

-- `reshard` ends as a right answer is told
abbrev pub Resharded : Status → Option Objects → Option Objects → Name → Name → Name → Name → Outlets →
    Type 0
Resharded status told now from_dataset from_key to_dataset to_key o =
    (answer : Result Written MakeRefusal)
    × IsRightCopy answer told now from_dataset from_key to_dataset to_key
    × Ends count_line refusal_status (refusal_line from_dataset to_dataset) answer status o
