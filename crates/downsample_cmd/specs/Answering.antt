-- What `downsample` answers (this project's profile). Its refusals are those of a copy, with the same statuses and lines.
use Rattle.std.specs.Prelude.{◌≡◌, ◌⊎◌, List, length, Option, Some, None, Result, IfSome, IsSomeAnd}
use Rattle.vol_base.specs.Outside.{Draft, Objects, Passes}
use Rattle.vol_base.specs.declared.boxes.Box3.{Box3}
use Rattle.vol_spec.specs.Grid.{Inside, whole}
use Rattle.vol_spec.specs.Types.{Name}
use Rattle.vol_spec.specs.declared.scale.Scale.{Scale}
use Rattle.chunk_laws.specs.Told.{HasNoFault}
use Rattle.coarse_laws.specs.Coarse.{HasReduced, ReadsAsReduced, reduced_in}
use Rattle.reduce_laws.specs.Halves.{IsHalf}
use Rattle.reduce_laws.specs.Reduced.{IsNext, reduced_cells}
use Rattle.reduce_laws.specs.declared.method.Method.{Method}
use Rattle.shard_writer.specs.Writing.{BeginsNext, Drops, PutsFront}
use Rattle.shard_writer.specs.declared.written.Written.{Written}
use Rattle.command_base.specs.Ending.{Ends}
use Rattle.command_base.specs.Outlets.{Outlets}
use Rattle.command_base.specs.Scales.{HasOneSize, IsReady, stored_scale}
use Rattle.command_base.specs.declared.refusal.NoScale.{NoScale}
use Rattle.command_base.specs.declared.status.Status.{Status}
use Rattle.told_writer.specs.Lines.{count_line}
use Rattle.reshard_cmd.specs.Copying.{KeepsScales}
use Rattle.make_scale.specs.Stored.{CanBegin, Making, MakesStored, OfBoth}
use Rattle.make_scale.specs.Judging.{too_many}
use Rattle.make_scale.specs.Refusals.{refusal_line, refusal_status}
use Rattle.make_scale.specs.declared.refusal.MakeRefusal.{MakeRefusal}
use Rattle.downsample_cmd.specs.Downsampling.{PutsReducedFront, reduced_list, source_fault}
use Rattle.downsample_cmd.specs.Judging.{DiffersNext}

-- a reduction can be begun: the target keeps the writing limit and has one chunk size, it is the scale after the source, no grid has too many cells,
-- and the target's folder is empty
abbrev pub IsReadyReduction : Objects → Name → Scale → Scale → Type 0
IsReadyReduction m dataset from to = CanBegin (IsNext from to) m from dataset to

-- what stands after a reduction: its objects were put in and nothing else was changed, so both scales are as
-- before; the source has no fault, each value of the target is the reduced one, and the target has no fault
pub record HasDownsampled (method : Method) (m : Objects) (now : Option Objects) (dataset : Name)
    (from to : Scale) : Type 0 where
  pub ready : IsReadyReduction m dataset from to
  pub put : now ≡ Some (reduced_in method m dataset from to)
  pub scales : KeepsScales m (reduced_in method m dataset from to)
  pub source : HasNoFault m dataset from
  pub values : HasReduced method m dataset from to
  pub target : HasNoFault (reduced_in method m dataset from to) dataset to

-- each box inside the target reads as the reduced source: no cell of it has a fault, its cutout are the reduced values, and nothing is wrong with
-- its cells; and the source reads as before
abbrev pub AllReadAsReduced : Method → Objects → Option Objects → Name → Scale → Scale → Type 0
AllReadAsReduced method m objects dataset from to =
    IsSomeAnd objects (λ now. (b : Box3) → Inside to b →
    ReadsAsReduced method m now dataset from to b)

abbrev pub ReducedBack : Method → Objects → Option Objects → Name → Name → Name → Type 0
ReducedBack method m now dataset key to_key =
    OfBoth (stored_scale m dataset key) (stored_scale m dataset to_key)
    (λ from to. AllReadAsReduced method m now dataset from to)

-- numbers of objects and of cells that are those of a reduction
pub record CountsReduced (written : Written) (method : Method) (m : Objects) (dataset : Name)
    (from to : Scale) : Type 0 where
  pub objects : written.objects ≡ length (reduced_list method m dataset from to)
  pub cells : written.cells ≡ length (reduced_cells m dataset from to)

-- a front of the objects of a reduction that could be begun, none of them with a cell over a faulty one of the source
abbrev pub ReducedFront : Method → Objects → Option Objects → Name → Scale → Scale → Type 0
ReducedFront method m now dataset from to = IsReadyReduction m dataset from to ×
    PutsReducedFront method m now dataset from to

-- what is said of a reduction once it is told
abbrev pub told_reduction : Method → Objects → Option Objects → Name → Scale → Scale → Making
told_reduction method m now dataset from to = record {
  differs = DiffersNext from to;
  fits = IsNext from to;
  made = λ written. HasDownsampled method m now dataset from to × CountsReduced written method m dataset from to;
  faulty = λ cell found. (source_fault m dataset from to ≡ Some (cell, found)) × ¬ HasNoFault m dataset from;
  front = ReducedFront method m now dataset from to;
}

-- what `downsample` answers before it prints, by the two scales that are told
abbrev pub ReducesStored : Result Written MakeRefusal → Result Scale NoScale → Result Scale NoScale →
    Method → Objects → Option Objects → Name → Type 0
ReducesStored result source target method m now dataset =
    MakesStored (told_reduction method m now dataset) result source target m now dataset

-- both scales are there, and of the objects of the reduced one the next is being written, behind those that were put in
abbrev pub BeginsReduction : Result Scale NoScale → Result Scale NoScale → Method → Objects → Option Objects →
    Name → Option Draft → Type 0
BeginsReduction source target method m now dataset draft = OfBoth source target
    (λ from to. BeginsNext (reduced_list method m dataset from to) m now draft)

-- nothing is being written, or what was before, or the next of the reduced scale's objects
abbrev pub DropsOrDownsamples : Method → Option Objects → Option Objects → Name → Name → Name →
    Option Draft → Option Draft → Type 0
DropsOrDownsamples method old now dataset key to_key before after = Drops before after ⊎
    IfSome old (λ m. BeginsReduction (stored_scale m dataset key) (stored_scale m dataset to_key) method m now
    dataset after)

-- at each moment that passed both scales were there, and a front of the reduced scale's objects was put, where objects are told
abbrev pub PassesDownsample : Method → Name → Name → Name → Option Objects → List Objects → List Objects → Type 0
PassesDownsample method dataset key to_key old was now = Passes
    (λ x. IfSome old (λ m. OfBoth (stored_scale m dataset key) (stored_scale m dataset to_key)
    (λ from to. PutsFront (reduced_list method m dataset from to) m (Some x)))) was now

-- both scales are there, the target keeps the writing limit, has one chunk size and is half the source, no grid has too many cells, the target's
-- folder is empty, and the source has no fault
abbrev pub CanDownsample : Objects → Name → Name → Name → Type 0
CanDownsample m dataset key to_key =
    OfBoth (stored_scale m dataset key) (stored_scale m dataset to_key)
    (λ from to. IsHalf (whole to) (whole from) × (too_many from to ≡ None) × IsReady m dataset to ×
    HasOneSize to × HasNoFault m dataset from)

-- an answer that is right over the objects, where they are told
abbrev pub IsRightReduction : Result Written MakeRefusal → Method → Option Objects → Option Objects →
    Name → Name → Name → Type 0
IsRightReduction answer method told now dataset key to_key = IfSome told (λ m.
    ReducesStored answer (stored_scale m dataset key) (stored_scale m dataset to_key) method m now dataset)

-- `downsample` ends as a right answer is told
abbrev pub Downsampled : Status → Method → Option Objects → Option Objects → Name → Name → Name → Outlets →
    Type 0
Downsampled status method told now dataset key to_key o =
    (answer : Result Written MakeRefusal)
    × IsRightReduction answer method told now dataset key to_key
    × Ends count_line refusal_status (refusal_line dataset) answer status o
