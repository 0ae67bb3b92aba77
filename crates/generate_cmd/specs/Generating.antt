-- What `generate` answers over the objects that a store tells (this project's profile).
use Rattle.std.specs.Prelude.{◌≡◌, ◌⊎◌, ℕ, ◌*◌, ◌≤◌, ◌<◌, ◌^◌, false, length, Option, Some, None, Result, Ok, Err, ⊤, IfErr, IfSome, IsOkAnd, OnOk}
use Rattle.vol_base.specs.Causes.{Rose}
use Rattle.vol_base.specs.Outside.{Objects, OnlyReads}
use Rattle.vol_base.specs.declared.outside.Source.{Ghosts}
use Rattle.vol_spec.specs.Cut.{cut, first_fault}
use Rattle.vol_spec.specs.Grid.{whole}
use Rattle.vol_spec.specs.Raw.{raw_len}
use Rattle.vol_spec.specs.Types.{Bytes, Name, Writes}
use Rattle.vol_spec.specs.declared.scale.Scale.{Scale}
use Rattle.value_sums.specs.Sums.{sum_in, sum_of}
use Rattle.vectors_vol.specs.Generated.{generated}
use Rattle.vectors_vol.specs.WriteStreams.{unless_large}
use Rattle.write_plan.specs.declared.fault.PlanFault.{PlanFault}
use Rattle.shard_writer.specs.Writing.{Drops}
use Rattle.command_base.specs.Ending.{Ends}
use Rattle.command_base.specs.Outlets.{Outlets}
use Rattle.size_laws.specs.Further.{all_views}
use Rattle.view_writer.specs.Views.{first_many, IsTooWide}
use Rattle.command_base.specs.Scales.{stored_scale}
use Rattle.command_base.specs.Statuses.{puts}
use Rattle.command_base.specs.declared.refusal.NoScale.{NoScale}
use Rattle.command_base.specs.declared.status.Status.{Status}
use Rattle.command_base.specs.declared.status.Status.TheVariants.{StoreFault as StoreStatus}
use Rattle.cutout_cmd.specs.Cutouts.{IsRequest, IsTooLarge}
use Rattle.cutout_cmd.specs.declared.refusal.CutoutRefusal.{CutoutRefusal}
use Rattle.cutout_cmd.specs.declared.refusal.CutoutRefusal.TheVariants as uncut
use Rattle.write_cmd.specs.Storing.{AllReadBack, AreFull, AreReady, Counts, FrontPut, HasStored, Listing}
use Rattle.write_cmd.specs.declared.refusal.WriteRefusal.TheVariants as unwritten
use Rattle.generate_cmd.specs.Lines.{generated_line}
use Rattle.generate_cmd.specs.Refusals.{generate_line, generate_status}
use Rattle.generate_cmd.specs.declared.generate.Summary.{Summary}
use Rattle.generate_cmd.specs.declared.refusal.GenerateRefusal.{GenerateRefusal}
use Rattle.generate_cmd.specs.declared.refusal.GenerateRefusal.TheVariants.{Write, Cutout}

-- the list of so many writes that a number makes, or what is wrong with it as a stream: the first write with which its values have more than
-- 2^30 bytes
abbrev pub drawn : ℕ → ℕ → Listing
drawn number count = λ s. unless_large (generated s number count)

-- how many bytes the values of a whole scale have; they are cut out where these are at most 2^30
abbrev pub whole_len : Scale → ℕ
whole_len s = raw_len (whole s) s.channels s.width

abbrev pub IsSmall : Scale → Type 0
IsSmall s = whole_len s ≤ 2 ^ 30

-- what judging a whole scale answers
abbrev pub JudgesWhole : Result ⊤ GenerateRefusal → Scale → Type 0
JudgesWhole (Ok done) s = IsRequest s (whole s)
JudgesWhole (Err (Cutout (uncut.TooLarge bytes))) s = IsTooLarge s (whole s) bytes
JudgesWhole (Err other) s = ⊥

-- a sum is that of the values of bytes, however many whole values these are
abbrev pub Sums : ℕ → Bytes → ℕ → Type 0
Sums width bytes sum = (count : ℕ) → length bytes ≡ count * width → sum ≡ sum_in width count bytes

-- what summing the values of a whole scale answers
abbrev pub SumsScale : Result ℕ CutoutRefusal → Objects → Name → Scale → Type 0
SumsScale (Ok sum) m dataset s = (first_fault m dataset s (whole s) ≡ None) ×
    Sums s.width (cut m dataset s (whole s)) sum
SumsScale (Err (uncut.Damaged cell fault)) m dataset s =
    first_fault m dataset s (whole s) ≡ Some (cell, fault)
SumsScale (Err other) m dataset s = Unit {0}

-- why it isn't summed
abbrev pub IsUnsummed : CutoutRefusal → Type 0
IsUnsummed uncut.StoreFault = Unit {0}
IsUnsummed (uncut.Damaged cell fault) = Unit {0}
IsUnsummed uncut.NoMemory = Unit {0}
IsUnsummed other = ⊥

-- numbers that are those of the objects of writes, and a sum that is that of the last writes
pub record Summarizes (summary : Summary) (dataset : Name) (s : Scale) (writes : Writes) : Type 0 where
  pub counts : Counts summary.written dataset s writes
  pub sum_is : summary.sum ≡ sum_of s writes

-- what stands after a list was written and its scale was summed
abbrev pub HasGenerated : Summary → Objects → Option Objects → Result Writes PlanFault → Name → Name → Scale →
    Type 0
HasGenerated summary m now list dataset key s =
    IsSmall s × IsOkAnd list (λ writes. HasStored m now dataset key s writes ×
    AllReadBack now dataset s writes × Summarizes summary dataset s writes)

-- a front of the objects of a list was put into a scale that is small
abbrev pub SmallFront : Objects → Option Objects → Listing → Name → Scale → Type 0
SmallFront m now list dataset s = IsSmall s × FrontPut m now (list s) dataset s

-- some objects of a list may have been put, but none into a scale that isn't small
abbrev pub MayPut : Result Scale NoScale → Objects → Option Objects → Listing → Name → Type 0
MayPut told m now list dataset = (now ≡ Some m) ⊎ IsOkAnd told (SmallFront m now list dataset)

-- what `generate` answers before it prints, by the scale that is told, and what stands after it. No cell is found damaged
abbrev pub Generates : Result Summary GenerateRefusal → Result Scale NoScale → Objects → Option Objects →
    Listing → Name → Name → Type 0
Generates (Ok summary) told m now list dataset key =
    IsOkAnd told (λ s. HasGenerated summary m now (list s) dataset key s)
Generates (Err (Write (unwritten.NoScale why))) told m now list dataset key = told ≡ Err why
Generates (Err (Write (unwritten.TooManyVoxels count))) told m now list dataset key =
    IsOkAnd told (λ s. IsTooWide s count)
Generates (Err (Write unwritten.NotEmpty)) told m now list dataset key = IsOkAnd told (AreFull m dataset)
Generates (Err (Write (unwritten.Stream fault))) told m now list dataset key =
    IsOkAnd told (λ s. AreReady m dataset s × IsSmall s × (list s ≡ Err fault))
Generates (Err (Write (unwritten.TooManyCells cells))) told m now list dataset key =
    IsOkAnd told (λ s. AreReady m dataset s × IsSmall s ×
    IsOkAnd (list s) (λ writes. first_many (all_views s) writes ≡ Some cells))
Generates (Err (Write unwritten.StoreFault)) told m now list dataset key = MayPut told m now list dataset
Generates (Err (Write unwritten.NoMemory)) told m now list dataset key = MayPut told m now list dataset
Generates (Err (Cutout (uncut.TooLarge bytes))) told m now list dataset key =
    IsOkAnd told (λ s. AreReady m dataset s × IsTooLarge s (whole s) bytes)
Generates (Err (Cutout uncut.StoreFault)) told m now list dataset key = MayPut told m now list dataset
Generates (Err (Cutout uncut.NoMemory)) told m now list dataset key = MayPut told m now list dataset
Generates (Err other) told m now list dataset key = ⊥

-- the refusals that come, also where nothing is told: nothing of a feed or an output
abbrev pub IsRefusal : GenerateRefusal → Type 0
IsRefusal (Write unwritten.FeedFault) = ⊥
IsRefusal (Write other) = Unit {0}
IsRefusal (Cutout (uncut.TooLarge bytes)) = Unit {0}
IsRefusal (Cutout (uncut.Damaged cell fault)) = Unit {0}
IsRefusal (Cutout uncut.StoreFault) = Unit {0}
IsRefusal (Cutout uncut.NoMemory) = Unit {0}
IsRefusal (Cutout other) = ⊥

-- no count of the store falls, a refusal with the status of its faults comes only where it rose, and success only where it stands
pub record HasStoreCause (before now : ℕ) (result : Result Summary GenerateRefusal) : Type 0 where
  pub later : before ≤ now
  pub failed : IfErr result (λ refusal. generate_status refusal ≡ StoreStatus → Rose before now)
  pub stands : OnOk result (now ≡ before)

-- what is left of a store in which a list is written that is then summed: nothing is being written, or what was before; after a refusal of a
-- status that puts nothing it is as before; and the store's count rose at its status, and stands at success
pub record GenerateLeaves {T : Type 0} (store : Ghosts T) (before after : T)
    (result : Result Summary GenerateRefusal) : Type 0 where
  pub draft : Drops (store.draft before) (store.draft after)
  pub kept : IfErr result (λ refusal. puts (generate_status refusal) ≡ false →
      OnlyReads (store.objects before) (store.objects after) (store.draft before) (store.draft after))
  pub cause : HasStoreCause (store.faults before) (store.faults after) result

-- what is right of the answer of `generate`: over objects; and where nothing is told, the refusals that come, those of a status that
-- puts nothing without a change of the objects
pub record IsRightList (answer : Result Summary GenerateRefusal) (told now : Option Objects) (number count : ℕ)
    (dataset key : Name) : Type 0 where
  pub generates : IfSome told (λ m.
      Generates answer (stored_scale m dataset key) m now (drawn number count) dataset key)
  pub comes : IfErr answer IsRefusal
  pub same : IfErr answer (λ refusal. puts (generate_status refusal) ≡ false → now ≡ told)

-- the line of what so many writes left
abbrev pub summary_line : ℕ → Summary → Bytes
summary_line count summary =
    generated_line count summary.written.objects summary.written.bytes summary.sum

-- what `generate` answers is right, and is told: its line is printed, or the line of its refusal goes to the error outlet, with
-- the refusal's status
abbrev pub Generated : Status → Option Objects → Option Objects → ℕ → ℕ → Name → Name → Outlets → Type 0
Generated status told now number count dataset key o = (answer : Result Summary GenerateRefusal)
    × IsRightList answer told now number count dataset key
    × Ends (summary_line count) generate_status (generate_line dataset) answer status o

-- the scale is there, ready and small, and the list can be written
abbrev pub CanGenerate : Objects → ℕ → ℕ → Name → Name → Type 0
CanGenerate m number count dataset key =
    IsOkAnd (stored_scale m dataset key) (λ s. AreReady m dataset s × IsSmall s ×
    IsOkAnd (drawn number count s) (λ writes. first_many (all_views s) writes ≡ None))
