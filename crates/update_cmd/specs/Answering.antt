-- What `update` answers over the objects that a store tells and the stream that a feed tells (this project's profile).
use Rattle.std.specs.Prelude.{◌≡◌, ◌⊎◌, ◌+◌, ◌≤◌, ◌^◌, [], ℕ, List, Option, Some, None, Result, Ok, Err, IfErr, IfOk, IfSome, IsOkAnd, IsSomeAnd}
use Rattle.std.specs.Option.{option_map}
use Rattle.vol_base.specs.Outside.{Draft, Objects, OnlyReads, Passes}
use Rattle.vol_base.specs.declared.boxes.Box3.{Box3}
use Rattle.vol_spec.specs.Cut.{first_fault}
use Rattle.vol_spec.specs.Grid.{Inside}
use Rattle.vol_spec.specs.Types.{Bytes, Name, Writes}
use Rattle.vol_spec.specs.Writable.{IsWritable}
use Rattle.vol_spec.specs.declared.scale.Scale.{Scale}
use Rattle.shard_writer.specs.Writing.{BeginsNext, Drops, PutsFront}
use Rattle.shard_writer.specs.declared.written.Written.{Written}
use Rattle.update_laws.specs.Judged.{refusal_in}
use Rattle.update_laws.specs.Judged.Refusal.{BadShard as BadShardOf}
use Rattle.update_laws.specs.Updated.{HasUpdates, ReadsUpdated, updated_in}
use Rattle.view_writer.specs.Views.{HasSeveralSizes, IsTooWide}
use Rattle.write_plan.specs.Plans.{pairs}
use Rattle.write_plan.specs.Stream.{writes_of}
use Rattle.write_plan.specs.declared.fault.PlanFault.{PlanFault}
use Rattle.write_cmd.specs.Storing.{Listing}
use Rattle.command_base.specs.Ending.{Ends}
use Rattle.told_writer.specs.Lines.{count_line}
use Rattle.command_base.specs.Outlets.{Outlets}
use Rattle.command_base.specs.Scales.{HasOneSize, IsWritableAlone, stored_scale}
use Rattle.command_base.specs.declared.refusal.NoScale.{NoScale}
use Rattle.command_base.specs.declared.status.Status.{Status}
use Rattle.update_cmd.specs.Refusals.{update_line, update_status}
use Rattle.update_cmd.specs.Updating.{HasTooMany, IsUpdated, PutsJudgedFront, update_fault, update_list}
use Rattle.update_cmd.specs.declared.refusal.UpdateRefusal.{UpdateRefusal}
use Rattle.update_cmd.specs.declared.refusal.UpdateRefusal.TheVariants as refused

-- what stands after an update: the scale kept the writing limit and has one chunk size, there were few pairs, no shard that was written anew was
-- refused, the objects were put in and nothing else was changed, as many as are told, and the scale is as before
pub record HasUpdated (m : Objects) (now : Option Objects) (dataset key : Name) (s : Scale) (writes : Writes)
    (written : Written) : Type 0 where
  pub writable : IsWritable s
  pub one : HasOneSize s
  pub few : pairs s writes ≤ 2 ^ 22
  pub judged : refusal_in m dataset s writes ≡ None
  pub updated : IsUpdated m now dataset s writes written
  pub same : stored_scale (updated_in m dataset s writes) dataset key ≡ stored_scale m dataset key

-- each value is the last write, else the one before, where its cell had no fault; and each box inside the scale that had no first fault has none,
-- its cutout is the last write at each voxel and channel, else what was there, none missing, and nothing is wrong with its cells where nothing
-- was before
abbrev pub AllReadUpdated : Objects → Option Objects → Name → Scale → Writes → Type 0
AllReadUpdated m objects dataset s writes = IsSomeAnd objects (λ now. HasUpdates m now dataset s writes ×
    ((b : Box3) → Inside s b → first_fault m dataset s b ≡ None → ReadsUpdated m now dataset s writes b))

abbrev pub UpdatedBack : Objects → Option Objects → Listing → Name → Name → Type 0
UpdatedBack m now list dataset key = IsOkAnd (stored_scale m dataset key) (λ s.
    IsOkAnd (list s) (AllReadUpdated m now dataset s))

-- a front of the objects of writes that can be put over a scale
abbrev pub UpdateFront : Objects → Option Objects → Result Writes PlanFault → Name → Scale → Type 0
UpdateFront m now list dataset s = IsWritableAlone s × IsOkAnd list (λ writes. (pairs s writes ≤ 2 ^ 22) ×
    PutsJudgedFront m now dataset s writes)

-- at each moment that passed a front of the objects of a list of writes over a scale was put, where objects are told,
abbrev pub PassesOver : Result Writes PlanFault → Name → Scale → Option Objects → List Objects → List Objects →
    Type 0
PassesOver list dataset s old was now = Passes
    (λ x. IfSome old (λ m. IsOkAnd list (λ writes. PutsFront (update_list m dataset s writes) m (Some x)))) was now

-- and the scale of a key was there
abbrev pub PassesUpdate : Listing → Name → Name → Option Objects → List Objects → List Objects → Type 0
PassesUpdate list dataset key old was now = Passes
    (λ x. IfSome old (λ m. IsOkAnd (stored_scale m dataset key) (λ s. IsOkAnd (list s) (λ writes.
    PutsFront (update_list m dataset s writes) m (Some x))))) was now

-- what updating a scale that keeps the writing limit and has one chunk size answers, and what stands after it
abbrev pub AnswersScale : Result Written UpdateRefusal → Objects → Option Objects → Result Writes PlanFault →
    Name → Name → Scale → Type 0
AnswersScale (Ok written) m now list dataset key s = IsOkAnd list (λ writes.
    HasUpdated m now dataset key s writes written × AllReadUpdated m now dataset s writes)
AnswersScale (Err (refused.NoScale why)) m now list dataset key s = ⊥
AnswersScale (Err (refused.TooManyVoxels voxels)) m now list dataset key s = ⊥
AnswersScale (Err refused.SeveralSizes) m now list dataset key s = ⊥
AnswersScale (Err (refused.Stream fault)) m now list dataset key s = (now ≡ Some m) × (list ≡ Err fault)
AnswersScale (Err (refused.TooManyCells cells)) m now list dataset key s = (now ≡ Some m) ×
    IsOkAnd list (λ writes. HasTooMany m dataset s writes cells)
AnswersScale (Err (refused.BadShard shard minishard fault)) m now list dataset key s = (now ≡ Some m) ×
    IsOkAnd list (λ writes. (pairs s writes ≤ 2 ^ 22) ×
    (refusal_in m dataset s writes ≡ Some (BadShardOf shard minishard fault)))
AnswersScale (Err (refused.Damaged cell fault)) m now list dataset key s = IsOkAnd list (λ writes.
    (pairs s writes ≤ 2 ^ 22) × (update_fault m dataset s writes ≡ Some (cell, fault)) ×
    PutsJudgedFront m now dataset s writes)
AnswersScale (Err refused.StoreFault) m now list dataset key s = (now ≡ Some m) ⊎
    UpdateFront m now list dataset s
AnswersScale (Err refused.NoMemory) m now list dataset key s = (now ≡ Some m) ⊎
    UpdateFront m now list dataset s
AnswersScale (Err refused.FeedFault) m now list dataset key s = now ≡ Some m

-- what `update` answers over them, before it prints
abbrev pub AnswersAll : Result Written UpdateRefusal → Result Scale NoScale → Objects → Option Objects →
    Listing → Name → Name → Type 0
AnswersAll (Err (refused.NoScale why)) told m now list dataset key = (now ≡ Some m) × (told ≡ Err why)
AnswersAll (Err (refused.TooManyVoxels voxels)) told m now list dataset key = (now ≡ Some m) ×
    IsOkAnd told (λ s. IsTooWide s voxels)
AnswersAll (Err refused.SeveralSizes) told m now list dataset key = (now ≡ Some m) ×
    IsOkAnd told HasSeveralSizes
AnswersAll (Err refused.StoreFault) told m now list dataset key = (now ≡ Some m) ⊎
    IsOkAnd told (λ s. UpdateFront m now (list s) dataset s)
AnswersAll (Err refused.NoMemory) told m now list dataset key = (now ≡ Some m) ⊎
    IsOkAnd told (λ s. UpdateFront m now (list s) dataset s)
AnswersAll result told m now list dataset key = IsOkAnd told (λ s. IsWritableAlone s ×
    AnswersScale result m now (list s) dataset key s)

-- what it answers over objects alone, the feed told or not: the scale is judged first, then the writing limit of all views, then that there is one
-- chunk size, and the feed is read only then
abbrev pub JudgesUpdate : Result Written UpdateRefusal → Result Scale NoScale → Type 0
JudgesUpdate (Err (refused.NoScale why)) told = told ≡ Err why
JudgesUpdate (Err (refused.TooManyVoxels voxels)) told = IsOkAnd told (λ s. IsTooWide s voxels)
JudgesUpdate (Err refused.SeveralSizes) told = IsOkAnd told HasSeveralSizes
JudgesUpdate (Err refused.StoreFault) told = Unit {0}
JudgesUpdate (Err refused.NoMemory) told = Unit {0}
JudgesUpdate result told = IsOkAnd told IsWritableAlone

-- what reading a scale that keeps the writing limit and has one chunk size answers
abbrev pub ReadsWritable : Result Scale UpdateRefusal → Result Scale NoScale → Type 0
ReadsWritable (Ok s) told = (told ≡ Ok s) × IsWritableAlone s
ReadsWritable (Err (refused.NoScale why)) told = told ≡ Err why
ReadsWritable (Err (refused.TooManyVoxels voxels)) told = IsOkAnd told (λ s. IsTooWide s voxels)
ReadsWritable (Err refused.SeveralSizes) told = IsOkAnd told HasSeveralSizes
ReadsWritable (Err refused.StoreFault) told = Unit {0}
ReadsWritable (Err refused.NoMemory) told = Unit {0}
ReadsWritable (Err other) told = ⊥

-- what is left of the feed: it isn't read where the scale, the limit or several chunk sizes are refused, and is read to its end by an update that
-- succeeds
abbrev pub KeepsFeed : Result Written UpdateRefusal → Option Bytes → Option Bytes → Type 0
KeepsFeed (Ok written) old new = new ≡ option_map (λ _. []) old
KeepsFeed (Err (refused.NoScale why)) old new = new ≡ old
KeepsFeed (Err (refused.TooManyVoxels voxels)) old new = new ≡ old
KeepsFeed (Err refused.SeveralSizes) old new = new ≡ old
KeepsFeed (Err other) old new = Unit {0}

-- how much is asked of the store: no more than an info document has, with a byte behind it, where the scale, the limit or several chunk sizes are
-- refused
abbrev pub AsksForDocument : Result Written UpdateRefusal → ℕ → ℕ → Type 0
AsksForDocument (Ok written) before after = Unit {0}
AsksForDocument (Err (refused.NoScale why)) before after = after ≤ before + (2 ^ 20 + 1)
AsksForDocument (Err (refused.TooManyVoxels voxels)) before after = after ≤ before + (2 ^ 20 + 1)
AsksForDocument (Err refused.SeveralSizes) before after = after ≤ before + (2 ^ 20 + 1)
AsksForDocument (Err other) before after = Unit {0}

-- what is left of the store: it is only read but where the objects of an update were begun
abbrev pub LeavesStore : UpdateRefusal → Option Objects → Option Objects → Option Draft → Option Draft → Type 0
LeavesStore (refused.Damaged cell fault) old new before after = Unit {0}
LeavesStore refused.StoreFault old new before after = Unit {0}
LeavesStore refused.NoMemory old new before after = Unit {0}
LeavesStore other old new before after = OnlyReads old new before after

-- where the scale isn't sharded, nothing is being written, or what was before
abbrev pub DropsUnsharded : Result Scale NoScale → Option Draft → Option Draft → Type 0
DropsUnsharded told before after = IfOk told (λ s. s.sharding ≡ None → Drops before after)

-- the list can be read, and of the objects of its writes over a scale the next one is being written, behind those that were put in
abbrev pub BeginsUpdate : Objects → Option Objects → Result Writes PlanFault → Name → Scale → Option Draft →
    Type 0
BeginsUpdate m now list dataset s draft =
    IsOkAnd list (λ writes. BeginsNext (update_list m dataset s writes) m now draft)

-- nothing is being written, or what was before, or, where the stream is told, the next of the objects of its writes
abbrev pub DropsOrPuts : Option Objects → Option Objects → Option Bytes → Name → Name → Option Draft →
    Option Draft → Type 0
DropsOrPuts old now left dataset key before after = Drops before after ⊎ IfSome old (λ m. IfSome left (λ bytes.
    IsOkAnd (stored_scale m dataset key) (λ s. BeginsUpdate m now (writes_of bytes s) dataset s after)))

-- what is right of the answer of `update`: over objects, the feed told or not; over both; and where nothing is told, what is left of the feed
-- and of the store
pub record IsRight (answer : Result Written UpdateRefusal) (told now : Option Objects)
    (before after : Option Draft) (left_old left_new : Option Bytes) (dataset key : Name) : Type 0 where
  pub judges : IfSome told (λ m. JudgesUpdate answer (stored_scale m dataset key))
  pub answers : IfSome told (λ m. IfSome left_old (λ bytes.
      AnswersAll answer (stored_scale m dataset key) m now (writes_of bytes) dataset key))
  pub feed : KeepsFeed answer left_old left_new
  pub store : IfErr answer (λ refusal. LeavesStore refusal told now before after)

-- what `update` answers is right, and is told: its line is printed, or the line of its refusal goes to the error outlet, with the
-- refusal's status
abbrev pub Updated : Status → Option Objects → Option Objects → Option Draft → Option Draft → Option Bytes →
    Option Bytes → Name → Name → Outlets → Type 0
Updated status told now before after left_old left_new dataset key o =
    (answer : Result Written UpdateRefusal)
    × IsRight answer told now before after left_old left_new dataset key
    × Ends count_line update_status (update_line dataset) answer status o

-- the scale is there, keeps the writing limit and has one chunk size, the list can be written, no shard that it writes anew is refused, and no cell
-- that is stored has a fault
abbrev pub CanBeUpdated : Objects → Listing → Name → Name → Type 0
CanBeUpdated m list dataset key = IsOkAnd (stored_scale m dataset key) (λ s. IsWritableAlone s ×
    IsOkAnd (list s) (λ writes. (pairs s writes ≤ 2 ^ 22) × (refusal_in m dataset s writes ≡ None) ×
    (update_fault m dataset s writes ≡ None)))
