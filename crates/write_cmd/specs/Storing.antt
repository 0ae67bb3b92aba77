-- What a command that writes a list of writes answers over the objects that a store tells (this project's
-- profile): `write`, whose list stands in the stream that a feed tells, and in part `generate`.
use Rattle.std.specs.Prelude.{◌≡◌, ◌⊎◌, ℕ, drop, All, List, ◌≤◌, ◌+◌, ◌*◌, ◌^◌, true, false, [], length, Option, Some, None, Result, Ok, Err, ⊤, IfErr, IfSome, IsOkAnd, IsSomeAnd}
use Rattle.std.specs.Option.{option_map}
use Rattle.vol_base.specs.declared.boxes.Box3.{Box3}
use Rattle.vol_base.specs.Bytes.{AreBytes}
use Rattle.vol_base.specs.Causes.{HasCauseOf}
use Rattle.vol_base.specs.Outside.{any_under, Draft, Objects, OnlyReads, Passes}
use Rattle.vol_base.specs.declared.outside.Source.{Ghosts}
use Rattle.vol_spec.specs.CellNames.{folder_of}
use Rattle.vol_spec.specs.Grid.{Inside}
use Rattle.vol_spec.specs.Types.{Bytes, Name, Writes}
use Rattle.vol_spec.specs.Writable.{IsWritable}
use Rattle.vol_spec.specs.declared.scale.Scale.{Scale}
use Rattle.chunk_laws.specs.Told.{HasLastWrites, ReadsBack}
use Rattle.shard_writer.specs.Writing.{Drops, joint_len, PutsFront}
use Rattle.shard_writer.specs.declared.written.Written.{Written}
use Rattle.write_plan.specs.Stream.{writes_of}
use Rattle.write_plan.specs.declared.fault.PlanFault.{PlanFault}
use Rattle.command_base.specs.Ending.{Ends}
use Rattle.command_base.specs.Outlets.{Outlets}
use Rattle.told_writer.specs.Lines.{count_line}
use Rattle.size_laws.specs.Further.{all_views, further, written_views}
use Rattle.size_laws.specs.Sizes.{AllSound, stored_all}
use Rattle.view_writer.specs.Views.{cells_all, first_many, IsTooWide}
use Rattle.command_base.specs.Scales.{stored_scale}
use Rattle.command_base.specs.Statuses.{puts}
use Rattle.command_base.specs.declared.refusal.NoScale.{NoScale}
use Rattle.command_base.specs.declared.status.Status.{Status}
use Rattle.write_cmd.specs.Refusals.{write_line, write_status}
use Rattle.write_cmd.specs.declared.refusal.WriteRefusal.{WriteRefusal}
use Rattle.write_cmd.specs.declared.refusal.WriteRefusal.TheVariants as refused

-- the writes into a scale, or the first thing that is wrong with them
abbrev pub Listing : Type 0
Listing = Scale → Result Writes PlanFault

-- what stands after a write: each view of the scale kept the writing limit, its folder was empty, the values are bytes, the objects of the
-- writes were put in for each view and nothing else was changed, so the scale is as before
pub record HasStored (m : Objects) (now : Option Objects) (dataset key : Name) (s : Scale)
    (writes : Writes) : Type 0 where
  pub writable : All IsWritable (all_views s)
  pub empty : any_under m (folder_of dataset s) ≡ false
  pub bytes : All (λ write. AreBytes write.1) writes
  pub few : first_many (all_views s) writes ≡ None
  pub put : now ≡ Some (written_views m dataset s writes)
  pub same : stored_scale (written_views m dataset s writes) dataset key ≡ stored_scale m dataset key

-- each view of the scale keeps the writing limit, and its folder is empty
abbrev pub AreReady : Objects → Name → Scale → Type 0
AreReady m dataset s = All IsWritable (all_views s) × (any_under m (folder_of dataset s) ≡ false)

-- or its folder isn't
abbrev pub AreFull : Objects → Name → Scale → Type 0
AreFull m dataset s = All IsWritable (all_views s) × (any_under m (folder_of dataset s) ≡ true)

-- each value is the last write, else 0; and each box inside the scale reads back as the writes: no cell of it has a
-- fault, its cutout is the bytes of the last write at each voxel and channel, else 0, none missing (so many values
-- side by side), nothing is wrong with its cells, and the further views say the same
abbrev pub AllReadBack : Option Objects → Name → Scale → Writes → Type 0
AllReadBack objects dataset s writes = IsSomeAnd objects (λ now. HasLastWrites now dataset s writes ×
    ((b : Box3) → Inside s b → ReadsBack now dataset s writes b × AllSound now dataset s (further s) b))

abbrev pub WrittenBack : Objects → Option Objects → Listing → Name → Name → Type 0
WrittenBack m now list dataset key = IsOkAnd (stored_scale m dataset key) (λ s.
    IsOkAnd (list s) (AllReadBack now dataset s))

-- a front of the objects of writes that can be stored: the limit was kept, the folder was empty, and there are not too many cells
abbrev pub FrontPut : Objects → Option Objects → Result Writes PlanFault → Name → Scale → Type 0
FrontPut m now list dataset s =
    AreReady m dataset s
    × IsOkAnd list (λ writes. (first_many (all_views s) writes ≡ None) ×
    PutsFront (stored_all dataset (all_views s) writes) m now)

-- at each moment that passed a front of the objects of writes was put, where objects are told,
abbrev pub PassesPut : Result Writes PlanFault → Name → Scale → Option Objects → List Objects → List Objects →
    Type 0
PassesPut list dataset s old was now = Passes (λ x. IfSome old (λ m. FrontPut m (Some x) list dataset s)) was now

-- and the scale of a key that they are put in was there
abbrev pub PassesList : Listing → Name → Name → Option Objects → List Objects → List Objects → Type 0
PassesList list dataset key old was now =
    Passes (λ x. IfSome old (λ m. IsOkAnd (stored_scale m dataset key) (λ s. FrontPut m (Some x) (list s) dataset s)))
    was now

-- numbers of objects and of bytes that are those of the objects of the writes in all views, and one of cells that is that of the cells that
-- they meet in these
pub record Counts (written : Written) (dataset : Name) (s : Scale) (writes : Writes) : Type 0 where
  pub objects : written.objects ≡ length (stored_all dataset (all_views s) writes)
  pub cells : written.cells ≡ cells_all (all_views s) writes
  pub bytes : written.bytes ≡ joint_len (stored_all dataset (all_views s) writes)

-- what writing the objects of writes answers, and what stands after it
abbrev pub PutsWrites : Result Written WriteRefusal → Objects → Option Objects → Name → Scale → Writes →
    Type 0
PutsWrites (Ok written) m now dataset s writes = (now ≡ Some (written_views m dataset s writes)) ×
    (first_many (all_views s) writes ≡ None) × Counts written dataset s writes
PutsWrites (Err (refused.TooManyCells cells)) m now dataset s writes = first_many (all_views s) writes ≡ Some cells
PutsWrites (Err refused.StoreFault) m now dataset s writes = (first_many (all_views s) writes ≡ None) ×
    PutsFront (stored_all dataset (all_views s) writes) m now
PutsWrites (Err refused.NoMemory) m now dataset s writes = (first_many (all_views s) writes ≡ None) ×
    PutsFront (stored_all dataset (all_views s) writes) m now
PutsWrites (Err other) m now dataset s writes = ⊥

-- what judging the writing limit answers
abbrev pub JudgesLimit : Result ⊤ WriteRefusal → Scale → Type 0
JudgesLimit (Ok done) s = All IsWritable (all_views s)
JudgesLimit (Err (refused.TooManyVoxels voxels)) s = IsTooWide s voxels
JudgesLimit (Err other) s = ⊥

-- what writing a scale answers, and what stands after it
abbrev pub WritesScale : Result Written WriteRefusal → Objects → Option Objects → Result Writes PlanFault →
    Name → Name → Scale → Type 0
WritesScale (Ok written) m now list dataset key s =
    IsOkAnd list (λ writes. HasStored m now dataset key s writes × AllReadBack now dataset s writes ×
    Counts written dataset s writes)
WritesScale (Err (refused.NoScale why)) m now list dataset key s = ⊥
WritesScale (Err (refused.TooManyVoxels voxels)) m now list dataset key s = Unit {0}
WritesScale (Err refused.NotEmpty) m now list dataset key s = Unit {0}
WritesScale (Err (refused.Stream fault)) m now list dataset key s = list ≡ Err fault
WritesScale (Err (refused.TooManyCells cells)) m now list dataset key s =
    IsOkAnd list (λ writes. first_many (all_views s) writes ≡ Some cells)
WritesScale (Err refused.StoreFault) m now list dataset key s = (now ≡ Some m) ⊎ FrontPut m now list dataset s
WritesScale (Err refused.NoMemory) m now list dataset key s = (now ≡ Some m) ⊎ FrontPut m now list dataset s
WritesScale (Err refused.FeedFault) m now list dataset key s = Unit {0}

-- what `write` answers over them, before it prints
abbrev pub WritesAll : Result Written WriteRefusal → Result Scale NoScale → Objects → Option Objects →
    Listing → Name → Name → Type 0
WritesAll (Err (refused.NoScale why)) told m now list dataset key = Unit {0}
WritesAll (Err refused.StoreFault) told m now list dataset key = (now ≡ Some m) ⊎
    IsOkAnd told (λ s. FrontPut m now (list s) dataset s)
WritesAll (Err refused.NoMemory) told m now list dataset key = (now ≡ Some m) ⊎
    IsOkAnd told (λ s. FrontPut m now (list s) dataset s)
WritesAll result told m now list dataset key = IsOkAnd told (λ s.
    WritesScale result m now (list s) dataset key s)

-- what it answers over objects alone, the feed told or not: the scale is judged first, then the writing limit, then the folder, and the
-- feed is read only then
abbrev pub JudgesWrite : Result Written WriteRefusal → Result Scale NoScale → Objects → Name → Type 0
JudgesWrite (Err (refused.NoScale why)) told m dataset = told ≡ Err why
JudgesWrite (Err (refused.TooManyVoxels voxels)) told m dataset = IsOkAnd told (λ s. IsTooWide s voxels)
JudgesWrite (Err refused.NotEmpty) told m dataset = IsOkAnd told (AreFull m dataset)
JudgesWrite (Err refused.StoreFault) told m dataset = Unit {0}
JudgesWrite (Err refused.NoMemory) told m dataset = Unit {0}
JudgesWrite result told m dataset = IsOkAnd told (AreReady m dataset)

-- what it leaves where nothing is told: the feed isn't read where the scale, the limit or the folder is refused, and is read to its end by a
-- write that succeeds; and nothing is put, and what was being written stays, but where the objects of a plan were begun
abbrev pub KeepsFeed : Result Written WriteRefusal → Option Bytes → Option Bytes → Type 0
KeepsFeed (Ok written) old new = new ≡ option_map (λ _. []) old
KeepsFeed (Err (refused.NoScale why)) old new = new ≡ old
KeepsFeed (Err (refused.TooManyVoxels voxels)) old new = new ≡ old
KeepsFeed (Err refused.NotEmpty) old new = new ≡ old
KeepsFeed (Err other) old new = Unit {0}

-- at most as many bytes are taken of a feed as a stream of writes may have, and one behind it
abbrev pub TakesStream : Option Bytes → Option Bytes → Type 0
TakesStream before now = (count : ℕ) × (count ≤ 2 ^ 30 + 48 * 65536 + 9) ×
    (now ≡ option_map (drop count) before)

abbrev pub KeepsStore : WriteRefusal → Option Objects → Option Objects → Option Draft → Option Draft → Type 0
KeepsStore refused.StoreFault old new before now = Unit {0}
KeepsStore refused.NoMemory old new before now = Unit {0}
KeepsStore other old new before now = OnlyReads old new before now

-- the same of the writes of a plan, which are refused for nothing else
abbrev pub KeepsPlan : WriteRefusal → Option Objects → Option Objects → Option Draft → Option Draft → Type 0
KeepsPlan refused.StoreFault old new before now = Unit {0}
KeepsPlan refused.NoMemory old new before now = Unit {0}
KeepsPlan (refused.TooManyCells cells) old new before now = OnlyReads old new before now
KeepsPlan other old new before now = ⊥

-- what is left of a store that a list of writes is put in: nothing is being written, or what was before; after a refusal in front of the
-- first object, all is as it was; and the store's count rose at its fault, and stands at success
pub record WriteLeaves {T : Type 0} (store : Ghosts T) (before after : T)
    (result : Result Written WriteRefusal) : Type 0 where
  pub draft : Drops (store.draft before) (store.draft after)
  pub kept : IfErr result (λ refusal. KeepsStore refusal (store.objects before) (store.objects after)
      (store.draft before) (store.draft after))
  pub cause : HasCauseOf refused.StoreFault (store.faults before) (store.faults after) result

-- what is right of the answer of `write`: over objects, the feed told or not; over both; and where nothing is told, what is left of the
-- feed, and that a refusal of a status that puts nothing changed no object
pub record IsRight (answer : Result Written WriteRefusal) (told now : Option Objects)
    (left_old left_new : Option Bytes) (dataset key : Name) : Type 0 where
  pub judges : IfSome told (λ m. JudgesWrite answer (stored_scale m dataset key) m dataset)
  pub writes : IfSome told (λ m. IfSome left_old (λ bytes.
      WritesAll answer (stored_scale m dataset key) m now (writes_of bytes) dataset key))
  pub feed : KeepsFeed answer left_old left_new
  pub same : IfErr answer (λ refusal. puts (write_status refusal) ≡ false → now ≡ told)

-- what `write` answers is right, and is told: its line is printed, or the line of its refusal goes to the error outlet, with the
-- refusal's status
abbrev pub Wrote : Status → Option Objects → Option Objects → Option Bytes → Option Bytes → Name → Name →
    Outlets → Type 0
Wrote status told now left_old left_new dataset key o = (answer : Result Written WriteRefusal)
    × IsRight answer told now left_old left_new dataset key
    × Ends count_line write_status (write_line dataset) answer status o

-- the scale is there and ready, and the list can be written
abbrev pub CanWrite : Objects → Listing → Name → Name → Type 0
CanWrite m list dataset key =
    IsOkAnd (stored_scale m dataset key) (λ s. AreReady m dataset s ×
    IsOkAnd (list s) (λ writes. first_many (all_views s) writes ≡ None))
