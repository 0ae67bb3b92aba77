-- What a call of the program means (this project's): six facts, each by an equation for every command.
use Rattle.std.specs.Prelude.{◌≡◌, ◌≤◌, ◌+◌, ◌^◌, true, false, List, [], Option, None, Some, IfSome}
use Rattle.std.specs.Option.{option_map}
use Rattle.vol_base.specs.Causes.{Rose}
use Rattle.vol_base.specs.Outside.{Objects}
use Rattle.command_line.specs.declared.commands.Command.{Command}
use Rattle.command_line.specs.declared.commands.Command.TheVariants.{Cutout, Downsample, Generate, Reshard, Serve, Update, Verify, Write}
use Rattle.shard_writer.specs.Writing.{Drops}
use Rattle.write_plan.specs.Stream.{writes_of}
use Rattle.vol_shell.specs.Lines.{memory_line, usage_line}
use Rattle.command_base.specs.Ending.{EndsWell}
use Rattle.command_base.specs.Outlets.{Outlets, Silent, Tells}
use Rattle.command_base.specs.Scales.{stored_scale}
use Rattle.command_base.specs.Statuses.{prints, puts, refuses}
use Rattle.command_base.specs.declared.status.Status.{Status}
use Rattle.command_base.specs.declared.status.Status.TheVariants.{Ok, Usage, InfoRefused, StoreFault, FeedFault, OutFault, NoMemory, DoorFault}
use Rattle.cutout_cmd.specs.Cutouts.{AsksFor, CanCut, CutsOut}
use Rattle.write_cmd.specs.Storing.{CanWrite, PassesList, TakesStream, WrittenBack, Wrote}
use Rattle.update_cmd.specs.Answering.{CanBeUpdated, DropsOrPuts, PassesUpdate, Updated, UpdatedBack}
use Rattle.update_cmd.specs.Answering as update
use Rattle.generate_cmd.specs.Generating.{CanGenerate, drawn, Generated}
use Rattle.verify_cmd.specs.Verified.{AsksTwice, CanVerify, Verified}
use Rattle.make_scale.specs.Stored.{DropsUnsharded}
use Rattle.reshard_cmd.specs.Copying.{CanReshard, CopiedBack, DropsOrReshards, PassesReshard, Resharded}
use Rattle.downsample_cmd.specs.Answering.{CanDownsample, Downsampled, DropsOrDownsamples, PassesDownsample, ReducedBack}
use Rattle.serve_cmd.specs.Servings.{AcceptsEnds, NotesEnds, ServeLeaves, ServeShows, TellsFirst}
use Rattle.vol_tool.specs.Seen.{Faults, IsLater, LeavesStore, outlets, Seen}

-- what words that are no command line leave
abbrev pub UsageLeaves : Status → Outlets → Type 0
UsageLeaves Usage o = Silent o × Tells o usage_line
UsageLeaves NoMemory o = Silent o × Tells o memory_line
UsageLeaves other o = ⊥

-- What is answered, over what is told, and what the two outlets gained, told or not.
abbrev pub Answers : Option Command → Status → Seen → Seen → Type 0
Answers None status before after = UsageLeaves status (outlets before after)
Answers (Some (Cutout dataset key part)) status before after =
    CutsOut status before.objects dataset key part (outlets before after)
Answers (Some (Write dataset key workers)) status before after =
    Wrote status before.objects after.objects before.left after.left dataset key (outlets before after)
Answers (Some (Update dataset key workers)) status before after =
    Updated status before.objects after.objects before.draft after.draft before.left after.left dataset key
    (outlets before after)
Answers (Some (Generate dataset key number count workers)) status before after =
    Generated status before.objects after.objects number count dataset key (outlets before after)
Answers (Some (Verify dataset key part)) status before after =
    Verified status before.objects dataset key part (outlets before after)
Answers (Some (Reshard dataset key to_dataset to_key workers)) status before after =
    Resharded status before.objects after.objects dataset key to_dataset to_key (outlets before after)
Answers (Some (Downsample dataset key to_key method workers)) status before after =
    Downsampled status method before.objects after.objects dataset key to_key (outlets before after)
Answers (Some (Serve dataset port connections)) status before after =
    ServeLeaves status port after.door.bound (outlets before after) × NotesEnds before.door after.door
    × IfSome before.objects (λ m. ServeShows status m dataset before.door after.door before.faults.store
    after.faults.store)

-- Where nothing stands against it and nothing that it uses fails, it succeeds or wants memory.
abbrev pub Succeeds : Option Command → Status → Seen → Seen → Type 0
Succeeds None status before after = Unit {0}
Succeeds (Some (Cutout dataset key part)) status before after =
    IfSome before.objects (λ m. CanCut m dataset key part
    → ¬ Rose before.faults.store after.faults.store → ¬ Rose before.faults.out after.faults.out →
    EndsWell status)
Succeeds (Some (Write dataset key workers)) status before after =
    IfSome before.objects (λ m. IfSome before.left (λ bytes. CanWrite m (writes_of bytes) dataset key
    → ¬ Rose before.faults.store after.faults.store → ¬ Rose before.faults.feed after.faults.feed
    → ¬ Rose before.faults.out after.faults.out → EndsWell status))
Succeeds (Some (Update dataset key workers)) status before after =
    IfSome before.objects (λ m. IfSome before.left (λ bytes. CanBeUpdated m (writes_of bytes) dataset key
    → ¬ Rose before.faults.store after.faults.store → ¬ Rose before.faults.feed after.faults.feed
    → ¬ Rose before.faults.out after.faults.out → EndsWell status))
Succeeds (Some (Generate dataset key number count workers)) status before after =
    IfSome before.objects (λ m. CanGenerate m number count dataset key
    → ¬ Rose before.faults.store after.faults.store → ¬ Rose before.faults.out after.faults.out →
    EndsWell status)
Succeeds (Some (Verify dataset key part)) status before after =
    IfSome before.objects (λ m. CanVerify m dataset key part
    → ¬ Rose before.faults.store after.faults.store → ¬ Rose before.faults.out after.faults.out →
    EndsWell status)
Succeeds (Some (Reshard dataset key to_dataset to_key workers)) status before after =
    IfSome before.objects (λ m. CanReshard m dataset key to_dataset to_key
    → ¬ Rose before.faults.store after.faults.store → ¬ Rose before.faults.out after.faults.out →
    EndsWell status)
Succeeds (Some (Downsample dataset key to_key method workers)) status before after =
    IfSome before.objects (λ m. CanDownsample m dataset key to_key
    → ¬ Rose before.faults.store after.faults.store → ¬ Rose before.faults.out after.faults.out →
    EndsWell status)
Succeeds (Some (Serve dataset port connections)) status before after =
    ¬ Rose before.faults.door after.faults.door → ¬ Rose before.faults.out after.faults.out → EndsWell status

-- After a `write` or a `generate` that succeeds, each box inside the scale reads back: no cell of it has a fault, and its cutout is
-- exactly the bytes of the last write at each voxel and channel, none missing: one value for each, side by side; and further chunk sizes
-- of the scale say the same. After an `update` that succeeds, each box inside the scale that had no fault has none, and its cutout is
-- exactly the bytes of the last write at each voxel and channel, else of what was there. After a `reshard` that succeeds, each box inside
-- the target reads as the source: no cell of it has a fault, and its cutout is exactly the source's, before the copy and after it. After a
-- `downsample` that succeeds, each box inside the target has no fault, and its cutout is exactly the reduced values of the source, which
-- reads as before.
abbrev pub Headline : Option Command → Status → Seen → Seen → Type 0
Headline None status before after = Unit {0}
Headline (Some (Cutout dataset key part)) status before after = Unit {0}
Headline (Some (Write dataset key workers)) status before after =
    status ≡ Ok → IfSome before.objects (λ m. IfSome before.left (λ bytes.
    WrittenBack m after.objects (writes_of bytes) dataset key))
Headline (Some (Update dataset key workers)) status before after =
    status ≡ Ok → IfSome before.objects (λ m. IfSome before.left (λ bytes.
    UpdatedBack m after.objects (writes_of bytes) dataset key))
Headline (Some (Generate dataset key number count workers)) status before after =
    status ≡ Ok → IfSome before.objects (λ m. WrittenBack m after.objects (drawn number count) dataset key)
Headline (Some (Verify dataset key part)) status before after = Unit {0}
Headline (Some (Reshard dataset key to_dataset to_key workers)) status before after =
    status ≡ Ok → IfSome before.objects (λ m. CopiedBack m after.objects dataset key to_dataset to_key)
Headline (Some (Downsample dataset key to_key method workers)) status before after =
    status ≡ Ok → IfSome before.objects (λ m. ReducedBack method m after.objects dataset key to_key)
Headline (Some (Serve dataset port connections)) status before after = Unit {0}

-- What a kill leaves of the objects, by the moments that the store tells of before a call and after it: at each moment of the
-- call they were those from before it with the ones in front of some place of the command's list put, each of them whole; and a command
-- that only reads has no such moment.
abbrev pub Killed : Option Command → Seen → List Objects → List Objects → Type 0
Killed (Some (Write dataset key workers)) before was now =
    IfSome before.left (λ bytes. PassesList (writes_of bytes) dataset key before.objects was now)
Killed (Some (Update dataset key workers)) before was now =
    IfSome before.left (λ bytes. PassesUpdate (writes_of bytes) dataset key before.objects was now)
Killed (Some (Generate dataset key number count workers)) before was now =
    PassesList (drawn number count) dataset key before.objects was now
Killed (Some (Reshard dataset key to_dataset to_key workers)) before was now =
    PassesReshard dataset key to_dataset to_key before.objects was now
Killed (Some (Downsample dataset key to_key method workers)) before was now =
    PassesDownsample method dataset key to_key before.objects was now
Killed other before was now = now ≡ was

-- a request that is refused asks the store for an info document alone
abbrev pub AsksForInfo : Status → Seen → Seen → Type 0
AsksForInfo status before after = refuses status ≡ true → after.asked ≤ before.asked + (2 ^ 20 + 1)

-- What stays of the store, the feed, the output and the door, and how much is asked of the first two. Of the output there is a fact that
-- it wasn't called: it is as before, whatever it tells.
abbrev pub Keeps : Option Command → Status → Type 0 → Seen → Seen → Type 0
Keeps None status uncalled before after = LeavesStore before after × (after.left ≡ before.left) ×
    (after.door ≡ before.door) × uncalled
-- and no more bytes are asked for than the cells of the box cost, where they are told; of a box that is refused the document's alone
Keeps (Some (Cutout dataset key part)) status uncalled before after =
    LeavesStore before after × (after.left ≡ before.left) × (after.door ≡ before.door)
    × IfSome before.objects (λ m. AsksFor m dataset key part before.asked after.asked)
    × AsksForInfo status before after × (refuses status ≡ true → uncalled)
-- no object stays half written that was begun in the call; a write that succeeds reads its feed to the end, and one without a scale leaves
-- it as before; and no more is taken of it than a stream may have, with a byte behind it
Keeps (Some (Write dataset key workers)) status uncalled before after =
    Drops before.draft after.draft × (puts status ≡ false → LeavesStore before after)
    × (status ≡ Ok → after.left ≡ option_map (λ _. []) before.left) ×
    (status ≡ InfoRefused → after.left ≡ before.left) × TakesStream before.left after.left
    × (after.door ≡ before.door) × (prints status ≡ false → uncalled)
-- no object stays half written that was begun in the call, where all of an update was put, or where the scale isn't sharded; else only
-- the next of its objects, behind those that were put; what is left of the feed as for a write
Keeps (Some (Update dataset key workers)) status uncalled before after =
    (status ≡ Ok → Drops before.draft after.draft) × (status ≡ OutFault → Drops before.draft after.draft)
    × IfSome before.objects (λ m. update.DropsUnsharded (stored_scale m dataset key) before.draft after.draft)
    × DropsOrPuts before.objects after.objects before.left dataset key before.draft after.draft
    × (puts status ≡ false → LeavesStore before after)
    × (status ≡ Ok → after.left ≡ option_map (λ _. []) before.left) ×
    (status ≡ InfoRefused → after.left ≡ before.left) × TakesStream before.left after.left
    × (after.door ≡ before.door) × (prints status ≡ false → uncalled)
-- the same of a list that is made from a number, and what is left of the feed is as before
Keeps (Some (Generate dataset key number count workers)) status uncalled before after =
    Drops before.draft after.draft × (puts status ≡ false → LeavesStore before after)
    × (after.left ≡ before.left) × (after.door ≡ before.door) × (prints status ≡ false → uncalled)
-- nothing but an outlet changes; and no more bytes are asked for than twice what the cells of the box cost, and what comparing further chunk
-- sizes with them costs, where they are told
Keeps (Some (Verify dataset key part)) status uncalled before after =
    LeavesStore before after × (after.left ≡ before.left) × (after.door ≡ before.door)
    × IfSome before.objects (λ m. AsksTwice m dataset key part before.asked after.asked)
    × AsksForInfo status before after × (prints status ≡ false → uncalled)
-- no object stays half written that was begun in the call, where all of a copy was put, or where the target isn't sharded; else only
-- the next of its objects, behind those that were put; and what is left of the feed is as before
Keeps (Some (Reshard dataset key to_dataset to_key workers)) status uncalled before after =
    (status ≡ Ok → Drops before.draft after.draft) × (status ≡ OutFault → Drops before.draft after.draft)
    × IfSome before.objects (λ m. DropsUnsharded (stored_scale m to_dataset to_key) before.draft after.draft)
    × DropsOrReshards before.objects after.objects dataset key to_dataset to_key before.draft after.draft
    × (puts status ≡ false → LeavesStore before after) × (after.left ≡ before.left) ×
    (after.door ≡ before.door) × (prints status ≡ false → uncalled)
-- the same of a reduction
Keeps (Some (Downsample dataset key to_key method workers)) status uncalled before after =
    (status ≡ Ok → Drops before.draft after.draft) × (status ≡ OutFault → Drops before.draft after.draft)
    × IfSome before.objects (λ m. DropsUnsharded (stored_scale m dataset to_key) before.draft after.draft)
    × DropsOrDownsamples method before.objects after.objects dataset key to_key before.draft after.draft
    × (puts status ≡ false → LeavesStore before after) × (after.left ≡ before.left) ×
    (after.door ≡ before.door) × (prints status ≡ false → uncalled)
-- no more ends are taken from the door than were asked for, and none before the port is told, which is told only where one is bound
Keeps (Some (Serve dataset port connections)) status uncalled before after =
    LeavesStore before after × (after.left ≡ before.left) ×
    AcceptsEnds status connections before.door after.door
    × TellsFirst before.out after.out before.door after.door × (after.door.bound ≡ None → uncalled)

-- no count falls, a fault comes only where its count rose, and at success no call of the feed, the outlets and the door failed
pub record AreCaused (status : Status) (before after : Faults) : Type 0 where
  pub later : IsLater before after
  pub store : status ≡ StoreFault → Rose before.store after.store
  pub feed : status ≡ FeedFault → Rose before.feed after.feed
  pub out : status ≡ OutFault → Rose before.out after.out
  pub door : status ≡ DoorFault → Rose before.door after.door
  pub feed_stands : status ≡ Ok → after.feed ≡ before.feed
  pub out_stands : status ≡ Ok → after.out ≡ before.out
  pub door_stands : status ≡ Ok → after.door ≡ before.door
  pub quiet : status ≡ Ok → after.err ≡ before.err

-- at success no call of the store failed
abbrev pub StoreStands : Status → Faults → Faults → Type 0
StoreStands status before after = status ≡ Ok → after.store ≡ before.store

-- Why it failed, and what it doesn't use. Of a server, a store that fails ends a connection and not the call.
abbrev pub Causes : Option Command → Status → Faults → Faults → Type 0
Causes None status before after =
    AreCaused status before after × (after.store ≡ before.store) × (after.feed ≡ before.feed) ×
    (after.out ≡ before.out)
    × (after.door ≡ before.door)
Causes (Some (Write dataset key workers)) status before after = AreCaused status before after ×
    StoreStands status before after × (after.door ≡ before.door)
Causes (Some (Update dataset key workers)) status before after = AreCaused status before after ×
    StoreStands status before after × (after.door ≡ before.door)
Causes (Some (Serve dataset port connections)) status before after = AreCaused status before after ×
    (after.feed ≡ before.feed)
Causes (Some other) status before after =
    AreCaused status before after × StoreStands status before after × (after.feed ≡ before.feed) ×
    (after.door ≡ before.door)
