-- Connections that are served several at once (this project's).
use Rattle.std.specs.Prelude.{Result, Ok, Err, ◌≡◌, ◌<◌, ◌≤◌, ◌+◌, ◌⊎◌, ℕ, Bool, true, false, List, [], ◌∷◌, ◌++◌, All, Contains, map, sum, Option, Some, None, IfSome, IsSome, if◌then◌else◌, nat_lt, slice_index_or}
use Rattle.job_log.specs.Onces.{one_if}
use Rattle.job_log.specs.Replay.{some_count}
use Rattle.vol_base.specs.Causes.{Rose, most_count}
use Rattle.vol_base.specs.Outside.{Draft, Ended, Objects}
use Rattle.job_log.specs.declared.stages.Event.{Event}
use Rattle.job_log.specs.declared.stages.Event.TheVariants.{Claim, Deposit}
use Rattle.range_server.specs.Replies.{ServedIn, Stopped}
use Rattle.range_server.specs.Serving.{IsWhole}
use Rattle.range_server.specs.declared.fault.ServeFault.{ServeFault}
use Rattle.range_server.specs.declared.fault.ServeFault.TheVariants.{LinkFault, OutOfMemory, StoreFault}
use Rattle.range_server.specs.declared.reply.Ending.{Ending}
use Rattle.range_server.specs.declared.reply.Ending.TheVariants as ending
use Rattle.hall.specs.declared.outcome.Outcome.{Outcome}
use Rattle.hall.specs.declared.outcome.Outcome.TheVariants.{Whole, StoreCut, MemoryCut}
use Rattle.hall.specs.declared.outcome.HallEnd.{HallEnd}
use Rattle.hall.specs.declared.outcome.HallEnd.TheVariants as ended

-- an end that was closed, with its number
abbrev pub Numbered : Type 0
Numbered = ℕ × Ended

abbrev pub ends_of : List Numbered → List Ended
ends_of list = map (λ e. e.1) list

abbrev pub numbers_of : List Numbered → List ℕ
numbers_of list = map (λ e. e.0) list

-- of the objects that several stores tell, or not: each store tells these
abbrev pub TellAll : List (Option Objects) → Objects → Type 0
TellAll told m = All (λ o. o ≡ Some m) told

-- what is said of the objects, where all stores tell the same
abbrev pub WhereAllTell : List (Option Objects) → (Objects → Type 0) → Type 0
WhereAllTell told P = (m : Objects) → TellAll told m → P m

-- a store tells what all tell, where they all tell the same
abbrev pub TellsAs : List (Option Objects) → Option Objects → Type 0
TellsAs told objects = WhereAllTell told (λ m. objects ≡ Some m)

-- the jobs that were deposited, in the log's order
abbrev pub deposited : List Event → List ℕ
deposited [] = []
deposited (Claim seat job ∷ es) = deposited es
deposited (Deposit seat job ∷ es) = job ∷ deposited es

-- an exit noted one end more, where it still tells what it noted
abbrev pub Closes : Option (List Numbered) → ℕ → Option (List ℕ) → Option (List ℕ) → ℕ →
    Option (List Numbered) → Type 0
Closes served number stream sent faults noted =
    IfSome noted (λ now. (list : List Numbered) × (s : List ℕ) × (o : List ℕ) × (served ≡ Some list)
    × (stream ≡ Some s) × (sent ≡ Some o) × (now ≡ list ++ (number, (s, o, faults)) ∷ []))

module _ (m : Objects) (dataset : List ℕ) where
  -- an end that got its replies; or its own link failed, and it got a front of them
  abbrev pub IsSound : Ended → Type 0
  IsSound end = IsWhole m dataset end ⊎ ((0 < end.2) × Stopped m dataset 0 0 LinkFault end.0 end.1)

  -- an end whose store failed: it got whole first replies, and then that the store failed, or a front of this where its own link
  -- failed too; or the whole head of the next reply, and not all of its body
  abbrev pub IsFailed : Ended → Type 0
  IsFailed end = ServedIn m dataset ending.Failed end.0 end.1
      ⊎ ((0 < end.2) × Stopped m dataset 0 1 LinkFault end.0 end.1)
      ⊎ Stopped m dataset 0 0 StoreFault end.0 end.1

  -- an end amid which memory ran out: it got whole first replies
  abbrev pub RanShort : Ended → Type 0
  RanShort end = Stopped m dataset 0 0 OutOfMemory end.0 end.1

  -- what an end's outcome says of it
  abbrev pub FitsOutcome : Outcome → Ended → Type 0
  FitsOutcome Whole end = IsSound end
  FitsOutcome StoreCut end = IsFailed end
  FitsOutcome MemoryCut end = RanShort end

  -- each end is sound, or, where memory ran out amid some, ran short of it; but for at most so many, whose store failed
  abbrev pub AllSoundBut : Bool → List Ended → ℕ → Type 0
  AllSoundBut short [] k = Unit {0}
  AllSoundBut short (end ∷ ends) k =
      ((IsSound end ⊎ ((short ≡ true) × RanShort end)) × AllSoundBut short ends k)
      ⊎ (IsFailed end × (j : ℕ) × (j + 1 ≡ k) × AllSoundBut short ends j)

-- the same of an end that may not be told
abbrev pub Fits : List (Option Objects) → List ℕ → Outcome → Option (List ℕ) → Option (List ℕ) → ℕ → Type 0
Fits told dataset outcome stream sent faults =
    WhereAllTell told (λ m. (s o : List ℕ) → stream ≡ Some s → sent ≡ Some o →
    FitsOutcome m dataset outcome (s, o, faults))

-- the outcome of a connection, by how it was served and whether the reply was begun that says that the store failed: one that its own
-- link cut is none of the store's, but amid that reply
abbrev pub outcome_of : Result Ending ServeFault → Bool → Outcome
outcome_of (Ok ending.Whole) failing = Whole
outcome_of (Ok ending.Failed) failing = StoreCut
outcome_of (Err LinkFault) false = Whole
outcome_of (Err LinkFault) true = StoreCut
outcome_of (Err StoreFault) failing = StoreCut
outcome_of (Err OutOfMemory) failing = MemoryCut

abbrev pub cut_weight : Outcome → ℕ
cut_weight Whole = 0
cut_weight StoreCut = 1
cut_weight MemoryCut = 0

abbrev pub sets_flag : Outcome → Bool
sets_flag Whole = false
sets_flag StoreCut = false
sets_flag MemoryCut = true

-- what the core of a hall is seen as: its log, what its exit noted, and whether some connection met want of memory
pub record View : Type 0 where
  pub log : List Event
  pub served : Option (List Numbered)
  pub ran_out : Bool

-- what was noted has exactly the numbers that are done, in the log's order; and of the ends at most so many met a fault of their
-- store, while the others are sound, or where the flag says so ran short of memory
pub record IsHall (told : List (Option Objects)) (dataset : List ℕ) (view : View) (cuts : ℕ) : Type 0 where
  pub numbers : IfSome view.served (λ list. numbers_of list ≡ deposited view.log)
  pub each : WhereAllTell told (λ m.
      IfSome view.served (λ list. AllSoundBut m dataset view.ran_out (ends_of list) cuts))

-- what an entrance is seen as: how many ends it gave since it listened, whether an accept failed, and its count of faults
pub record Gone : Type 0 where
  pub given : ℕ
  pub failed : Bool
  pub faults : ℕ

-- what an entrance keeps behind its lock: so many ends were given since it listened, of at most n; its count rose where an accept
-- failed, and then not all were given; else it stands
pub record IsEntered (bound : Option ℕ) (accepted count n : ℕ) (bound_now : Option ℕ) (accepted_now faults : ℕ) (given : ℕ) (failed : Bool) (parts amount : ℕ) : Type 0 where
  pub port : bound_now ≡ bound
  pub ends : accepted_now ≡ accepted + given
  pub later : count ≤ faults
  pub rose : failed ≡ true → Rose count faults
  pub fewer : failed ≡ true → given < n
  pub stands : failed ≡ false → faults ≡ count
  pub whole : parts ≡ 1
  pub counted : amount ≡ given
  pub most : given ≤ n
  pub listens : IsSome bound

-- a store's count rose by at least so many, or is at its end
abbrev pub Paid : ℕ → ℕ → ℕ → Type 0
Paid before now cuts = (most_count ≤ now) ⊎ (before + cuts ≤ now)

-- the same of the counts of several stores, together
abbrev pub PaidBy : List ℕ → List ℕ → ℕ → Type 0
PaidBy before now cuts = Contains now most_count ⊎ (sum before + cuts ≤ sum now)

-- counts in their places: none of them fell
abbrev pub NoneFell : List ℕ → List ℕ → Type 0
NoneFell [] [] = Unit {0}
NoneFell [] (n ∷ now) = ⊥
NoneFell (b ∷ before) [] = ⊥
NoneFell (b ∷ before) (n ∷ now) = (b ≤ n) × NoneFell before now

-- what serving one end leaves of the end and of the store's count
pub record Turned (told : List (Option Objects)) (dataset : List ℕ) (outcome : Outcome) (stream sent : Option (List ℕ)) (faults before now : ℕ) : Type 0 where
  pub fits : Fits told dataset outcome stream sent faults
  pub later : before ≤ now
  pub rose : cut_weight outcome ≡ 1 → Rose before now

-- 1 where an end came back, and how many entries that were cut by the store it stands for
abbrev pub kept_count : Option Outcome → ℕ
kept_count None = 0
kept_count (Some outcome) = 1

abbrev pub kept_weight : Option Outcome → ℕ
kept_weight None = 0
kept_weight (Some outcome) = cut_weight outcome

-- of ends that came back, how many met a fault of their store
abbrev pub owed : List Outcome → ℕ
owed [] = 0
owed (outcome ∷ outcomes) = cut_weight outcome + owed outcomes

-- a seat at the place i, before it serves: it has that number, nothing is out, and it has the store of its place, with a share that
-- counts nothing
pub record IsIdle (told : List (Option Objects)) (drafts : List (Option Draft)) (counts : List ℕ) (i number : ℕ) (job : Option ℕ) (kept : Option Outcome) (objects : Option Objects) (draft : Option Draft) (faults parts amount : ℕ) : Type 0 where
  pub mine : number ≡ i
  pub out : job ≡ None
  pub back : kept ≡ None
  pub tells : TellsAs told objects
  pub store : objects ≡ slice_index_or told i None
  pub writes : draft ≡ slice_index_or drafts i None
  pub stands : faults ≡ slice_index_or counts i 0
  pub part : parts ≡ 1
  pub none : amount ≡ 0

-- the same after it ended: a number is out exactly where an end came back, and the store's count rose by as many as its share and that
-- end stand for
pub record IsRested (told : List (Option Objects)) (drafts : List (Option Draft)) (counts : List ℕ) (i : ℕ) (job : Option ℕ) (kept : Option Outcome) (objects : Option Objects) (draft : Option Draft) (faults parts amount : ℕ) : Type 0 where
  pub out : some_count job ≡ kept_count kept
  pub store : objects ≡ slice_index_or told i None
  pub writes : draft ≡ slice_index_or drafts i None
  pub later : slice_index_or counts i 0 ≤ faults
  pub paid : Paid (slice_index_or counts i 0) faults (amount + kept_weight kept)
  pub part : parts ≡ 1

-- how often a number stands in a list
abbrev pub times : ℕ → List ℕ → ℕ
times number [] = 0
times number (x ∷ xs) = one_if x number + times number xs

-- exactly the numbers below k, each once
abbrev pub HasExactly : ℕ → List ℕ → Type 0
HasExactly k list = (number : ℕ) → times number list ≡ (if nat_lt number k then 1 else 0)

-- how serving ended: want of memory comes first
abbrev pub end_by : Bool → Bool → HallEnd
end_by true failed = ended.OutOfMemory
end_by false true = ended.DoorFault
end_by false false = ended.All

-- how many of n ends were accepted, by how serving ended, while the entrance's count of faults went from one number to another: all; fewer
-- where an accept failed; and where memory ran out all, or none, or fewer where an accept failed too
abbrev pub Accepts : HallEnd → ℕ → ℕ → ℕ → ℕ → Type 0
Accepts ended.All n before now accepted = accepted ≡ n
Accepts ended.DoorFault n before now accepted = accepted < n
Accepts ended.OutOfMemory n before now accepted = (accepted ≡ n) ⊎ (accepted ≡ 0) ⊎ ((accepted < n) × Rose before now)

-- memory ran out, for the hall or amid some connection
abbrev pub is_short : HallEnd → Bool
is_short ended.All = false
is_short ended.DoorFault = false
is_short ended.OutOfMemory = true

-- where all stores tell the same objects: each end that an exit noted got its replies from these, or a front of them where its own
-- link failed, or whole first ones where memory ran out amid it, if it did; but for at most so many, whose store failed, as the counts
-- of the stores rose by together, or one of these is at its end
abbrev pub EachServed : List (Option Objects) → List ℕ → Bool → Option (List Numbered) → List ℕ → List ℕ → Type 0
EachServed told dataset short served before now = WhereAllTell told (λ m. IfSome served (λ list.
    (k : ℕ) × PaidBy before now k × AllSoundBut m dataset short (ends_of list) k))
