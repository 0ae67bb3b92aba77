-- What reading a shard answers (this project's).
use Rattle.std.specs.Prelude.{◌≡◌, ℕ, ◌+◌, ◌*◌, ◌<◌, ◌≤◌, length, take, drop, Option, None, Some, Result, Ok, Err, Bool, false, true, nat_le, nat_lt, ◌==◌, ◌||◌, ◌&&◌, if◌then◌else◌}
use Rattle.std.specs.FinMap as map
use Rattle.vol_base.specs.Outside.{Objects, part}
use Rattle.vol_base.specs.declared.faults.IndexFault.{IndexFault}
use Rattle.vol_base.specs.declared.outside.Failed.{Failed}
use Rattle.vol_spec.specs.FoundChunks.{found, index_in, of_index, of_shard, rows_in}
use Rattle.vol_spec.specs.Costs.{rows_cost, span_cost}
use Rattle.vol_spec.specs.Places.{minishard_of}
use Rattle.vol_spec.specs.StoredBytes.{spanned}
use Rattle.vol_spec.specs.Types.{Bytes, Name}
use Rattle.vol_spec.specs.declared.sharding.Sharding.{Sharding}
use Rattle.vol_spec.specs.declared.span.ChunkSpan.{ChunkSpan}
use Rattle.shard_reader.specs.declared.opened.OpenedIndex.{OpenedIndex}
use Rattle.vol_spec.specs.Rows.{Columns, columns_of, find_in, stops, number_at}
use Rattle.minishard.specs.Walks.{Progress, IsWalked, IsStored}
use Rattle.vol_base.specs.declared.faults.Fault.{Fault}
use Rattle.shard_reader.specs.declared.bytes.LookupFault.{LookupFault}
use Rattle.shard_reader.specs.declared.bytes.LookupFault.TheVariants.{NotRead, Faulty}
use Rattle.shard_reader.specs.declared.scan.Seen.{Seen}
use Rattle.shard_reader.specs.declared.scan.Seen.TheVariants.{Answer, Nothing}

-- why a call of a store failed: the one value there is
abbrev pub failure : Failed
failure = record {}

-- an object of a source, where the source tells that it is there
abbrev pub told_object : Option Objects → Name → Option Bytes
told_object None name = None
told_object (Some m) name = map.get m name

-- of an object, where the source tells that it is there
abbrev pub OnObject : Option Objects → Name → (Bytes → Type 0) → Type 0
OnObject objects name P = (object : Bytes) → told_object objects name ≡ Some object → P object

-- of the bytes of so many rows, where the source tells them
abbrev pub OnIndex : Option Objects → Name → ℕ → ℕ → (Bytes → Type 0) → Type 0
OnIndex objects name at rows P = (object : Bytes) → told_object objects name ≡ Some object →
    at + 24 * rows ≤ length object → P (part object at (24 * rows))

-- the front of some bytes holds n numbers of an index, from the k-th on
abbrev pub HoldsNumbers : ℕ → ℕ → Bytes → Bytes → Type 0
HoldsNumbers k n out index = (i : ℕ) → i < n → number_at out i ≡ number_at index (k + i)

-- three columns hold the numbers of n rows, from row `first` on
abbrev pub Holds : Columns → ℕ → ℕ → Bytes → Bytes → Bytes → Type 0
Holds c first n ids starts sizes = (i : ℕ) → i < n →
    IsStored c (first + i) (number_at ids i) (number_at starts i) (number_at sizes i)

-- The walk has come to where a look-up of an id goes on: it hasn't stopped before, nor would that of a higher id.
pub record IsAt (c : Columns) (w : Progress) (wanted : ℕ) : Type 0 where
  pub walked : IsWalked c w
  pub passed : (higher k : ℕ) → w.id < higher → k < w.rows → stops c higher k ≡ false
  pub below : 0 < w.rows → w.id < wanted

-- what going over some rows says of a look-up
abbrev pub Sees : Columns → ℕ → Result Seen IndexFault → Progress → Type 0
Sees c wanted (Ok (Answer row)) w = find_in c wanted ≡ Ok row
Sees c wanted (Ok Nothing) w = IsAt c w wanted
Sees c wanted (Err fault) w = find_in c wanted ≡ Err fault

-- an answer is what the objects say, where the store didn't fail
abbrev pub Answers : {A : Type 0} → Result A Fault → Result A LookupFault → Type 0
Answers wanted (Ok x) = wanted ≡ Ok x
Answers wanted (Err (Faulty fault)) = wanted ≡ Err fault
Answers wanted (Err NotRead) = Unit {0}

-- a look-up of an id may go on behind a walk
abbrev pub resumes : Progress → ℕ → Bool
resumes w wanted = (w.rows == 0) || nat_lt w.id wanted

-- rows that are kept serve a look-up in an index of so many rows
abbrev pub serves : Progress → ℕ → ℕ → ℕ → Bool
serves w count rows wanted = nat_le (w.rows + count) rows && resumes w wanted

-- from which row on a look-up in an index of so many rows reads it, with rows that are kept
abbrev pub resumed : Progress → ℕ → ℕ → ℕ → ℕ
resumed w count rows wanted = if serves w count rows wanted then w.rows + count else 0

-- the row at which a look-up of an id ends
pub record EndsAt (c : Columns) (wanted r : ℕ) : Type 0 where
  pub here : stops c wanted r ≡ true
  pub before : (k : ℕ) → k < r → stops c wanted k ≡ false

-- it ends at one of n rows, from row `first` on
pub record EndsIn (c : Columns) (wanted first n : ℕ) : Type 0 where
  pub row : ℕ
  pub from : first ≤ row
  pub to : row < first + n
  pub ends : EndsAt c wanted row

-- it ends at one of some rows where going over them gives an answer
abbrev pub EndsSeen : {E : Type 0} → Columns → ℕ → Result Seen E → ℕ → ℕ → Type 0
EndsSeen c wanted (Ok (Answer row)) first n = EndsIn c wanted first n
EndsSeen c wanted (Ok Nothing) first n = Unit {0}
EndsSeen c wanted (Err fault) first n = Unit {0}

-- where the starts and the sizes begin in the three columns of a window, of 1,024 numbers each
unfoldable pub starts_of : Bytes → Bytes
starts_of columns = drop 8192 columns

unfoldable pub sizes_of : Bytes → Bytes
sizes_of columns = drop 16384 columns

-- columns that hold so many rows of an index, behind a walk over it
pub record IsWindow (w : Progress) (count : ℕ) (columns bytes : Bytes) : Type 0 where
  pub walked : IsWalked (columns_of bytes) w
  pub passed : (higher k : ℕ) → w.id < higher → k < w.rows → stops (columns_of bytes) higher k ≡ false
  pub holds : Holds (columns_of bytes) w.rows count columns (starts_of columns) (sizes_of columns)

-- the same where a fault is one on the way to a chunk
abbrev pub Tells : Columns → ℕ → Result Seen LookupFault → Progress → Type 0
Tells c wanted (Ok (Answer row)) w = find_in c wanted ≡ Ok row
Tells c wanted (Ok Nothing) w = IsAt c w wanted
Tells c wanted (Err (Faulty fault)) w = of_index (find_in c wanted) ≡ Err fault
Tells c wanted (Err NotRead) w = Unit {0}

-- what the entry of a minishard says of an object: where the rows of its index stand
pub record IsOpened (sharding : Sharding) (m : ℕ) (object : Bytes) (object_len at count : ℕ) : Type 0 where
  pub len : object_len ≡ length object
  pub rows : rows_in object sharding m ≡ Ok count
  pub bytes : part object at (24 * count) ≡ index_in object sharding m count
  pub fits : at + 24 * count ≤ length object

-- an answer on the entry of a minishard of an object
abbrev pub Opens : Sharding → ℕ → Option Bytes → Result (Option OpenedIndex) LookupFault → Type 0
Opens sharding m object (Err NotRead) = Unit {0}
Opens sharding m None (Ok None) = Unit {0}
Opens sharding m None (Ok (Some opened)) = ⊥
Opens sharding m None (Err (Faulty fault)) = ⊥
Opens sharding m (Some object) (Ok None) = ⊥
Opens sharding m (Some object) (Ok (Some opened)) =
    IsOpened sharding m object opened.len opened.index.at opened.index.rows
Opens sharding m (Some object) (Err (Faulty fault)) = of_shard (rows_in object sharding m) ≡ Err fault

-- where an object has the chunk of an id
abbrev pub found_of : Option Bytes → Sharding → ℕ → ℕ → Result (Option ChunkSpan) Fault
found_of None sharding limit id = Ok None
found_of (Some object) sharding limit id = found object sharding limit id

-- the bytes that a look-up asks for at most: an entry, and the rows of the index behind it
abbrev pub cost_of : Option Bytes → Sharding → ℕ → ℕ
cost_of None sharding id = 16
cost_of (Some object) sharding id = 16 + rows_cost (rows_in object sharding (minishard_of sharding id))

-- the bytes that an object has of the chunk of an id
abbrev pub chunk_bytes : Option Bytes → Sharding → ℕ → ℕ → Result (Option Bytes) Fault
chunk_bytes None sharding limit id = Ok None
chunk_bytes (Some object) sharding limit id = spanned object (found object sharding limit id)

-- what reading a chunk answers: that it is absent, how many bytes at the front of a buffer it has, or a fault
abbrev pub Gets : Result (Option ℕ) LookupFault → Bytes → Result (Option Bytes) Fault → Type 0
Gets (Ok None) buffer seen = seen ≡ Ok None
Gets (Ok (Some n)) buffer seen = seen ≡ Ok (Some (take n buffer))
Gets (Err (Faulty fault)) buffer seen = seen ≡ Err fault
Gets (Err NotRead) buffer seen = Unit {0}

-- the bytes that reading a chunk asks for at most
abbrev pub chunk_cost : Option Bytes → Sharding → ℕ → ℕ → ℕ
chunk_cost object sharding limit id = cost_of object sharding id
    + span_cost (found_of object sharding limit id)
