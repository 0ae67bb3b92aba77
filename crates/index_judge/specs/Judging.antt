-- What judging an index says (this project's profile). Its rows are those of the precomputed volume format
-- (sharded format, minishard index format).
use Rattle.std.specs.Prelude.{◌≡◌, ℕ, ◌+◌, ◌*◌, ◌≤◌, length, map, ⊤, Option, Some, None, Result, Ok, Err}
use Rattle.std.specs.List.{range_with_len}
use Rattle.vol_base.specs.Outside.{part}
use Rattle.vol_spec.specs.BoxValues.{first_some}
use Rattle.vol_spec.specs.Costs.{rows_cost}
use Rattle.vol_spec.specs.FoundChunks.{index_in, of_shard, rows_in}
use Rattle.vol_spec.specs.Rows.{Columns, judged_row}
use Rattle.vol_spec.specs.Types.{Bytes}
use Rattle.vol_spec.specs.Verdicts.{Wrong, row_wrong, rows_wrong}
use Rattle.vol_spec.specs.Verdicts.Wrong.{Damaged as DamagedBy, Misplaced as MisplacedAt}
use Rattle.vol_spec.specs.declared.sharding.Sharding.{Sharding}
use Rattle.minishard.specs.Walks.{Progress, IsWalked}
use Rattle.shard_reader.specs.declared.bytes.LookupFault.{LookupFault}
use Rattle.shard_reader.specs.declared.bytes.LookupFault.TheVariants.{NotRead as Unread, Faulty}
use Rattle.shard_reader.specs.declared.span.IndexSpan.{IndexSpan}
use Rattle.index_judge.specs.declared.fault.JudgeFault.{JudgeFault}
use Rattle.index_judge.specs.declared.fault.JudgeFault.TheVariants.{NotRead, Damaged, Misplaced}

-- a fault on the way to a chunk, told by a judge
abbrev pub judged_as : LookupFault → JudgeFault
judged_as Unread = NotRead
judged_as (Faulty fault) = Damaged fault

-- what judging answers of what is wrong, where the store didn't fail
abbrev pub Says : {A : Type 0} → Option Wrong → Result A JudgeFault → Type 0
Says wrong (Ok done) = wrong ≡ None
Says wrong (Err (Damaged fault)) = wrong ≡ Some (DamagedBy fault)
Says wrong (Err (Misplaced shard m id)) = wrong ≡ Some (MisplacedAt shard m id)
Says wrong (Err NotRead) = Unit {0}

-- an answer before any row is judged
abbrev pub IsPlaced : {A : Type 0} → Result A JudgeFault → Type 0
IsPlaced (Ok done) = Unit {0}
IsPlaced (Err NotRead) = Unit {0}
IsPlaced (Err (Damaged fault)) = Unit {0}
IsPlaced (Err (Misplaced shard m id)) = ⊥

-- what is wrong with the index of a minishard, in the object of its shard
abbrev pub wrong_in : Option Bytes → Sharding → ℕ → ℕ → Option Wrong
wrong_in None sharding shard m = None
wrong_in (Some object) sharding shard m = rows_wrong object sharding shard m (rows_in object sharding m)

-- the first that is wrong with the first n rows of an index
abbrev pub first_wrong_row : Columns → Sharding → ℕ → ℕ → ℕ → Option Wrong
first_wrong_row c sharding shard m n = first_some
    (map (λ r. row_wrong sharding shard m (judged_row c r)) (range_with_len 0 n))

-- a walk over rows with none of which something is wrong
pub record IsPast (c : Columns) (sharding : Sharding) (shard m : ℕ) (w : Progress) : Type 0 where
  pub walked : IsWalked c w
  pub sound : first_wrong_row c sharding shard m w.rows ≡ None

-- what going on over rows of an index of n says: they are passed, or one of them is the first with which something is wrong
abbrev pub Passes : Columns → Sharding → ℕ → ℕ → ℕ → Result ⊤ JudgeFault → Progress → Type 0
Passes c sharding shard m n (Ok done) w = IsPast c sharding shard m w
Passes c sharding shard m n (Err fault) w = Says {A = ⊤} (first_wrong_row c sharding shard m n) (Err fault)

-- what the entry of a minishard says of an object: where the rows of its index stand
pub record IsOpened (sharding : Sharding) (m : ℕ) (object : Bytes) (at count : ℕ) : Type 0 where
  pub rows : rows_in object sharding m ≡ Ok count
  pub bytes : part object at (24 * count) ≡ index_in object sharding m count
  pub fits : at + 24 * count ≤ length object

-- an answer on the entry of a minishard of an object
abbrev pub Opens : Sharding → ℕ → Option Bytes → Result (Option IndexSpan) JudgeFault → Type 0
Opens sharding m object (Err NotRead) = Unit {0}
Opens sharding m object (Err (Misplaced shard n id)) = ⊥
Opens sharding m None (Ok None) = Unit {0}
Opens sharding m None (Ok (Some span)) = ⊥
Opens sharding m None (Err (Damaged fault)) = ⊥
Opens sharding m (Some object) (Ok None) = ⊥
Opens sharding m (Some object) (Ok (Some span)) = IsOpened sharding m object span.at span.rows
Opens sharding m (Some object) (Err (Damaged fault)) = of_shard (rows_in object sharding m) ≡ Err fault

-- how many bytes judging an index asks for at most: an entry, and the rows where the way leads to them
abbrev pub index_cost : Option Bytes → Sharding → ℕ → ℕ
index_cost None sharding m = 16
index_cost (Some object) sharding m = 16 + rows_cost (rows_in object sharding m)
