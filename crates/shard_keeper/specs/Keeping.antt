-- What keeping the ids of an index says (this project's profile). Its rows are those of the precomputed volume format
-- (sharded format, minishard index format).
use Rattle.std.specs.Prelude.{◌≡◌, ◌<◌, ◌≤◌, ◌++◌, ℕ, Bool, true, false, List, [], All, AllPairs, filter, map, ⊤, Option, Some, None, Result, Ok, Err}
use Rattle.std.specs.List.{range_with_len}
use Rattle.vol_base.specs.declared.faults.ShardFault.{ShardFault}
use Rattle.vol_spec.specs.FoundChunks.{index_in, rows_in}
use Rattle.vol_spec.specs.Rows.{Columns, columns_of, id_at}
use Rattle.vol_spec.specs.Types.{Bytes}
use Rattle.vol_spec.specs.Verdicts.{belongs}
use Rattle.vol_spec.specs.declared.sharding.Sharding.{Sharding}
use Rattle.minishard.specs.Walks.{Progress, IsWalked}
use Rattle.update_laws.specs.Kept.{minishard_fault, rows_fault}
use Rattle.shard_keeper.specs.declared.fault.KeepFault.{KeepFault}
use Rattle.shard_keeper.specs.declared.fault.KeepFault.TheVariants.{NotRead, OutOfMemory, Damaged}

-- the ids of the first n rows that belong into the index of a shard and minishard
abbrev pub home_ids : Columns → Sharding → ℕ → ℕ → ℕ → List ℕ
home_ids c sharding shard m n = filter (belongs sharding shard m) (map (id_at c) (range_with_len 0 n))

-- a walk over rows without a fault, whose ids were put behind some first ones where they belong there
pub record HasKept (c : Columns) (sharding : Sharding) (shard m : ℕ) (first : List ℕ) (w : Progress) (ids : List ℕ) : Type 0 where
  pub walked : IsWalked c w
  pub sound : rows_fault c w.rows ≡ None
  pub behind : ids ≡ first ++ home_ids c sharding shard m w.rows

-- ids that were put behind some first ones, as far as a walk has come, whatever a store tells: they ascend, belong there, and none is above
-- the last row's
pub record HasAdded (sharding : Sharding) (shard m : ℕ) (first : List ℕ) (w : Progress) (ids : List ℕ) : Type 0 where
  pub added : List ℕ
  pub behind : ids ≡ first ++ added
  pub rising : AllPairs (λ a b. a < b) added
  pub home : All (λ id. belongs sharding shard m id ≡ true) added
  pub below : All (λ id. id ≤ w.id) added
  pub begun : w.rows ≡ 0 → (added ≡ []) × (w.id ≡ 0) × (w.end ≡ 0)

-- ascending ids that belong into an index were put behind some first ones
pub record Adds (sharding : Sharding) (shard m : ℕ) (first ids : List ℕ) : Type 0 where
  pub added : List ℕ
  pub behind : ids ≡ first ++ added
  pub rising : AllPairs (λ a b. a < b) added
  pub home : All (λ id. belongs sharding shard m id ≡ true) added

-- what going on over rows of an index of n says: they are passed, or one of them has the first fault
abbrev pub Keeps : Columns → Sharding → ℕ → ℕ → List ℕ → ℕ → Result ⊤ KeepFault → Progress → List ℕ → Type 0
Keeps c sharding shard m first n (Ok done) w ids = HasKept c sharding shard m first w ids
Keeps c sharding shard m first n (Err (Damaged fault)) w ids = rows_fault c n ≡ Some fault
Keeps c sharding shard m first n (Err NotRead) w ids = Unit {0}
Keeps c sharding shard m first n (Err OutOfMemory) w ids = Unit {0}

-- what going over all n rows of an index says
pub record KeepsAll (c : Columns) (sharding : Sharding) (shard m : ℕ) (first : List ℕ) (n : ℕ) (ids : List ℕ) : Type 0 where
  pub sound : rows_fault c n ≡ None
  pub behind : ids ≡ first ++ home_ids c sharding shard m n

abbrev pub KeepsRows : Columns → Sharding → ℕ → ℕ → List ℕ → ℕ → Result ⊤ KeepFault → List ℕ → Type 0
KeepsRows c sharding shard m first n (Ok done) ids = KeepsAll c sharding shard m first n ids
KeepsRows c sharding shard m first n (Err (Damaged fault)) ids = rows_fault c n ≡ Some fault
KeepsRows c sharding shard m first n (Err NotRead) ids = Unit {0}
KeepsRows c sharding shard m first n (Err OutOfMemory) ids = Unit {0}

-- the ids that are kept of an index
abbrev pub ids_behind : Bytes → Sharding → ℕ → ℕ → Result ℕ ShardFault → List ℕ
ids_behind object sharding shard m (Ok rows) = home_ids (columns_of (index_in object sharding m rows)) sharding shard m rows
ids_behind object sharding shard m (Err fault) = []

abbrev pub index_ids : Bytes → Sharding → ℕ → ℕ → List ℕ
index_ids object sharding shard m = ids_behind object sharding shard m (rows_in object sharding m)

-- an index without a fault, whose ids were put behind some first ones where they belong there
pub record KeepsOf (object : Bytes) (sharding : Sharding) (shard m : ℕ) (first ids : List ℕ) : Type 0 where
  pub sound : minishard_fault object sharding m ≡ None
  pub behind : ids ≡ first ++ index_ids object sharding shard m

-- an answer on the index of a minishard of a shard: whether there is such an object
abbrev pub KeepsIndex : Option Bytes → Sharding → ℕ → ℕ → List ℕ → Result Bool KeepFault → List ℕ → Type 0
KeepsIndex object sharding shard m first (Err NotRead) ids = Unit {0}
KeepsIndex object sharding shard m first (Err OutOfMemory) ids = Unit {0}
KeepsIndex None sharding shard m first (Ok true) ids = ⊥
KeepsIndex None sharding shard m first (Ok false) ids = ids ≡ first
KeepsIndex None sharding shard m first (Err (Damaged fault)) ids = ⊥
KeepsIndex (Some object) sharding shard m first (Ok true) ids = KeepsOf object sharding shard m first ids
KeepsIndex (Some object) sharding shard m first (Ok false) ids = ⊥
KeepsIndex (Some object) sharding shard m first (Err (Damaged fault)) ids = minishard_fault object sharding m ≡ Some fault
