-- What keeping the cells of a shard says (this project's profile).
use Rattle.std.specs.Prelude.{◌≡◌, ℕ, ◌==◌, ◌&&◌, ◌||◌, Bool, true, false, map, ⊤, Option, Some, None, Result, Ok, Err}
use Rattle.std.specs.List.{list_any, range_with_len}
use Rattle.std.specs.Option.{option_map}
use Rattle.vol_base.specs.Outside.{Objects}
use Rattle.vol_base.specs.declared.faults.Fault.{Fault}
use Rattle.vol_spec.specs.BoxValues.{first_some}
use Rattle.vol_spec.specs.FoundChunks.{rows_in}
use Rattle.vol_spec.specs.Grid.{IsCell}
use Rattle.vol_spec.specs.Places.{id_of, minishard_of, shard_of}
use Rattle.vol_spec.specs.StoredCells.{met}
use Rattle.vol_spec.specs.Types.{Bytes, Cell, Name, Writes}
use Rattle.vol_spec.specs.Verdicts.{belongs}
use Rattle.vol_spec.specs.declared.scale.Scale.{Scale}
use Rattle.vol_spec.specs.declared.sharding.Sharding.{Sharding}
use Rattle.chunk_laws.specs.Told.{is_listed}
use Rattle.update_laws.specs.Judged.{kept_cells}
use Rattle.update_laws.specs.Kept.{kept, minishard_fault, row_behind}
use Rattle.cell_lists.specs.Counted.{Counts, CountsBut}
use Rattle.cell_lists.specs.declared.found.FoundCells.{FoundCells}
use Rattle.shard_keeper.specs.declared.fault.KeepFault.{KeepFault}
use Rattle.shard_keeper.specs.declared.fault.KeepFault.TheVariants as keeps
use Rattle.kept_cells.specs.declared.fault.ShardRefusal.{ShardRefusal}
use Rattle.kept_cells.specs.declared.fault.ShardRefusal.TheVariants as refusals

-- whether an id belongs into the index of a shard and minishard, and stands in a row of it
abbrev pub stands_at : Bytes → Sharding → ℕ → ℕ → ℕ → Bool
stands_at object sharding shard m id = belongs sharding shard m id && row_behind object sharding m id (rows_in object sharding m)

-- of the cells of an index, or of a shard, only those pass a test that some write meets
abbrev pub IsFreeAt : Scale → Sharding → Writes → ℕ → ℕ → (Cell → Bool) → Type 0
IsFreeAt s sharding writes shard m test = (cell : Cell) → IsCell s cell →
    belongs sharding shard m (id_of s cell) ≡ true → test cell ≡ met s writes cell

abbrev pub IsFree : Scale → Sharding → Writes → ℕ → (Cell → Bool) → Type 0
IsFree s sharding writes shard test = (cell : Cell) → IsCell s cell →
    shard_of sharding (id_of s cell) ≡ shard → test cell ≡ met s writes cell

-- whatever a store tells, only cells of an index, or of a shard, are counted anew
abbrev pub CountsOfIndex : Scale → Sharding → Writes → ℕ → ℕ → FoundCells → FoundCells → Type 0
CountsOfIndex s sharding writes shard m old new = (test : Cell → Bool) → Counts s test old →
    IsFreeAt s sharding writes shard m test →
    CountsBut s test (λ cell. belongs sharding shard m (id_of s cell)) new

abbrev pub CountsOfShard : Scale → Sharding → Writes → ℕ → FoundCells → FoundCells → Type 0
CountsOfShard s sharding writes shard old new = (test : Cell → Bool) → Counts s test old →
    IsFree s sharding writes shard test →
    CountsBut s test (λ cell. shard_of sharding (id_of s cell) == shard) new

-- no cell more
abbrev pub StaysCounted : Scale → FoundCells → FoundCells → Type 0
StaysCounted s old new = (test : Cell → Bool) → Counts s test old → Counts s test new

-- the cells of an index without a fault
pub record CountsIndex (object : Bytes) (s : Scale) (sharding : Sharding) (writes : Writes) (shard m : ℕ) (old new : FoundCells) : Type 0 where
  pub sound : minishard_fault object sharding m ≡ None
  pub counted : (test : Cell → Bool) → Counts s test old → IsFreeAt s sharding writes shard m test →
      Counts s (λ cell. test cell || stands_at object sharding shard m (id_of s cell)) new

-- an answer on a minishard of a shard: whether there is such an object
abbrev pub CountsBy : Option Bytes → Scale → Sharding → Writes → ℕ → ℕ → Result Bool KeepFault → FoundCells → FoundCells → Type 0
CountsBy object s sharding writes shard m (Err keeps.NotRead) old new = Unit {0}
CountsBy object s sharding writes shard m (Err keeps.OutOfMemory) old new = Unit {0}
CountsBy None s sharding writes shard m (Ok true) old new = ⊥
CountsBy None s sharding writes shard m (Ok false) old new = StaysCounted s old new
CountsBy None s sharding writes shard m (Err (keeps.Damaged fault)) old new = ⊥
CountsBy (Some object) s sharding writes shard m (Ok true) old new = CountsIndex object s sharding writes shard m old new
CountsBy (Some object) s sharding writes shard m (Ok false) old new = ⊥
CountsBy (Some object) s sharding writes shard m (Err (keeps.Damaged fault)) old new = minishard_fault object sharding m ≡ Some fault

-- the fault of a minishard with its number, and the first one of the first n minishards
abbrev pub with_number : ℕ → Option Fault → Option (ℕ × Fault)
with_number m fault = option_map (λ fault. (m, fault)) fault

abbrev pub numbered : Bytes → Sharding → ℕ → Option (ℕ × Fault)
numbered object sharding m = with_number m (minishard_fault object sharding m)

abbrev pub fault_below : Bytes → Sharding → ℕ → Option (ℕ × Fault)
fault_below object sharding n = first_some (map (numbered object sharding) (range_with_len 0 n))

-- whether an id stands in a row of its place, and this is one of the first n minishards of a shard
abbrev pub stands_below : Bytes → Sharding → ℕ → ℕ → ℕ → Bool
stands_below object sharding shard n id = (shard_of sharding id == shard) && list_any (λ m.
    (minishard_of sharding id == m) && row_behind object sharding m id (rows_in object sharding m)) (range_with_len 0 n)

-- the cells of the first n minishards of a shard
pub record CountsBelow (object : Bytes) (s : Scale) (sharding : Sharding) (writes : Writes) (shard n : ℕ) (old new : FoundCells) : Type 0 where
  pub sound : fault_below object sharding n ≡ None
  pub counted : (test : Cell → Bool) → Counts s test old → IsFree s sharding writes shard test →
      Counts s (λ cell. test cell || stands_below object sharding shard n (id_of s cell)) new

abbrev pub CountsSome : Option Bytes → Scale → Sharding → Writes → ℕ → ℕ → FoundCells → FoundCells → Type 0
CountsSome None s sharding writes shard n old new = StaysCounted s old new
CountsSome (Some object) s sharding writes shard n old new = CountsBelow object s sharding writes shard n old new

-- the cells that are kept of a shard
pub record CountsKept (m : Objects) (dataset : Name) (s : Scale) (sharding : Sharding) (writes : Writes) (shard : ℕ) (old new : FoundCells) : Type 0 where
  pub sound : kept m dataset s sharding shard ≡ Ok (kept_cells m dataset s sharding shard)
  pub counted : (test : Cell → Bool) → Counts s test old → IsFree s sharding writes shard test →
      Counts s (λ cell. test cell || is_listed (kept_cells m dataset s sharding shard) cell) new

abbrev pub KeepsCells : Objects → Name → Scale → Sharding → Writes → ℕ → Result ⊤ ShardRefusal → FoundCells → FoundCells → Type 0
KeepsCells m dataset s sharding writes shard (Ok done) old new = CountsKept m dataset s sharding writes shard old new
KeepsCells m dataset s sharding writes shard (Err refusals.NotRead) old new = Unit {0}
KeepsCells m dataset s sharding writes shard (Err refusals.OutOfMemory) old new = Unit {0}
KeepsCells m dataset s sharding writes shard (Err (refusals.Damaged minishard fault)) old new =
    kept m dataset s sharding shard ≡ Err (minishard, fault)

-- a fault of a minishard as that of its shard
abbrev pub refused_by : ℕ → KeepFault → ShardRefusal
refused_by m keeps.NotRead = refusals.NotRead
refused_by m keeps.OutOfMemory = refusals.OutOfMemory
refused_by m (keeps.Damaged fault) = refusals.Damaged m fault
