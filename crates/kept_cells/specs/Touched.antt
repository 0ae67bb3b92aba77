-- What keeping the cells of all shards that are written anew says (this project's profile).
use Rattle.std.specs.Prelude.{◌≡◌, ◌<◌, ◌≤◌, ◌^◌, ◌||◌, ℕ, Bool, List, map, take, ⊤, Some, None, Result, Ok, Err}
use Rattle.std.specs.List.{list_any, range_with_len}
use Rattle.vol_base.specs.Outside.{Objects}
use Rattle.vol_spec.specs.BoxValues.{first_some}
use Rattle.vol_spec.specs.StoredCells.{met}
use Rattle.vol_spec.specs.Types.{Cell, Name, Writes}
use Rattle.vol_spec.specs.declared.scale.Scale.{Scale}
use Rattle.vol_spec.specs.declared.sharding.Sharding.{Sharding}
use Rattle.chunk_laws.specs.Told.{is_listed}
use Rattle.update_laws.specs.Judged.{kept_cells, refusal_at, refusal_by, touched_shards}
use Rattle.update_laws.specs.Judged.Refusal.{BadShard as BadShardOf, TooManyCells as TooManyOf}
use Rattle.update_laws.specs.Kept.{kept}
use Rattle.cell_lists.specs.Counted.{Counts}
use Rattle.cell_lists.specs.declared.found.FoundCells.{FoundCells}
use Rattle.kept_cells.specs.KeptCells.{CountsKept}
use Rattle.kept_cells.specs.declared.fault.ShardRefusal.{ShardRefusal}
use Rattle.kept_cells.specs.declared.fault.ShardRefusal.TheVariants as refusals
use Rattle.kept_cells.specs.declared.fault.KeepRefusal.{KeepRefusal}
use Rattle.kept_cells.specs.declared.fault.KeepRefusal.TheVariants.{NotRead, OutOfMemory, BadShard, TooManyCells}

-- whether some write meets a cell, or it is kept of one of some shards
abbrev pub is_with : Objects → Name → Scale → Sharding → Writes → List ℕ → Cell → Bool
is_with m dataset s sharding writes shards cell = met s writes cell
    || list_any (λ n. is_listed (kept_cells m dataset s sharding n) cell) shards

-- a refusal of a shard
abbrev pub refused_at : ℕ → ShardRefusal → KeepRefusal
refused_at shard refusals.NotRead = NotRead
refused_at shard refusals.OutOfMemory = OutOfMemory
refused_at shard (refusals.Damaged minishard fault) = BadShard shard minishard fault

-- a shard without a fault, and how many cells there are then
pub record CountsFew (m : Objects) (dataset : Name) (s : Scale) (sharding : Sharding) (writes : Writes) (shard : ℕ) (old new : FoundCells) : Type 0 where
  pub kept : CountsKept m dataset s sharding writes shard old new
  pub few : new.count ≤ 2 ^ 22

pub record CountsMany (m : Objects) (dataset : Name) (s : Scale) (sharding : Sharding) (writes : Writes) (shard : ℕ) (old new : FoundCells) (cells : ℕ) : Type 0 where
  pub kept : CountsKept m dataset s sharding writes shard old new
  pub many : 2 ^ 22 < new.count
  pub told : cells ≡ new.count

abbrev pub JudgesShard : Objects → Name → Scale → Sharding → Writes → ℕ → Result ⊤ KeepRefusal → FoundCells → FoundCells → Type 0
JudgesShard m dataset s sharding writes shard (Ok done) old new = CountsFew m dataset s sharding writes shard old new
JudgesShard m dataset s sharding writes shard (Err NotRead) old new = Unit {0}
JudgesShard m dataset s sharding writes shard (Err OutOfMemory) old new = Unit {0}
JudgesShard m dataset s sharding writes shard (Err (BadShard n minishard fault)) old new =
    (n ≡ shard) × (kept m dataset s sharding shard ≡ Err (minishard, fault))
JudgesShard m dataset s sharding writes shard (Err (TooManyCells cells)) old new = CountsMany m dataset s sharding writes shard old new cells

-- the first k shards are judged, and nothing is refused
pub record CountsWith (m : Objects) (dataset : Name) (s : Scale) (sharding : Sharding) (writes : Writes) (k : ℕ) (found : FoundCells) : Type 0 where
  pub sound : first_some (map (refusal_at m dataset s sharding writes) (range_with_len 0 k)) ≡ None
  pub counted : Counts s (is_with m dataset s sharding writes (take k (touched_shards s sharding writes))) found

-- all of them
pub record CountsAll (m : Objects) (dataset : Name) (s : Scale) (sharding : Sharding) (writes : Writes) (found : FoundCells) : Type 0 where
  pub sound : refusal_by (Some sharding) m dataset s writes ≡ None
  pub counted : Counts s (is_with m dataset s sharding writes (touched_shards s sharding writes)) found

abbrev pub JudgesTouched : Objects → Name → Scale → Sharding → Writes → Result ⊤ KeepRefusal → FoundCells → Type 0
JudgesTouched m dataset s sharding writes (Ok done) found = CountsAll m dataset s sharding writes found
JudgesTouched m dataset s sharding writes (Err NotRead) found = Unit {0}
JudgesTouched m dataset s sharding writes (Err OutOfMemory) found = Unit {0}
JudgesTouched m dataset s sharding writes (Err (BadShard shard minishard fault)) found =
    refusal_by (Some sharding) m dataset s writes ≡ Some (BadShardOf shard minishard fault)
JudgesTouched m dataset s sharding writes (Err (TooManyCells cells)) found =
    refusal_by (Some sharding) m dataset s writes ≡ Some (TooManyOf cells)
