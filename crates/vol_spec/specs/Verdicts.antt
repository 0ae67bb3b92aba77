-- Whether all that stands on the way to a cell is sound. That whole indexes are judged, and that a row has to stand in its id's own shard and
-- minishard, is this project's profile.
use Rattle.std.specs.Prelude.{◌≡◌, ℕ, ◌==◌, ◌&&◌, Bool, [], ◌∷◌, map, All, Option, Some, None, Result, Ok, Err, if◌then◌else◌}
use Rattle.std.specs.FinMap as fin
use Rattle.std.specs.List.{range_with_len}
use Rattle.std.specs.Option.{option_map}
use Rattle.vol_base.specs.Outside.{Objects}
use Rattle.vol_base.specs.declared.boxes.Box3.{Box3}
use Rattle.vol_base.specs.declared.faults.Fault.{Fault}
use Rattle.vol_base.specs.declared.faults.Fault.TheVariants.{Index, Shard}
use Rattle.vol_base.specs.declared.faults.IndexFault.{IndexFault}
use Rattle.vol_base.specs.declared.faults.ShardFault.{ShardFault}
use Rattle.vol_spec.specs.Chunks.{fault_in}
use Rattle.vol_spec.specs.BoxValues.{first_some}
use Rattle.vol_spec.specs.FoundChunks.{index_in, rows_in}
use Rattle.vol_spec.specs.Grid.{cells_in}
use Rattle.vol_spec.specs.Places.{id_of, minishard_of, shard_of}
use Rattle.vol_spec.specs.Rows.{columns_of, judged_row}
use Rattle.vol_spec.specs.StoredBytes.{object_of}
use Rattle.vol_spec.specs.Types.{Bytes, Cell, Name}
use Rattle.vol_spec.specs.declared.row.Row.{Row}
use Rattle.vol_spec.specs.declared.scale.Scale.{Scale}
use Rattle.vol_spec.specs.declared.sharding.Sharding.{Sharding}

-- what is wrong: a fault, or a row of an id that belongs into another index than that of this shard and minishard
pub data Wrong : Type 0 where
  Damaged : Fault → Wrong
  Misplaced : (shard minishard id : ℕ) → Wrong

abbrev pub damage : Option Fault → Option Wrong
damage fault = option_map Damaged fault

-- whether an id belongs into an index
abbrev pub belongs : Sharding → ℕ → ℕ → ℕ → Bool
belongs sharding shard m id = (shard_of sharding id == shard) && (minishard_of sharding id == m)

-- what is wrong with a row of the index of a shard and minishard
abbrev pub row_wrong : Sharding → ℕ → ℕ → Result Row IndexFault → Option Wrong
row_wrong sharding shard m (Ok row) = if belongs sharding shard m row.id then None
    else Some (Misplaced shard m row.id)
row_wrong sharding shard m (Err fault) = Some (Damaged (Index fault))

-- with the way to an index and its rows, from the first on
abbrev pub rows_wrong : Bytes → Sharding → ℕ → ℕ → Result ℕ ShardFault → Option Wrong
rows_wrong object sharding shard m (Ok rows) =
    first_some (map (λ r. row_wrong sharding shard m
    (judged_row (columns_of (index_in object sharding m rows)) r)) (range_with_len 0 rows))
rows_wrong object sharding shard m (Err fault) = Some (Damaged (Shard fault))

-- with the index that has the chunk of an id, in the object of its shard
abbrev pub index_wrong : Option Sharding → ℕ → Option Bytes → Option Wrong
index_wrong None id object = None
index_wrong (Some sharding) id None = None
index_wrong (Some sharding) id (Some object) = let m = minishard_of sharding id in
    rows_wrong object sharding (shard_of sharding id) m (rows_in object sharding m)

-- the first that is wrong with a cell: with its index, then with its chunk
unfoldable pub judge : Objects → Name → Scale → Cell → Option Wrong
judge objects dataset s cell =
    first_some (index_wrong s.sharding (id_of s cell) (fin.get objects (object_of dataset s cell))
    ∷ damage (fault_in objects dataset s cell) ∷ [])

-- nothing is wrong with the cells that meet a box
abbrev pub Sound : Objects → Name → Scale → Box3 → Type 0
Sound objects dataset s b = All (λ cell. judge objects dataset s cell ≡ None) (cells_in s b)
