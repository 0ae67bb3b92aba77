-- What the laws of updates say (this project's).
use Rattle.std.specs.Prelude.{◌≡◌, ◌≢◌, ◌≤◌, ◌^◌, ◌==◌, ◌&&◌, ℕ, List, length, filter, All, Ok, Some, if◌then◌else◌}
use Rattle.std.specs.FinMap as fin
use Rattle.vol_base.specs.Bytes.{AreBytes}
use Rattle.vol_base.specs.Outside.{HaveBytes, Objects}
use Rattle.vol_spec.specs.Chunks.{chunk_in}
use Rattle.vol_spec.specs.Copies.{copied_raw, is_there}
use Rattle.vol_spec.specs.Cut.{faulty, first_fault}
use Rattle.vol_spec.specs.Encodings.{encoded}
use Rattle.vol_spec.specs.Grid.{IsCell, cell_box, cells_on, numbers_on}
use Rattle.vol_spec.specs.Places.{id_of, shard_of}
use Rattle.vol_spec.specs.StoredBytes.{object_of}
use Rattle.vol_spec.specs.Types.{Bytes, Cell, Name, Writes}
use Rattle.vol_spec.specs.Writable.{IsWritable}
use Rattle.vol_spec.specs.declared.scale.Scale.{Scale}
use Rattle.vol_spec.specs.declared.sharding.Sharding.{Sharding}
use Rattle.update_laws.specs.Kept.{kept}
use Rattle.update_laws.specs.Overlaid.{after_cells, after_raw, is_after, overlaid}

-- writes of bytes over objects of bytes, with which at most 2^22 cells are stored; and of a segmentation no more padded voxels than are
-- written
pub record CanUpdate (m : Objects) (dataset : Name) (s : Scale) (writes : Writes) : Type 0 where
  pub few : length (after_cells m dataset s writes) ≤ 2 ^ 22
  pub writable : IsWritable s
  pub written : All (λ write. AreBytes write.1) writes
  pub held : HaveBytes m

-- each cell that is stored has its values as they are encoded, and each other one is as before
abbrev pub StoresAfter : Objects → Objects → Name → Scale → Writes → Type 0
StoresAfter m now dataset s writes = (cell : Cell) → IsCell s cell → chunk_in now dataset s cell ≡
    (if is_after m dataset s writes cell then Ok (Some (encoded s cell (after_raw m dataset s writes cell)))
    else chunk_in m dataset s cell)

-- the cells that are kept of a shard are those of it of which something is told, in the order of the grid
abbrev pub KeepsThere : Objects → Name → Scale → Sharding → ℕ → Type 0
KeepsThere m dataset s sharding shard = (cells : List Cell) → kept m dataset s sharding shard ≡ Ok cells →
    cells ≡ filter (λ cell. (shard_of sharding (id_of s cell) == shard) && is_there (chunk_in m dataset s cell))
    (numbers_on (cells_on s))

-- writes over the values that are read in a cell's box are what is stored of it
abbrev pub OverlaysRead : Objects → Name → Scale → Writes → Type 0
OverlaysRead m dataset s writes = (cell : Cell) → overlaid s writes cell (copied_raw m dataset s s cell)
    ≡ after_raw m dataset s writes cell

-- the first fault of a cell's box is that of the cell
abbrev pub HasOwnFaults : Objects → Name → Scale → Type 0
HasOwnFaults m dataset s = (cell : Cell) → IsCell s cell → first_fault m dataset s (cell_box s cell) ≡
    faulty m dataset s cell

-- another cell's object says nothing of the values and the faults in a cell's box
pub record IsBeside (m n : Objects) (dataset : Name) (s : Scale) (cell : Cell) : Type 0 where
  pub raw : copied_raw n dataset s s cell ≡ copied_raw m dataset s s cell
  pub fault : first_fault n dataset s (cell_box s cell) ≡ first_fault m dataset s (cell_box s cell)

abbrev pub StaysBeside : Objects → Name → Scale → Type 0
StaysBeside m dataset s = (put cell : Cell) (bytes : Bytes) → IsCell s cell →
    object_of dataset s put ≢ object_of dataset s cell →
    IsBeside m (fin.insert m (object_of dataset s put) bytes) dataset s cell
