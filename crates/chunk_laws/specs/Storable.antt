-- Chunks that can be stored, and objects with them (this project's).
use Rattle.std.specs.Prelude.{◌≡◌, ◌≢◌, ◌^◌, ◌≤◌, false, List, length, map, All, Contains}
use Rattle.vol_base.specs.Outside.{Objects, any_under}
use Rattle.vol_base.specs.Bytes.{AreBytes}
use Rattle.vol_spec.specs.CellNames.{folder_of}
use Rattle.vol_spec.specs.Encodings.{raw_size}
use Rattle.vol_spec.specs.LastWrite.{zeros}
use Rattle.vol_spec.specs.StoredBytes.{object_of}
use Rattle.vol_spec.specs.StoredCells.{AreInOrder, chunks_of, met_cells, put_in}
use Rattle.vol_spec.specs.StoredLists.{stored_list}
use Rattle.vol_spec.specs.Types.{Bytes, Cell, Chunks, Name, Writes}
use Rattle.vol_spec.specs.declared.scale.Scale.{Scale}
use Rattle.vol_spec.specs.Writable.{IsWritable}

-- the bytes of each cell's values
abbrev pub CellBytes : Type 0
CellBytes = Cell → Bytes

-- cells, each with the bytes of its values
abbrev pub with_bytes : CellBytes → List Cell → Chunks
with_bytes raw cells = map (λ cell. (cell, raw cell)) cells

-- distinct cells in the order of the grid, at most 2^22; bytes for each value; and of a segmentation no more padded voxels than are written
pub record AreStorable (s : Scale) (raw : CellBytes) (cells : List Cell) : Type 0 where
  pub order : AreInOrder s cells
  pub lens : All (λ cell. length (raw cell) ≡ raw_size s cell) cells
  pub few : length cells ≤ 2 ^ 22
  pub writable : IsWritable s

-- objects with cells stored in them
abbrev pub stored_in : Objects → Name → Scale → CellBytes → List Cell → Objects
stored_in m dataset s raw cells = put_in m (stored_list dataset s (with_bytes raw cells))

-- none of these cells has the object of another cell
abbrev pub AreElsewhere : Name → Scale → List Cell → Cell → Type 0
AreElsewhere dataset s cells cell = All (λ c. object_of dataset s c ≢ object_of dataset s cell) cells

-- one of them has
abbrev pub IsBeside : Name → Scale → List Cell → Cell → Type 0
IsBeside dataset s cells cell = (c : Cell) × Contains cells c ×
    (object_of dataset s c ≡ object_of dataset s cell)

-- Writes that meet at most 2^22 cells, of bytes; of a segmentation no more padded voxels than are written; and no object in the scale's folder
pub record AreWritable (m : Objects) (dataset : Name) (s : Scale) (writes : Writes) : Type 0 where
  pub few : length (met_cells s writes) ≤ 2 ^ 22
  pub writable : IsWritable s
  pub bytes : All (λ write. AreBytes write.1) writes
  pub empty : any_under m (folder_of dataset s) ≡ false

-- objects with the chunks of writes stored in them
abbrev pub written_in : Objects → Name → Scale → Writes → Objects
written_in m dataset s writes = put_in m (stored_list dataset s (chunks_of s zeros writes))
