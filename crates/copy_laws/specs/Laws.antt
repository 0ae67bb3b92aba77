-- What the laws of copies say (this project's).
use Rattle.std.specs.Prelude.{◌≡◌, ◌↔◌, ◌≤◌, ◌^◌, [], false, length, map, All, None}
use Rattle.std.specs.FinMap as fin
use Rattle.vol_base.specs.Outside.{HaveBytes, Objects, any_under}
use Rattle.vol_spec.specs.CellNames.{folder_of}
use Rattle.vol_spec.specs.Copies.{AreOfOneVolume, cells_there, copied_cells, copied_raw}
use Rattle.vol_spec.specs.Cut.{cut, first_fault}
use Rattle.vol_spec.specs.Grid.{IsCell, cell_box}
use Rattle.vol_spec.specs.StoredBytes.{object_of}
use Rattle.vol_spec.specs.StoredCells.{met_cells}
use Rattle.vol_spec.specs.Types.{Bytes, Cell, Name}
use Rattle.vol_spec.specs.Writable.{IsWritable}
use Rattle.vol_spec.specs.declared.scale.Scale.{Scale}
use Rattle.chunk_laws.specs.Told.{HasNoFault}
use Rattle.copy_laws.specs.Agreement.{Agree}

-- A copy can be stored: both scales are of one volume, it has at most 2^22 cells, a segmentation has no more padded voxels than are written,
-- no object is in the target's folder, and all objects are bytes.
pub record CanCopy (m : Objects) (from_dataset : Name) (from : Scale) (to_dataset : Name)
    (to : Scale) : Type 0 where
  pub volume : AreOfOneVolume from to
  pub few : length (copied_cells m from_dataset from to) ≤ 2 ^ 22
  pub writable : IsWritable to
  pub empty : any_under m (folder_of to_dataset to) ≡ false
  pub bytes : HaveBytes m

-- a cell whose box meets no faulty cell of the source is cut out of it as it is copied
abbrev pub CutsAsCopied : Objects → Name → Scale → Scale → Type 0
CutsAsCopied m dataset from to =
    (cell : Cell) → IsCell to cell → first_fault m dataset from (cell_box to cell) ≡ None
    → cut m dataset from (cell_box to cell) ≡ copied_raw m dataset from to cell

-- no cell that is copied meets a faulty one, exactly where the source has none
abbrev pub MeetsFaults : Objects → Name → Scale → Scale → Type 0
MeetsFaults m dataset from to =
    All (λ cell. first_fault m dataset from (cell_box to cell) ≡ None) (copied_cells m dataset from to) ↔
    HasNoFault m dataset from

-- what is copied are the cells that the boxes of the source's cells would meet as writes
abbrev pub AreMet : Objects → Name → Scale → Scale → Type 0
AreMet m dataset from to =
    copied_cells m dataset from to ≡ met_cells to (map (λ source.
    (cell_box from source, [])) (cells_there m dataset from))

-- an object of the other scale says nothing of this one
abbrev pub StaysBeside : Objects → Name → Scale → Name → Scale → Type 0
StaysBeside m dataset s other t = (cell : Cell) (bytes : Bytes) →
    Agree dataset s (fin.insert m (object_of other t cell) bytes) m
