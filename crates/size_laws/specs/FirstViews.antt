-- What a scale of several chunk sizes has in common with its first view (this project's).
use Rattle.std.specs.Prelude.{◌≡◌, ℕ}
use Rattle.vol_base.specs.Outside.{Objects}
use Rattle.vol_base.specs.declared.boxes.Box3.{Box3}
use Rattle.vol_spec.specs.Chunks.{fault_in, value_in}
use Rattle.vol_spec.specs.Cut.{cut, first_fault}
use Rattle.vol_spec.specs.Grid.{cell_box, cells_in}
use Rattle.vol_spec.specs.LastWrite.{Before}
use Rattle.vol_spec.specs.StoredBytes.{object_of}
use Rattle.vol_spec.specs.StoredCells.{chunks_of}
use Rattle.vol_spec.specs.Types.{Cell, Name, Position, Writes}
use Rattle.vol_spec.specs.declared.scale.Scale.{Scale}

-- a scale says what another one says: the same cells meet each box, each with the same box and object; over all objects each cell has the
-- same fault, each position and channel the same value, and each box the same cutout and first fault; and writes meet the same cells, with the
-- same bytes
pub record SaysSame (dataset : Name) (s v : Scale) : Type 0 where
  pub cells : (b : Box3) → cells_in v b ≡ cells_in s b
  pub boxes : (cell : Cell) → cell_box v cell ≡ cell_box s cell
  pub names : (cell : Cell) → object_of dataset v cell ≡ object_of dataset s cell
  pub faults : (m : Objects) (cell : Cell) → fault_in m dataset v cell ≡ fault_in m dataset s cell
  pub values : (m : Objects) (p : Position) (c : ℕ) → value_in m dataset v p c ≡ value_in m dataset s p c
  pub cuts : (m : Objects) (b : Box3) → cut m dataset v b ≡ cut m dataset s b
  pub firsts : (m : Objects) (b : Box3) → first_fault m dataset v b ≡ first_fault m dataset s b
  pub written : (before : Before) (writes : Writes) → chunks_of v before writes ≡ chunks_of s before writes
