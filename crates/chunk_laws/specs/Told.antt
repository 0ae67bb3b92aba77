-- What objects say, once chunks are stored in them (this project's).
use Rattle.std.specs.Prelude.{◌≡◌, ◌<◌, ℕ, Bool, List, Ok, None}
use Rattle.vol_base.specs.Boxes.{Covers}
use Rattle.std.specs.List.{list_any}
use Rattle.std.specs.Str.{bytes_eq}
use Rattle.vol_base.specs.Outside.{Objects}
use Rattle.vol_base.specs.declared.boxes.Box3.{Box3}
use Rattle.vol_spec.specs.Chunks.{fault_in, value_in}
use Rattle.vol_spec.specs.Cut.{cut, first_fault}
use Rattle.vol_spec.specs.Grid.{IsCell, whole}
use Rattle.vol_spec.specs.LastWrite.{last, zeros}
use Rattle.vol_spec.specs.StoredBytes.{object_of}
use Rattle.vol_spec.specs.StoredCells.{raw_bytes}
use Rattle.vol_spec.specs.Types.{Cell, Name, Position, Writes}
use Rattle.vol_spec.specs.Verdicts.{Sound}
use Rattle.vol_spec.specs.declared.scale.Scale.{Scale}

-- whether a cell is one of the cells
abbrev pub is_listed : List Cell → Cell → Bool
is_listed cells cell = list_any (λ c. bytes_eq c cell) cells

-- whether one of them has its object
abbrev pub shares_object : Name → Scale → List Cell → Cell → Bool
shares_object dataset s cells cell = list_any (λ c.
    bytes_eq (object_of dataset s c) (object_of dataset s cell)) cells

-- each value is the last write, else 0
abbrev pub HasLastWrites : Objects → Name → Scale → Writes → Type 0
HasLastWrites now dataset s writes =
    (p : Position) (c : ℕ) → Covers (whole s) p → c < s.channels
    → value_in now dataset s p c ≡ Ok (last s.width zeros writes p c)

-- no cell has a fault
abbrev pub HasNoFault : Objects → Name → Scale → Type 0
HasNoFault now dataset s = (cell : Cell) → IsCell s cell → fault_in now dataset s cell ≡ None

-- a box has no first fault, its cutout is the last write at each voxel and channel, none missing (so many values
-- side by side), and nothing is wrong with its cells
pub record ReadsBack (now : Objects) (dataset : Name) (s : Scale) (writes : Writes) (b : Box3) : Type 0 where
  pub faultless : first_fault now dataset s b ≡ None
  pub values : cut now dataset s b ≡ raw_bytes b s.channels s.width (last s.width zeros writes)
  pub sound : Sound now dataset s b
