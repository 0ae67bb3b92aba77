-- What stands in the lists and pairs of the definitions (this project's names).
use Rattle.std.specs.Prelude.{ℕ, ℤ, List}
use Rattle.vol_base.specs.declared.boxes.Box3.{Box3}

abbrev pub Bytes : Type 0
Bytes = List ℕ

-- the bytes of a name
abbrev pub Name : Type 0
Name = List ℕ

-- the numbers of a cell on the axes, x first
abbrev pub Cell : Type 0
Cell = List ℕ

-- the coordinates of a voxel, x first
abbrev pub Position : Type 0
Position = List ℤ

-- what is compared from the left
abbrev pub Key : Type 0
Key = List ℕ

-- cells with bytes for each: of their values, or of their chunks as they are stored
abbrev pub Chunks : Type 0
Chunks = List (Cell × Bytes)

-- bytes with the keys by which they are ordered
abbrev pub Keyed : Type 0
Keyed = List (Key × Bytes)

-- objects with their names, in the order in which they are put
abbrev pub Listed : Type 0
Listed = List (Name × Bytes)

-- boxes with the bytes of their values, in the order in which they are written
abbrev pub Writes : Type 0
Writes = List (Box3 × Bytes)
