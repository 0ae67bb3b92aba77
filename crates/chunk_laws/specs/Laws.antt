-- What the laws of stored chunks say (this project's).
use Rattle.std.specs.Prelude.{◌≡◌, ◌<◌, ℕ, false, List, Contains, Option, Result, Ok, Some, None, if◌then◌else◌}
use Rattle.vol_base.specs.Boxes.{Covers}
use Rattle.std.specs.FinMap as fin
use Rattle.vol_base.specs.Outside.{Objects, is_under}
use Rattle.vol_base.specs.declared.faults.Fault.{Fault}
use Rattle.vol_base.specs.Bytes.{AreBytes}
use Rattle.vol_spec.specs.CellNames.{folder_of}
use Rattle.vol_spec.specs.Chunks.{chunk_in}
use Rattle.vol_spec.specs.Encodings.{encoded, value_at}
use Rattle.vol_spec.specs.Grid.{IsCell, cell_box}
use Rattle.vol_spec.specs.Raw.{raw_at}
use Rattle.vol_spec.specs.StoredCells.{put_in}
use Rattle.vol_spec.specs.StoredLists.{stored_list}
use Rattle.vol_spec.specs.Types.{Bytes, Cell, Chunks, Name, Position}
use Rattle.vol_spec.specs.declared.scale.Scale.{Scale}
use Rattle.chunk_laws.specs.Storable.{AreElsewhere, CellBytes, IsBeside, stored_in}
use Rattle.chunk_laws.specs.Told.{is_listed, shares_object}

-- each of the cells has its bytes as they are encoded
abbrev pub HasChunks : Objects → Name → Scale → CellBytes → List Cell → Type 0
HasChunks m dataset s raw cells =
    (cell : Cell) → Contains cells cell
    → chunk_in (stored_in m dataset s raw cells) dataset s cell ≡ Ok (Some (encoded s cell (raw cell)))

-- which give its values back
abbrev pub GivesBack : Scale → CellBytes → List Cell → Type 0
GivesBack s raw cells =
    (cell : Cell) (p : Position) (c : ℕ) → Contains cells cell → AreBytes (raw cell)
    → Covers (cell_box s cell) p → c < s.channels
    → value_at s cell (encoded s cell (raw cell)) p c ≡ raw_at (cell_box s cell) s.width (raw cell) p c

-- a cell whose object none of them has is as before
abbrev pub LeavesOthers : Objects → Name → Scale → CellBytes → List Cell → Type 0
LeavesOthers m dataset s raw cells =
    (cell : Cell) → IsCell s cell → AreElsewhere dataset s cells cell
    → chunk_in (stored_in m dataset s raw cells) dataset s cell ≡ chunk_in m dataset s cell

-- another cell with an object of theirs is absent
abbrev pub HasNoneBeside : Objects → Name → Scale → CellBytes → List Cell → Type 0
HasNoneBeside m dataset s raw cells =
    (cell : Cell) → IsCell s cell → (Contains cells cell → ⊥) → IsBeside dataset s cells cell
    → chunk_in (stored_in m dataset s raw cells) dataset s cell ≡ Ok None

-- what is said of a cell: its chunk where it is one of them, nothing where one of them has its object, and else what was said before
abbrev pub said : Name → Scale → CellBytes → List Cell → Cell → Result (Option Bytes) Fault →
    Result (Option Bytes) Fault
said dataset s raw cells cell before =
    if is_listed cells cell then Ok (Some (encoded s cell (raw cell)))
    else (if shares_object dataset s cells cell then Ok None else before)

abbrev pub SaysOfEach : Objects → Name → Scale → CellBytes → List Cell → Type 0
SaysOfEach m dataset s raw cells =
    (cell : Cell) → IsCell s cell
    → chunk_in (stored_in m dataset s raw cells) dataset s cell
    ≡ said dataset s raw cells cell (chunk_in m dataset s cell)

-- each other cell is absent
abbrev pub HasNoOther : Objects → Name → Scale → CellBytes → List Cell → Type 0
HasNoOther m dataset s raw cells =
    (cell : Cell) → IsCell s cell → (Contains cells cell → ⊥)
    → chunk_in (stored_in m dataset s raw cells) dataset s cell ≡ Ok None

-- no object outside the scale's folder changes
abbrev pub LeavesOutside : Objects → Name → Scale → Chunks → Type 0
LeavesOutside m dataset s chunks =
    (name : Name) → is_under (folder_of dataset s) name ≡ false
    → fin.get (put_in m (stored_list dataset s chunks)) name ≡ fin.get m name
