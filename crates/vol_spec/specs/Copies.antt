-- The copy of a scale into another layout (this project's profile): both scales are of one volume, and have cells of their own.
use Rattle.std.specs.Prelude.{◌≡◌, ℕ, Bool, true, false, List, map, filter, Option, Some, None, Result, Ok, Err}
use Rattle.std.specs.List.{list_any}
use Rattle.vol_base.specs.Outside.{Objects}
use Rattle.vol_base.specs.declared.faults.Fault.{Fault}
use Rattle.vol_spec.specs.Chunks.{chunk_in, value_in}
use Rattle.vol_spec.specs.Grid.{cell_box, cells_on, meets, numbers_on}
use Rattle.vol_spec.specs.StoredCells.{raw_bytes}
use Rattle.vol_spec.specs.Types.{Bytes, Cell, Chunks, Name}
use Rattle.vol_spec.specs.declared.scale.Scale.{Scale}

-- two scales of one volume
pub record AreOfOneVolume (from to : Scale) : Type 0 where
  pub sizes : from.size ≡ to.size
  pub offsets : from.offset ≡ to.offset
  pub widths : from.width ≡ to.width
  pub channel_counts : from.channels ≡ to.channels

-- whether anything is told of a cell: the bytes of its chunk, or a fault
abbrev pub is_there : Result (Option Bytes) Fault → Bool
is_there (Ok None) = false
is_there (Ok (Some bytes)) = true
is_there (Err fault) = true

-- the cells that aren't absent, in the order of the grid
abbrev pub cells_there : Objects → Name → Scale → List Cell
cells_there objects dataset s = filter (λ cell. is_there (chunk_in objects dataset s cell))
    (numbers_on (cells_on s))

-- whether the box of a cell of the target meets that of such a cell of the source
abbrev pub is_copied : Objects → Name → Scale → Scale → Cell → Bool
is_copied objects dataset from to cell = list_any (λ source.
    meets to (cell_box from source) cell) (cells_there objects dataset from)

-- the cells of the target that are stored, in the order of its grid
unfoldable pub copied_cells : Objects → Name → Scale → Scale → List Cell
copied_cells objects dataset from to = filter (is_copied objects dataset from to) (numbers_on (cells_on to))

-- a fault counts as 0
abbrev pub or_zero : Result ℕ Fault → ℕ
or_zero (Ok v) = v
or_zero (Err fault) = 0

-- the source's values in the box of a cell of the target, as the bytes of a raw chunk
unfoldable pub copied_raw : Objects → Name → Scale → Scale → Cell → Bytes
copied_raw objects dataset from to cell = raw_bytes (cell_box to cell) to.channels to.width (λ p c.
    or_zero (value_in objects dataset from p c))

-- the copy: each cell of the target that is stored, with the source's values
unfoldable pub copy : Objects → Name → Scale → Scale → Chunks
copy objects dataset from to = map (λ cell. (cell, copied_raw objects dataset from to cell))
    (copied_cells objects dataset from to)
