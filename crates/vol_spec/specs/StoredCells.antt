-- The objects that an unsharded scale of raw chunks is stored as: one for each cell that has a chunk (precomputed volume format, chunk
-- storage). A chunk is a cell with the bytes of its values, and chunks are listed in the order of the grid: x fastest, then y, then z.
use Rattle.std.specs.Prelude.{◌<◌, ℕ, ◌+◌, ◌*◌, Bool, List, [], ◌∷◌, map, filter, flat_map, slice_index, slice_index_or, AllPairs, All}
use Rattle.std.specs.List.{list_any, range_with_len}
use Rattle.std.specs.FinMap as fin
use Rattle.vol_base.specs.declared.boxes.Box3.{Box3}
use Rattle.vol_base.specs.Boxes.{voxels}
use Rattle.vol_base.specs.Outside.{Objects}
use Rattle.vol_spec.specs.CellNames.{cell_name}
use Rattle.vol_spec.specs.BoxValues.{bytes_of, channel_of, position_of}
use Rattle.vol_spec.specs.Grid.{IsCell, cell_box, cells_on, meets, numbers_on}
use Rattle.vol_spec.specs.LastWrite.{Before, last}
use Rattle.vol_spec.specs.Types.{Bytes, Cell, Chunks, Listed, Name, Position, Writes}
use Rattle.vol_spec.specs.declared.scale.Scale.{Scale}

-- the number of a cell in the grid: x fastest, then y, then z
abbrev pub cell_number : Scale → Cell → ℕ
cell_number s cell = slice_index cell 0 + cells_on s 0 * (slice_index cell 1
    + cells_on s 1 * slice_index cell 2)

-- distinct cells of the grid, in its order
pub record AreInOrder (s : Scale) (cells : List Cell) : Type 0 where
  pub each : All (IsCell s) cells
  pub rising : AllPairs (λ a b. cell_number s a < cell_number s b) cells

-- a cell of a list of cells
abbrev pub cell_of : List Cell → ℕ → Cell
cell_of cells n = slice_index_or cells n []

-- whether the box of some write meets a cell. A write is a box and its values' bytes
abbrev pub met : Scale → Writes → Cell → Bool
met s writes cell = list_any (λ write. meets s write.0 cell) writes

-- the cells that the writes meet
unfoldable pub met_cells : Scale → Writes → List Cell
met_cells s writes = filter (met s writes) (numbers_on (cells_on s))

-- a value for each voxel and channel of a box, as the bytes of a raw chunk with so many bytes a value
abbrev pub raw_bytes : Box3 → ℕ → ℕ → (Position → ℕ → ℕ) → Bytes
raw_bytes b channels w f = flat_map (λ n. bytes_of w (f (position_of b n) (channel_of b n)))
    (range_with_len 0 (voxels b * channels))

-- the bytes of a cell's values after writes, over what was there
unfoldable pub written_raw : Scale → Before → Writes → Cell → Bytes
written_raw s before writes cell = raw_bytes (cell_box s cell) s.channels s.width (last s.width before writes)

-- the chunks of writes: each cell that some write meets
unfoldable pub chunks_of : Scale → Before → Writes → Chunks
chunks_of s before writes = map (λ cell. (cell, written_raw s before writes cell)) (met_cells s writes)

-- the objects of chunks, as a list of names and bytes
abbrev pub object_list : Name → Scale → Chunks → Listed
object_list dataset s chunks = map (λ chunk. (cell_name dataset s chunk.0, chunk.1)) chunks

-- objects with some put in, by their names and bytes
abbrev pub put_in : Objects → Listed → Objects
put_in objects [] = objects
put_in objects (o ∷ rest) = put_in (fin.insert objects o.0 o.1) rest
