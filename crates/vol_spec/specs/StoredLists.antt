-- What chunks are stored as, in every form of scale (precomputed volume format, chunk storage and sharded
-- format). Chunks are cells with the bytes of their values. In which order objects are put is this project's
-- profile: that of the grid, x fastest, then y, then z, or of the shards' numbers.
use Rattle.std.specs.Prelude.{◌≡◌, ◌^◌, List, [], ◌∷◌, map, slice_index, AllPairs, All, Option, Some, None}
use Rattle.std.specs.Cmp.Lexicographic.{slice_cmp}
use Rattle.std.specs.List.{range_with_len}
use Rattle.std.specs.Ordering.{nat_cmp}
use Rattle.std.specs.declared.cmp.Ordering.TheVariants.{Less}
use Rattle.vol_spec.specs.Encodings.{encoded}
use Rattle.vol_spec.specs.Grid.{IsCell}
use Rattle.vol_spec.specs.StoredCells.{object_list}
use Rattle.vol_spec.specs.StoredShards.{in_order, key_of, objects_in, placed}
use Rattle.vol_spec.specs.Types.{Cell, Chunks, Key, Listed, Name}
use Rattle.vol_spec.specs.declared.scale.Scale.{Scale}
use Rattle.vol_spec.specs.declared.sharding.Sharding.{Sharding}

-- The place of a cell among all, compared from the left: z, y, x, or the shard, the minishard and the id.
abbrev pub key_by : Option Sharding → Scale → Cell → Key
key_by None s cell = slice_index cell 2 ∷ slice_index cell 1 ∷ slice_index cell 0 ∷ []
key_by (Some sharding) s cell = key_of s sharding cell

abbrev pub cell_key : Scale → Cell → Key
cell_key s cell = key_by s.sharding s cell

-- distinct cells of the grid, in the order of their keys: so jobs are done
pub record AreJobs (s : Scale) (cells : List Cell) : Type 0 where
  pub each : All (IsCell s) cells
  pub rising : AllPairs (λ a b. slice_cmp nat_cmp (cell_key s a) (cell_key s b) ≡ Less) cells

-- cells in the order of their keys
unfoldable pub in_key_order : Scale → List Cell → List Cell
in_key_order s cells = map (λ (entry : Key × Cell). entry.1)
    (in_order (map (λ cell. (cell_key s cell, cell)) cells))

-- chunks with their bytes as they are stored
abbrev pub encoded_chunks : Scale → Chunks → Chunks
encoded_chunks s chunks = map (λ chunk. (chunk.0, encoded s chunk.0 chunk.1)) chunks

-- an object for each chunk, or one for each shard that has a chunk
abbrev pub listed_by : Option Sharding → Name → Scale → Chunks → Listed
listed_by None dataset s chunks = object_list dataset s chunks
listed_by (Some sharding) dataset s chunks = objects_in dataset s sharding (placed s sharding chunks)
    (range_with_len 0 (2 ^ sharding.shard_bits))

-- the objects that chunks are stored as, in the order in which they are put: by the cells' keys
unfoldable pub stored_list : Name → Scale → Chunks → Listed
stored_list dataset s chunks = listed_by s.sharding dataset s (encoded_chunks s chunks)
