-- What the bytes of a cell's chunk are, by the scale's encoding (precomputed volume format, raw and compressed_segmentation chunks).
use Rattle.std.specs.Prelude.{ℕ, ◌==◌, List, [], Option}
use Rattle.vol_base.specs.declared.faults.ChunkFault.{ChunkFault}
use Rattle.vol_base.specs.Boxes.{from_begin}
use Rattle.vol_spec.specs.Grid.{cell_box}
use Rattle.vol_spec.specs.Raw.{raw_at, raw_fault, raw_len}
use Rattle.vol_spec.specs.SegChunks.{seg_at}
use Rattle.vol_spec.specs.SegFaults.{seg_fault}
use Rattle.vol_spec.specs.SegSizes.{SegSizes, encoded_limit}
use Rattle.vol_spec.specs.SegWritten.{seg_bytes}
use Rattle.vol_spec.specs.Types.{Bytes, Cell, Position}
use Rattle.vol_spec.specs.declared.encoding.Encoding.{Encoding}
use Rattle.vol_spec.specs.declared.encoding.Encoding.TheVariants.{Raw, Seg}
use Rattle.vol_spec.specs.declared.scale.Scale.{Scale}

-- one thing for raw chunks, another for segmentations
abbrev pub by_encoding : {A : Type 0} → Encoding → A → A → A
by_encoding Raw raw seg = raw
by_encoding (Seg block) raw seg = seg

-- the voxels of a block on each axis; raw chunks have no blocks
abbrev pub blocks_of : Encoding → List ℕ
blocks_of Raw = []
blocks_of (Seg block) = block

-- the sizes of a cell's segmentation chunk, clipped as the cell is; values of eight bytes are wide
abbrev pub sizes_in : Scale → Cell → SegSizes
sizes_in s cell = record {
  size = (cell_box s cell).size;
  block = blocks_of s.encoding;
  channels =
      s.channels;
  wide = s.width == 8;
}

-- how many bytes the values of a cell have
abbrev pub raw_size : Scale → Cell → ℕ
raw_size s cell = raw_len (cell_box s cell) s.channels s.width

-- how many bytes its chunk has at most
abbrev pub cell_limit : Scale → Cell → ℕ
cell_limit s cell = by_encoding s.encoding (raw_size s cell) (encoded_limit (sizes_in s cell))

-- what is wrong with bytes that are given for its chunk, or none
abbrev pub chunk_fault : Scale → Cell → Bytes → Option ChunkFault
chunk_fault s cell bytes = by_encoding s.encoding (raw_fault (cell_box s cell) s.channels s.width bytes)
    (seg_fault bytes (sizes_in s cell))

-- the value that the bytes of its chunk give a voxel and channel
abbrev pub value_at : Scale → Cell → Bytes → Position → ℕ → ℕ
value_at s cell bytes p c =
    let b = cell_box s cell in
    by_encoding s.encoding (raw_at b s.width bytes p c)
    (seg_at bytes (sizes_in s cell) (from_begin b p 0) (from_begin b p 1) (from_begin b p 2) c)

-- the bytes that the values of a cell are stored as
abbrev pub encoded : Scale → Cell → Bytes → Bytes
encoded s cell raw = by_encoding s.encoding raw (seg_bytes (sizes_in s cell) raw)
