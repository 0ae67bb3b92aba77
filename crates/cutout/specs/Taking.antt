-- A cell's chunk that is taken as it is stored, where this writer spells it (this project's).
use Rattle.std.specs.Prelude.{◌≡◌, ◌≢◌, ◌<◌, ◌≤◌, ℕ, length, take, Option, None, Some, Result, Ok, Err}
use Rattle.vol_base.specs.Boxes.{Covers, num}
use Rattle.vol_base.specs.Bytes.{AreBytes}
use Rattle.vol_base.specs.Outside.{Objects}
use Rattle.vol_base.specs.declared.faults.Fault.{Fault}
use Rattle.vol_spec.specs.Chunks.{chunk_in, fault_of, value_of}
use Rattle.vol_spec.specs.Encodings.{chunk_fault, encoded, raw_size}
use Rattle.vol_spec.specs.Grid.{cell_box}
use Rattle.vol_spec.specs.Limits.{limit_of}
use Rattle.vol_spec.specs.Raw.{digit}
use Rattle.vol_spec.specs.Types.{Bytes, Cell, Name, Position}
use Rattle.vol_spec.specs.Writable.{IsWritable}
use Rattle.vol_spec.specs.declared.encoding.Encoding.TheVariants.{Raw, Seg}
use Rattle.vol_spec.specs.declared.scale.Scale.{Scale}
use Rattle.vol_spec.specs.declared.stored_scale.StoredScale.{StoredScale}
use Rattle.segment_cells.specs.Decoding.{HoldsValues}
use Rattle.segment_cells.specs.Serving.{ServesScale}
use Rattle.shard_reader.specs.declared.bytes.LookupFault.{LookupFault}
use Rattle.cutout.specs.Finding.{Finds}
use Rattle.cutout.specs.declared.channels.Channels.{Channels}
use Rattle.cutout.specs.declared.fault.CutFault.{CutFault}
use Rattle.cutout.specs.declared.fault.CutFault.TheVariants.{OutsideScale, StoreFault, Damaged}
use Rattle.cutout.specs.declared.speller.Speller.{Speller}

-- a speller serves a scale, whose chunks are in blocks and can be written
pub record IsSpeller (s : Scale) (speller : Speller) : Type 0 where
  pub block : s.encoding ≡ Seg speller.block
  pub writable : IsWritable s
  pub scratch : ServesScale s speller.scratch

-- a chunk in blocks that this writer spells: there is no fault of it, and all values that it says have this chunk
pub record IsOwnChunk (s : Scale) (cell : Cell) (chunk : Bytes) : Type 0 where
  pub blocks : s.encoding ≢ Raw
  pub sound : chunk_fault s cell chunk ≡ None
  pub again : (values : Bytes) → AreBytes values → length values ≡ raw_size s cell
      → HoldsValues s cell chunk values → encoded s cell values ≡ chunk
  pub room : length chunk ≤ limit_of s.encoding s.width s.channels s.size s.chunk

-- so many bytes in front are such a chunk
pub record HasOwnChunk (s : Scale) (cell : Cell) (out : Bytes) (n : ℕ) : Type 0 where
  pub within : n ≤ length out
  pub own : IsOwnChunk s cell (take n out)

-- all channels of a scale
abbrev pub all_of : Scale → Channels
all_of s = record { first = 0; count = s.channels }

-- bytes hold the values of a cell, by what is seen of its chunk
abbrev pub HoldsCell : Scale → Cell → Result (Option Bytes) Fault → Bytes → Type 0
HoldsCell s cell seen out = (p : Position) (c : ℕ) → Covers (cell_box s cell) p → c < s.channels
    → value_of s cell seen p c ≡ Ok (digit out s.width (num (cell_box s cell) p c))

-- taking a cell: its values, the bytes of its chunk, or its fault
abbrev pub TakesOne : Result (Option ℕ) LookupFault → Objects → StoredScale → Cell → Bytes → Type 0
TakesOne (Ok None) m origin cell out = (fault_of (chunk_in m origin.dataset origin.scale cell) ≡ None) ×
    HoldsCell origin.scale cell (chunk_in m origin.dataset origin.scale cell) out
TakesOne (Ok (Some n)) m origin cell out = chunk_in m origin.dataset origin.scale cell ≡ Ok (Some (take n out))
TakesOne (Err fault) m origin cell out = Finds (Err fault) (chunk_in m origin.dataset origin.scale cell)

-- what taking a cell answers: its values, where there is no fault; so many bytes of its chunk in front; or its fault
abbrev pub TakesCell : Result (Option ℕ) CutFault → Objects → Name → Scale → Cell → Bytes → Type 0
TakesCell (Ok None) m dataset s cell out = (fault_of (chunk_in m dataset s cell) ≡ None) ×
    HoldsCell s cell (chunk_in m dataset s cell) out
TakesCell (Ok (Some n)) m dataset s cell out = chunk_in m dataset s cell ≡ Ok (Some (take n out))
TakesCell (Err (Damaged at fault)) m dataset s cell out = (at ≡ cell) × (chunk_in m dataset s cell ≡ Err fault)
TakesCell (Err StoreFault) m dataset s cell out = Unit {0}
TakesCell (Err OutsideScale) m dataset s cell out = ⊥
