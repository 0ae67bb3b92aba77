-- Scales whose chunks are the same bytes where their values are (this project's).
use Rattle.std.specs.Prelude.{◌≡◌}
use Rattle.vol_spec.specs.Copies.{AreOfOneVolume}
use Rattle.vol_spec.specs.Encodings.{value_at}
use Rattle.vol_spec.specs.Grid.{cell_box}
use Rattle.vol_spec.specs.StoredCells.{raw_bytes}
use Rattle.vol_spec.specs.Types.{Bytes, Cell}
use Rattle.vol_spec.specs.declared.scale.Scale.{Scale}

-- two scales of one volume, whose chunks are of one grid and one encoding
pub record AreTwins (from to : Scale) : Type 0 where
  pub volume : AreOfOneVolume from to
  pub chunks : from.chunk ≡ to.chunk
  pub encodings : from.encoding ≡ to.encoding

-- the values that the bytes of a cell's chunk say, as the bytes of a raw chunk
abbrev pub said_raw : Scale → Cell → Bytes → Bytes
said_raw s cell chunk = raw_bytes (cell_box s cell) s.channels s.width (value_at s cell chunk)
