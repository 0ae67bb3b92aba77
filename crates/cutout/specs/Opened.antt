-- An opened reader (this project's).
use Rattle.std.specs.Prelude.{◌+◌, ℕ}
use Rattle.vol_spec.specs.Encodings.{by_encoding}
use Rattle.vol_spec.specs.Limits.{first_bytes, limit_of}
use Rattle.vol_spec.specs.Types.{Name}
use Rattle.vol_spec.specs.declared.scale.Scale.{Scale}

-- a reader of a scale of a data set
pub record Opened : Type 0 where
  pub dataset : Name
  pub scale : Scale

-- room for a chunk of a scale and a byte more
abbrev pub chunk_room : Scale → ℕ
chunk_room s = limit_of s.encoding s.width s.channels s.size s.chunk + 1

-- room for the values of a chunk that is decoded; a raw chunk has its values as they are
abbrev pub values_room : Scale → ℕ
values_room s = by_encoding s.encoding 0 (first_bytes s.width s.channels s.size s.chunk)
