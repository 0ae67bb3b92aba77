-- What a frame can be filled in from (this project's).
use Rattle.std.specs.Prelude.{◌≡◌, ℕ, ◌≤◌, length, Option, None, Some}
use Rattle.vol_spec.specs.Encodings.{raw_size}
use Rattle.vol_spec.specs.Types.{Bytes}
use Rattle.vol_spec.specs.declared.scale.Scale.{Scale}
use Rattle.copier.specs.Frames.{IsKept}
use Rattle.copier.specs.declared.frame.OwnChunk.{OwnChunk}

-- a frame has so many bytes of values, or the chunk of a cell that has so many
abbrev pub Fills : Scale → Option OwnChunk → Bytes → ℕ → Type 0
Fills to None bytes n = n ≤ length bytes
Fills to (Some own) bytes n = (n ≡ raw_size to own.cell) × IsKept to own bytes
