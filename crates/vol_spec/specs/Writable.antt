-- Which scales can be written (this project's limit): others can be read alone.
use Rattle.std.specs.Prelude.{ℕ, ◌≤◌, ◌^◌}
use Rattle.vol_spec.specs.Limits.{padded_of}
use Rattle.vol_spec.specs.declared.scale.Scale.{Scale}

-- the padded voxels of a scale's first cell times the channels, 0 where chunks are raw
abbrev pub padded : Scale → ℕ
padded s = padded_of s.encoding s.channels s.size s.chunk

-- a scale that keeps the writing limit
abbrev pub IsWritable : Scale → Type 0
IsWritable s = padded s ≤ 2 ^ 22
