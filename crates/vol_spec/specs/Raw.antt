-- Raw chunks: the values of a box side by side, x fastest, then y, z and the channel (precomputed volume format, raw chunk encoding).
use Rattle.std.specs.Prelude.{ℕ, ◌+◌, ◌*◌, ◌==◌, [], ◌∷◌, length, Option, Some, None, if◌then◌else◌}
use Rattle.vol_base.specs.declared.boxes.Box3.{Box3}
use Rattle.vol_base.specs.declared.faults.ChunkFault.{ChunkFault}
use Rattle.vol_base.specs.declared.faults.ChunkFault.TheVariants.{ChunkLength}
use Rattle.vol_base.specs.Boxes.{voxels, num, value}
use Rattle.vol_spec.specs.Types.{Bytes, Position}

-- a number from its bytes, the lowest first
abbrev pub number : Bytes → ℕ
number [] = 0
number (b ∷ bs) = b + 256 * number bs

-- the n-th value of w bytes
abbrev pub digit : Bytes → ℕ → ℕ → ℕ
digit bytes w n = number (value w bytes n)

-- how many bytes the values of a box have
abbrev pub raw_len : Box3 → ℕ → ℕ → ℕ
raw_len b channels w = voxels b * channels * w

-- a chunk of any other length has a fault, with the length that was found and the one that was wanted
abbrev pub raw_fault : Box3 → ℕ → ℕ → Bytes → Option ChunkFault
raw_fault b channels w bytes = if length bytes == raw_len b channels w then None
    else Some (ChunkLength (length bytes) (raw_len b channels w))

-- the value of a voxel and channel
abbrev pub raw_at : Box3 → ℕ → Bytes → Position → ℕ → ℕ
raw_at b w bytes p c = digit bytes w (num b p c)
