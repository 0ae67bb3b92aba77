-- The limits of a scale. Sizes, offsets and cells are lists over the axes, x first. All limits are this project's profile.
use Rattle.std.specs.Prelude.{◌≡◌, ◌⊎◌, ℕ, ◌+◌, ◌-◌, ◌*◌, ◌/◌, ◌^◌, ◌<◌, ◌≤◌, min, ℤ, pos, neg_ℤ, ◌≤ℤ◌, List, slice_index, slice_index_or}
use Rattle.vol_base.specs.Boxes.{on_axes}
use Rattle.vol_base.specs.Grids.{AreSizes}
use Rattle.vol_spec.specs.declared.encoding.Encoding.{Encoding}
use Rattle.vol_spec.specs.declared.encoding.Encoding.TheVariants.{Raw, Seg}

-- a value has 1, 2, 4 or 8 bytes
abbrev pub IsWidth : ℕ → Type 0
IsWidth w = (w ≡ 1) ⊎ ((w ≡ 2) ⊎ ((w ≡ 4) ⊎ (w ≡ 8)))

-- on each axis from -2^40 to 2^40
abbrev pub AreOffsets : List ℤ → Type 0
AreOffsets offsets = (axis : ℕ) → axis < 3 → (neg_ℤ (pos (2 ^ 40)) ≤ℤ slice_index_or offsets axis (pos 0)) ×
    (slice_index_or offsets axis (pos 0) ≤ℤ pos (2 ^ 40))

-- the size of the first cell on an axis: the chunk size, clipped to the scale
abbrev pub first_size : List ℕ → List ℕ → ℕ → ℕ
first_size size chunk axis = min (slice_index chunk axis) (slice_index size axis)

-- the bytes of the first cell's values
abbrev pub first_bytes : ℕ → ℕ → List ℕ → List ℕ → ℕ
first_bytes width channels size chunk =
    first_size size chunk 0 * first_size size chunk 1 * first_size size chunk 2 * channels * width

-- a size rounded up to whole blocks
abbrev pub rounded : ℕ → ℕ → ℕ
rounded size block = (size + block - 1) / block * block

-- the voxels of the first cell with each size rounded up to whole blocks, times the channels
abbrev pub padded_voxels : List ℕ → ℕ → List ℕ → List ℕ → ℕ
padded_voxels block channels size chunk =
    rounded (first_size size chunk 0) (slice_index block 0) * rounded (first_size size chunk 1)
    (slice_index block 1) * rounded (first_size size chunk 2) (slice_index block 2) * channels

-- how many cells the grid has on each axis: ceil(size / chunk) (precomputed volume format, chunk storage)
abbrev pub cell_counts : List ℕ → List ℕ → List ℕ
cell_counts size chunk = on_axes (λ axis. (slice_index size axis
    + slice_index chunk axis - 1) / slice_index chunk axis)

-- an encoding in blocks of these sizes
abbrev pub IsSeg : Encoding → List ℕ → Type 0
IsSeg encoding block = encoding ≡ Seg block

-- a block has 1 to 2^24 voxels on each axis
abbrev pub AreBlocks : List ℕ → Type 0
AreBlocks block = (axis : ℕ) → axis < 3 → (1 ≤ slice_index block axis) × (slice_index block axis ≤ 2 ^ 24)

-- the padded voxels times channels of an encoding, 0 for raw chunks
abbrev pub padded_of : Encoding → ℕ → List ℕ → List ℕ → ℕ
padded_of Raw channels size chunk = 0
padded_of (Seg block) channels size chunk = padded_voxels block channels size chunk

-- how many bytes a chunk has at most: those of its values, or a word for each channel and 16 bytes for each padded voxel and channel
abbrev pub limit_of : Encoding → ℕ → ℕ → List ℕ → List ℕ → ℕ
limit_of Raw width channels size chunk = first_bytes width channels size chunk
limit_of (Seg block) width channels size chunk = 4 * channels + 16 * padded_voxels block channels size chunk

-- a chunk size of a scale: 1 to 2^40 voxels on each axis, with at most 2^27 bytes in its first cell, and of a segmentation at most 2^24
-- padded voxels times channels
abbrev pub FitsChunk : ℕ → ℕ → List ℕ → Encoding → List ℕ → Type 0
FitsChunk width channels size encoding chunk = AreSizes chunk × (first_bytes width channels size chunk ≤ 2 ^ 27)
    × (padded_of encoding channels size chunk ≤ 2 ^ 24)
