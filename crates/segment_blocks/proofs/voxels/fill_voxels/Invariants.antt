use Rattle.std.proofs.Common.{◌≡◌, ◌*◌, ◌/◌, ◌%◌, ◌<◌, ℕ, slice_index}
use Rattle.vol_spec.specs.SegShapes.{sizes_of}
use Rattle.segment_blocks.specs.Voxels.{voxel_of}
use Rattle.segment_blocks.proofs.voxels.fill_voxels.Given as goal

abbrev pub invariant-loop-r : goal.invariant-loop-r
invariant-loop-r l = ((n : ℕ) → n < l.r * l.width → slice_index l.voxels n ≡ voxel_of (sizes_of l.shape) l.raw l.c l.k l.padding n)
    × (l.line.y ≡ l.r % l.b.block_y) × (l.line.z ≡ l.r / l.b.block_y)
