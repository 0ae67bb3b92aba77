use Rattle.std.proofs.Common.{◌≡◌, ◌<◌, ◌≤◌, ℕ, slice_index}
use Rattle.segment_blocks.proofs.voxels.pad_row.Given as goal

abbrev pub invariant-loop-x : goal.invariant-loop-x
invariant-loop-x l = ((x : ℕ) → x < l.from → slice_index l.row x ≡ slice_index l.initial.row x)
    × ((x : ℕ) → l.from ≤ x → x < l.x → slice_index l.row x ≡ l.padding)
