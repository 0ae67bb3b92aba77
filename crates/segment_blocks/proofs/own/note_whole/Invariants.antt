use Rattle.std.proofs.Common.{◌≡◌, length}
use Rattle.vol_spec.specs.SegBlocks.{in_chunk}
use Rattle.vol_spec.specs.SegShapes.{sizes_of}
use Rattle.segment_blocks.specs.Row.{index_in}
use Rattle.segment_blocks.specs.Walked.{Noted}
use Rattle.segment_blocks.proofs.own.note_whole.Given as goal

abbrev pub invariant-loop-m : goal.invariant-loop-m
invariant-loop-m l = Noted (in_chunk (sizes_of l._shape) l._k) (index_in l.values l.bits) l.marks l.m × (length l.marks ≡ length l.fn.marks)
