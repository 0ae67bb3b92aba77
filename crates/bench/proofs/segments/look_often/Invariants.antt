use Rattle.std.proofs.Common.{◌≡◌}
use Rattle.vol_spec.specs.SegShapes.{sizes_of}
use Rattle.segment_blocks.specs.Reserved.{sizes_for}
use Rattle.bench.proofs.segments.look_often.Given as goal

abbrev pub invariant-loop : goal.invariant-loop
invariant-loop l = sizes_for l.scratch ≡ sizes_of l.shape
