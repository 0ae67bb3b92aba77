use Rattle.std.proofs.Common.{arith}
use Rattle.vol_spec.specs.SegShapes.{sizes_of}
use Rattle.segment_blocks.specs.Reserved.{sizes_for}
use Rattle.segment_blocks.proofs.Reserves.{serves_self}
use Rattle.segment_blocks.proofs.Shapes.{limits}
use Rattle.format_trials.proofs.segment_blocks_rows.encoded.Goals as goal

pub encode-len-requires-clause-scratch : goal.encode-len-requires-clause-scratch
encode-len-requires-clause-scratch c = serves_self (sizes_for c.in_ok-scratch.scratch) (sizes_of c.args.shape.now) c.in_ok-scratch.ensures

pub encode-len-requires-clause-out : goal.encode-len-requires-clause-out
encode-len-requires-clause-out c = let h = limits c.args.shape.now in omega (arith, h.few_channels, c.requires.limit, c.requires.out)
