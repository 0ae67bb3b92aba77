use Rattle.std.proofs.Common.{length, ◌/◌}
use Rattle.vol_spec.specs.SegSizes.{width_of}
use Rattle.segment_blocks.proofs.Planes.{planes_more, planes_out}
use Rattle.segment_blocks.proofs.block.fill_block.Goals as goal

pub returns-in-Err-clause-out : goal.returns-in-Err-clause-out
returns-in-Err-clause-out c =
    planes_out c.args.b.now (length c.args.raw.now / width_of c.args.wide) c.args.values.now c.args.table.now (width_of c.args.wide) c.args.bits c.loop-z.z _ c.args.raw.now c.loop-z.raw c.requires.lies c.loop-z-test.true c.loop-z.invariant c.in-Err.ensures.out

pub loop-z-preserved : goal.loop-z-preserved
loop-z-preserved c =
    planes_more c.args.b.now (length c.args.raw.now / width_of c.args.wide) c.args.values.now c.args.table.now (width_of c.args.wide) c.args.bits c.loop-z.z c.args.raw.now c.loop-z.raw c.fill_plane.new.raw c.requires.lies c.loop-z.invariant c.in-Ok.ensures.done
