use Rattle.std.proofs.Common.{length, ◌/◌}
use Rattle.vol_spec.specs.SegSizes.{width_of}
use Rattle.segment_blocks.proofs.Planes.{rows_more, rows_out}
use Rattle.segment_blocks.proofs.block.fill_plane.Goals as goal

pub returns-in-Err-clause-out : goal.returns-in-Err-clause-out
returns-in-Err-clause-out c =
    rows_out c.args.b.now (length c.args.raw.now / width_of c.args.wide) c.args.values.now c.args.table.now (width_of c.args.wide) c.args.bits c.loop-y.y c.args.z _ c.args.raw.now c.loop-y.raw c.requires.lies c.loop-y-test.true c.loop-y.invariant c.in-Err.ensures.out

pub loop-y-preserved : goal.loop-y-preserved
loop-y-preserved c =
    rows_more c.args.b.now (length c.args.raw.now / width_of c.args.wide) c.args.values.now c.args.table.now (width_of c.args.wide) c.args.bits c.loop-y.y c.args.z c.args.raw.now c.loop-y.raw c.fill_row.new.raw c.requires.lies c.loop-y-test.true c.loop-y.invariant c.in-Ok.ensures.done
