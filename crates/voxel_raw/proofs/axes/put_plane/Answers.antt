use Rattle.std.proofs.Common.{[], arith}
use Rattle.voxel_raw.proofs.BlockSteps.{Copied-more}
use Rattle.voxel_raw.proofs.axes.put_plane.Goals as goal

pub loop-i-preserved : goal.loop-i-preserved
loop-i-preserved g c = Copied-more c.args.run.now c.args.y.now [] _ _ c.args.to.now c.loop-i.to c.put_run.new.to c.loop-i.i _ c.requires.source (c.requires.target.0, omega arith, c.requires.target.2) c.loop-i-test.true c.loop-i.invariant c.part-row.ensures c.put_run.ensures c.put_run.auto.to (omega arith)
