use Rattle.std.proofs.Common.{[], ◌∷◌, arith}
use Rattle.voxel_raw.proofs.BlockSteps.{Copied-more}
use Rattle.voxel_raw.proofs.axes.put_channels.Goals as goal

pub loop-i-preserved : goal.loop-i-preserved
loop-i-preserved g c = Copied-more c.args.run.now c.args.c.now (c.args.z.now ∷ c.args.y.now ∷ []) _ _ c.args.to.now c.loop-i.to c.put_volume.new.to c.loop-i.i _ c.requires.source (c.requires.target.0, omega arith, c.requires.target.2) c.loop-i-test.true c.loop-i.invariant c.part-volume.ensures c.put_volume.ensures c.put_volume.auto.to (omega arith)
