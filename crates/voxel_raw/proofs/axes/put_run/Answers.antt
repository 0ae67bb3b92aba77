use Rattle.voxel_raw.proofs.BlockSteps.{Copied-run}
use Rattle.voxel_raw.proofs.axes.put_run.Goals as goal

pub returns : goal.returns
returns g c = Copied-run c.args.run.now _ c.args.to.now c.put_bytes.new.to c.put_bytes.ensures.copied c.put_bytes.ensures.kept
