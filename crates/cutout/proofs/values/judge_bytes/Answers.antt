use Rattle.cutout.proofs.ReadSteps.{part_small}
use Rattle.cutout.proofs.values.judge_bytes.Goals as goal

pub check_len-requires : goal.check_len-requires
check_len-requires c = part_small c.args.scale.now c.args.home.now.cell c.args.home.now.own c.requires.home.box
