use Rattle.std.proofs.Common.{Ok, None}
use Rattle.cutout.proofs.TakingSteps.{took_held, whole_target, whole_took}
use Rattle.cutout.proofs.taking.put_zeros_in.Goals as goal

pub put_zeros-requires-clause-target : goal.put_zeros-requires-clause-target
put_zeros-requires-clause-target c = whole_target c.args.scale.now c.args.cell c.cell_box-own.result c.all_channels.result _ c.cell_box-own.ensures.positions c.all_channels.ensures c.requires.len

pub returns-clause-zeros : goal.returns-clause-zeros
returns-clause-zeros c =
    took_held c.args.scale.now c.args.cell (Ok None) c.args.out.now c.put_zeros.new.out
    (whole_took c.args.scale.now c.args.cell c.cell_box-own.result c.all_channels.result (Ok None) c.args.out.now c.put_zeros.new.out c.cell_box-own.ensures.positions c.all_channels.ensures c.put_zeros.ensures)
