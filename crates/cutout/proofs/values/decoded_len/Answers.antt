use Rattle.std.proofs.Common.{arith}
use Rattle.cutout.proofs.ReadSteps.{cell_len}
use Rattle.cutout.proofs.TakeSteps.{room_seg}
use Rattle.cutout.proofs.values.decoded_len.Goals as goal

pub overflow_cast-result : goal.overflow_cast-result
overflow_cast-result c =
    let len = cell_len c.args.scale.now c.args.home.now.cell c.args.home.now.own c.byte_len.result c.requires.home.box c.byte_len.ensures in
    omega (arith, len.first, len.small)

pub returns-clause-len : goal.returns-clause-len
returns-clause-len c = (cell_len c.args.scale.now c.args.home.now.cell c.args.home.now.own c.byte_len.result c.requires.home.box c.byte_len.ensures).is

pub returns-clause-room : goal.returns-clause-room
returns-clause-room c =
    let len = cell_len c.args.scale.now c.args.home.now.cell c.args.home.now.own c.byte_len.result c.requires.home.box c.byte_len.ensures in
    omega (arith, len.first, room_seg c.args.scale.now c.requires.decoded)
