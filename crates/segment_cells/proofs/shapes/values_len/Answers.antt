use Rattle.std.proofs.Common.{arith}
use Rattle.segment_cells.proofs.CellSteps.{cell_len}
use Rattle.segment_cells.proofs.shapes.values_len.Goals as goal

pub overflow_cast-result : goal.overflow_cast-result
overflow_cast-result c =
    let len = cell_len c.args.scale.now c.args.cell c.cell_box.result c.byte_len.result c.cell_box.ensures.positions c.byte_len.ensures in
    omega (arith, len.small)

pub returns-clause-len : goal.returns-clause-len
returns-clause-len c = (cell_len c.args.scale.now c.args.cell c.cell_box.result c.byte_len.result c.cell_box.ensures.positions c.byte_len.ensures).is

pub returns-clause-small : goal.returns-clause-small
returns-clause-small c = (cell_len c.args.scale.now c.args.cell c.cell_box.result c.byte_len.result c.cell_box.ensures.positions c.byte_len.ensures).small

pub returns-clause-first : goal.returns-clause-first
returns-clause-first c = (cell_len c.args.scale.now c.args.cell c.cell_box.result c.byte_len.result c.cell_box.ensures.positions c.byte_len.ensures).first
