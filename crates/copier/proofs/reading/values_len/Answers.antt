use Rattle.std.proofs.Common.{arith}
use Rattle.copier.proofs.JobSteps.{job_short, len_is}
use Rattle.copier.proofs.reading.values_len.Goals as goal

pub overflow_cast-result : goal.overflow_cast-result
overflow_cast-result c = omega (arith, job_short c.args.scale.now c.args.cell c.byte_len.result (len_is c.args.scale.now c.args.cell c.cell_box-part.result c.byte_len.result c.cell_box-part.ensures.positions c.byte_len.ensures))

pub returns : goal.returns
returns c = len_is c.args.scale.now c.args.cell c.cell_box-part.result c.byte_len.result c.cell_box-part.ensures.positions c.byte_len.ensures
