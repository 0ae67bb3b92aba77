use Rattle.std.proofs.Common.{◌∙◌}
use Rattle.copy_laws.proofs.TwinSteps.{said_is}
use Rattle.copier.proofs.filling.put_said.Goals as goal

pub returns : goal.returns
returns c = said_is c.args.to.now c.args.own.cell _ c.decode_cell.new.values c.requires.chunk.in_grid c.tell_bytes.ensures (c.decode_cell.auto.values ∙ c.requires.len) c.in-Ok.ensures.values
