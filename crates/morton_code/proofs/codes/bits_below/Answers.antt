use Rattle.morton_code.proofs.Steps.{height}
use Rattle.morton_code.proofs.codes.bits_below.Goals as goal

pub returns-clause-small : goal.returns-clause-small
returns-clause-small c = (height c.args.size c.requires.some c.requires.limit).0

pub returns-clause-size : goal.returns-clause-size
returns-clause-size c = (height c.args.size c.requires.some c.requires.limit).1
