use Rattle.shard_index.proofs.NameSteps.{hex_low, hex_high}
use Rattle.shard_index.proofs.names.hex_digit.Goals as goal

pub returns-then-digit-lt10 : goal.returns-then-digit-lt10
returns-then-digit-lt10 c = hex_low c.args.number c.args.place c.if-digit-lt10.true

pub returns-else-digit-lt10 : goal.returns-else-digit-lt10
returns-else-digit-lt10 c = hex_high c.args.number c.args.place c.if-digit-lt10.false
