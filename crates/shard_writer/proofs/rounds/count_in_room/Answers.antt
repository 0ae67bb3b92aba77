use Rattle.std.proofs.Common.{arith}
use Rattle.write_plan.proofs.SizeSteps.{some_bytes}
use Rattle.shard_writer.proofs.rounds.count_in_room.Goals as goal

pub nonzero_div-result : goal.nonzero_div-result
nonzero_div-result c = let some = some_bytes c.args.scale.now in omega (arith, c.max.ensures, c.raw_limit.ensures)
