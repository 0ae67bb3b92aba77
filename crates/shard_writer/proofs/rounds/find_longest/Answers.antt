use Rattle.std.proofs.Common.{ap, arith, length}
use Rattle.shard_writer.proofs.RoundSteps.{longest_none, longest_on}
use Rattle.shard_writer.proofs.rounds.find_longest.Goals as goal

pub loop-k-init : goal.loop-k-init
loop-k-init c = record { most = longest_none c.args.bench.now 0 }

pub loop-k-preserved : goal.loop-k-preserved
loop-k-preserved c = record { most = longest_on c.args.bench.now c.loop-k.k c.loop-k.longest _ c.loop-k.invariant.most (omega (arith, c.max-longest.ensures, ap length c.done.ensures)) }
