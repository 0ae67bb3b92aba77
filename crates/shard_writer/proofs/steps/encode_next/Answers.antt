use Rattle.std.proofs.Common.{arith}
use Rattle.shard_writer.proofs.RoundSteps.{prepared_part}
use Rattle.shard_writer.proofs.steps.encode_next.Goals as goal

pub encode_jobs-encoded-requires-clause-jobs : goal.encode_jobs-encoded-requires-clause-jobs
encode_jobs-encoded-requires-clause-jobs g c κs within =
    prepared_part c.args.scale.now (g.C.Chunks.work c.args.chunks.now) (g.C.Chunks.ready c.args.chunks.now) c.args.job c.args.ahead.prepared c.args.job c.min-to.result
    (omega arith) (omega (arith, c.min-to.ensures, c.requires.job)) (omega (arith, c.min-to.ensures)) c.requires.ahead.jobs
