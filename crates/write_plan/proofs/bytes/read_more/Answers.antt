use Rattle.std.proofs.Common.{arith}
use Rattle.std.proofs.lemmas.Grind.{common_steps}
use Rattle.write_plan.proofs.FeedSteps.{read_placed}
use Rattle.write_plan.proofs.bytes.read_more.Goals as goal

pub returns-clause-read : goal.returns-clause-read
returns-clause-read g c =
    read_placed g.F.Feed.left g.F.Feed.faults _ _ _ c.args.count c.args.fault c.read_front.new.buffer _ c.read_front.result
    (grind (arith, common_steps, c.deref_mut.ensures.len, c.len-done.ensures, c.in-Ok.ensures.len))
    (grind (arith, common_steps, c.read_front.auto.buffer, c.deref_mut.ensures.len, c.len-done.ensures, c.in-Ok.ensures.len))
    c.read_front.ensures.read
