use Rattle.std.proofs.Common.{arith}
use Rattle.std.proofs.lemmas.Result.{err_from_is_err_and}
use Rattle.write_plan.specs.Reading.{front, box_at}
use Rattle.write_plan.specs.declared.fault.PlanFault.TheVariants.{Truncated}
use Rattle.write_plan.proofs.FeedSteps.{box_refused, box_gave, not_feed, read_first, read_given, read_stopped, read_then}
use Rattle.write_plan.proofs.stream.read_part.Goals as goal

pub returns-in_err-read_front-clause-read : goal.returns-in_err-read_front-clause-read
unfolding box_at
returns-in_err-read_front-clause-read g c =
    let p = err_from_is_err_and c.from_residual.result c.from_residual.ensures.1 in
    rw (p.1, p.2) (read_first g.F.Feed.left g.F.Feed.faults _ _ 48 48 (front 48 (Truncated c.args.number)) _ _ _ _ c.in_err-read_front.ensures.read (omega arith))

pub returns-in_err-len-clause-read : goal.returns-in_err-len-clause-read
unfolding box_at
returns-in_err-len-clause-read g c =
    let p = err_from_is_err_and c.from_residual-in_err-len.result c.from_residual-in_err-len.ensures.1 in
    rw (p.1, p.2)
    (read_then g.F.Feed.left g.F.Feed.faults _ _ _ 48 0 48 (front 48 (Truncated c.args.number)) _ _ _ _ _ c.in_ok-read_front.ensures.read
    (read_stopped g.F.Feed.left g.F.Feed.faults _ 0 _ _ _ (not_feed _ c.in_err-len.ensures.0)
    (λ t rest. box_refused c.args.scale.now c.args.number c.args.before c.read_front.new.buffer _ _ rest c.read_box-part.ensures c.in_err-len.ensures.1)) (omega arith))

pub returns-clause-read : goal.returns-clause-read
unfolding box_at
returns-clause-read g c =
    read_then g.F.Feed.left g.F.Feed.faults _ _ _ 48 0 48 (front 48 (Truncated c.args.number)) _ _ _ _ _ c.in_ok-read_front.ensures.read
    (read_given g.F.Feed.left g.F.Feed.faults _ 0 _ _ _
    (λ rest. box_gave c.args.scale.now c.args.number c.args.before c.read_front.new.buffer _ rest c.read_box-part.ensures c.in_ok-len.ensures.sound)) (omega arith)
