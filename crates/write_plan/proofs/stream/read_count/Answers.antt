use Rattle.std.proofs.Common.{arith, sym}
use Rattle.std.proofs.lemmas.Result.{err_from_is_err_and}
use Rattle.write_plan.specs.Reading.{front}
use Rattle.write_plan.specs.declared.fault.PlanFault.TheVariants.{Truncated}
use Rattle.write_plan.proofs.FeedSteps.{limited_err, limited_ok, read_first, read_given, read_stopped, read_then}
use Rattle.write_plan.proofs.MarkSteps.{read_marked, read_short, read_unmarked}
use Rattle.write_plan.proofs.stream.read_count.Goals as goal

pub returns-in_err-read_front-clause-read : goal.returns-in_err-read_front-clause-read
returns-in_err-read_front-clause-read g c =
    let p = err_from_is_err_and c.from_residual.result c.from_residual.ensures.1 in
    rw (p.1, p.2) (read_short g.F.Feed.left g.F.Feed.faults _ _ _ _ _ c.in_err-read_front.ensures.read)

pub returns-then-not-is_mark-clause-read : goal.returns-then-not-is_mark-clause-read
returns-then-not-is_mark-clause-read g c = read_unmarked g.F.Feed.left g.F.Feed.faults _ _ _ _ _ c.in_ok-read_front.ensures.read (sym c.if-not-is_mark.ensures)

pub returns-in_err-read_front-2-clause-read : goal.returns-in_err-read_front-2-clause-read
returns-in_err-read_front-2-clause-read g c =
    let p = err_from_is_err_and c.from_residual-in_err-read_front-2.result c.from_residual-in_err-read_front-2.ensures.1 in
    rw (p.1, p.2)
    (read_marked g.F.Feed.left g.F.Feed.faults _ _ _ _ _ _ _ c.in_ok-read_front.ensures.read (sym c.if-not-is_mark.ensures)
    (read_first g.F.Feed.left g.F.Feed.faults _ _ 4 4 (front 4 (Truncated 0)) _ _ _ _ c.in_err-read_front-2.ensures.read (omega arith)))

pub returns-then-count-gt-MOST_WRITES-clause-read : goal.returns-then-count-gt-MOST_WRITES-clause-read
returns-then-count-gt-MOST_WRITES-clause-read g c =
    read_marked g.F.Feed.left g.F.Feed.faults _ _ _ _ _ _ _ c.in_ok-read_front.ensures.read (sym c.if-not-is_mark.ensures)
    (read_then g.F.Feed.left g.F.Feed.faults _ _ _ 4 0 4 (front 4 (Truncated 0)) _ _ _ _ _ c.in_ok-read_front-2.ensures.read
    (read_stopped g.F.Feed.left g.F.Feed.faults _ 0 _ _ _ (λ is. cc is) (λ t rest. limited_err _ _ rest c.from_le_bytes-count.ensures c.if-count-gt-MOST_WRITES.true)) (omega arith))

pub returns-clause-read : goal.returns-clause-read
returns-clause-read g c =
    read_marked g.F.Feed.left g.F.Feed.faults _ _ _ _ _ _ _ c.in_ok-read_front.ensures.read (sym c.if-not-is_mark.ensures)
    (read_then g.F.Feed.left g.F.Feed.faults _ _ _ 4 0 4 (front 4 (Truncated 0)) _ _ _ _ _ c.in_ok-read_front-2.ensures.read
    (read_given g.F.Feed.left g.F.Feed.faults _ 0 _ _ _ (λ rest. limited_ok _ _ rest c.from_le_bytes-count.ensures c.if-count-gt-MOST_WRITES.false)) (omega arith))
