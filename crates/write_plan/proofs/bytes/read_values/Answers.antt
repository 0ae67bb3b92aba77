use Rattle.std.proofs.Common.{arith, ◌≡◌, length, drop, List, ℕ, IfSome}
use Rattle.std.specs.Option.{option_map}
use Rattle.std.proofs.lemmas.Grind.{common_steps}
use Rattle.std.proofs.lemmas.Result.{err_from_is_err_and}
use Rattle.write_plan.specs.Readers.{IsFront}
use Rattle.write_plan.proofs.FeedSteps.{came_on, read_short}
use Rattle.write_plan.proofs.bytes.read_values.Goals as goal

pub loop-fault-preserved : goal.loop-fault-preserved
loop-fault-preserved g c =
    let now : List ℕ = c.read_more.new.bytes.items in
    let before : List ℕ = c.loop-fault.bytes.items in
    let on : IfSome (g.F.Feed.left c.args.feed.now) (IsFront (length now) now) × (g.F.Feed.left c.read_more.new.feed ≡ option_map (drop (length now)) (g.F.Feed.left c.args.feed.now)) =
    came_on (g.F.Feed.left c.args.feed.now) (g.F.Feed.left c.loop-fault.feed) (g.F.Feed.left c.read_more.new.feed) c.min-count.result c.args.fault before now c.loop-fault.invariant.left c.loop-fault.invariant.came c.in_ok-read_more.ensures.read.answer c.in_ok-read_more.ensures.front c.in_ok-read_more.ensures.len in
    record {
      within = grind (arith, common_steps, c.in_ok-read_more.ensures.len, c.loop-fault.invariant.within);
      came = on.0;
      left = on.1;
      room = grind (arith, common_steps, c.in_ok-read_more.ensures.room, c.loop-fault.invariant.room);
      later = grind (arith, common_steps, c.in_ok-read_more.ensures.read.cause, c.loop-fault.invariant.later);
    }

pub returns-in_err-read_more-clause-read : goal.returns-in_err-read_more-clause-read
returns-in_err-read_more-clause-read g c =
    let p = err_from_is_err_and c.from_residual-in_err-read_more.result c.from_residual-in_err-read_more.ensures.1 in
    rw (p.1, p.2)
    (read_short g.F.Feed.left g.F.Feed.faults c.args.feed.now c.loop-fault.feed c.read_more.new.feed (length c.loop-fault.bytes.items) c.min-count.result c.args.len c.args.fault _ _ c.in_err-read_more.field-0.0
    c.loop-fault.invariant.left c.loop-fault.invariant.later (grind (arith, common_steps, c.loop-fault.invariant.within)) c.in_err-read_more.ensures.read)
