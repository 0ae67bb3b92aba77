use Rattle.std.proofs.Common.{arith, length, drop, ◌-◌, ◌∙◌, ap}
use Rattle.std.specs.Option.{option_map}
use Rattle.std.proofs.lemmas.Grind.{common_steps}
use Rattle.write_plan.proofs.FeedSteps.{drop_twice, came_more}
use Rattle.write_plan.proofs.bytes.read_front.Goals as goal

pub loop-done-preserved : goal.loop-done-preserved
loop-done-preserved g c = record {
  within = grind (arith, common_steps, c.in_ok-n.ensures.within, c.read.auto.out);
  came = came_more (g.F.Feed.left c.args.feed.now) (g.F.Feed.left c.loop-done.feed) c.loop-done.done c.in_ok-n.n (length c.loop-done.buffer - c.loop-done.done) c.loop-done.buffer c.read.new.out c.loop-done.invariant.left
      (grind (arith, common_steps, c.in_ok-n.ensures.within)) (grind (arith, common_steps, c.in_ok-n.ensures.within)) (grind (arith, common_steps, c.in_ok-n.ensures.within, c.read.auto.out)) c.loop-done.invariant.came c.in_ok-n.ensures.read;
  bytes = λ i. omega (arith, c.type_inv.buffer i);
  left = c.in_ok-n.ensures.left ∙ ap (option_map (drop c.in_ok-n.n)) c.loop-done.invariant.left ∙ drop_twice (g.F.Feed.left c.args.feed.now) c.loop-done.done c.in_ok-n.n;
  later = omega (arith, c.loop-done.invariant.later, c.in_ok-n.ensures.cause.stands);
}
