use Rattle.std.proofs.Common.{arith, get_or}
use Rattle.std.proofs.lemmas.List.{get_or_default}
use Rattle.cell_lists.proofs.CountSteps.{Counts-all, Counts-more, Counts-none, count_free}
use Rattle.cell_lists.proofs.counting.count_ids.Goals as goal

pub loop-id-init : goal.loop-id-init
loop-id-init c = record { counted = λ test first up new. Counts-none c.args.scale.now test c.args.plan.now.writes c.args.ids.now c.args.found.now first; short = λ h. h; few = omega arith }

pub loop-id-preserved : goal.loop-id-preserved
loop-id-preserved c = record {
  counted = λ test first up new.
      let id = get_or c.args.ids.now c.loop-id.id-index 0 in
      let at = get_or_default c.args.ids.now c.loop-id.id-index id 0 c.loop-id-test.true in
      Counts-more c.args.scale.now test c.args.plan.now.writes c.args.ids.now c.count_id.new.found c.loop-id.id-index id c.loop-id-test.true at
      (c.in_ok-count_id.ensures.counted _ (c.loop-id.invariant.counted test first up new) (count_free c.args.scale.now test c.args.plan.now.writes c.args.ids.now c.loop-id.id-index id up new c.loop-id-test.true at));
  short = λ h. c.in_ok-count_id.ensures.short (c.loop-id.invariant.short h);
  few = omega (arith, c.loop-id.invariant.few, c.in_ok-count_id.ensures.few);
}

pub returns-clause-counted : goal.returns-clause-counted
returns-clause-counted c = λ test first up new. Counts-all c.args.scale.now test c.args.plan.now.writes c.args.ids.now c.loop-id.found c.loop-id.id-index (omega (arith, c.loop-id-test.false)) (c.loop-id.invariant.counted test first up new)
