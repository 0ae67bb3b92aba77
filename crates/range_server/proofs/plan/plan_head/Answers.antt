use Rattle.std.proofs.Common.{◌∙◌}
use Rattle.std.specs.Option.{option_map}
use Rattle.range_server.specs.Plans.{judged}
use Rattle.range_server.proofs.PlanSteps.{if_told, plan_read}
use Rattle.range_server.proofs.plan.plan_head.Goals as goal

pub returns-in-Ok-plan_parts-clause-reply : goal.returns-in-Ok-plan_parts-clause-reply
returns-in-Ok-plan_parts-clause-reply g c =
    if_told (g.S.Source.objects c.args.store.now) c.in-Ok-plan_parts.ensures.reply
    (λ m e. plan_read m c.args.dataset.now c.args.received.now c.args.spans.now c.args.parts.now c.in-Ok.fields c.has_body-body.result (option_map (λ b. b.now) c.find_range-range.result) c.closes-close.result c.in-Ok-plan_parts.reply
    c.requires.parts c.in-Ok.ensures c.has_body-body.ensures c.find_range-range.ensures c.closes-close.ensures
    (e ∙ (λ i. judged m c.args.dataset.now c.has_body-body.result (c.of-method.ensures i) (c.of-target.ensures i) (option_map (λ b. b.now) c.find_range-range.result) c.closes-close.result)))
