use Rattle.std.proofs.Common.{◌≤◌, ◌^◌, ◌∙◌, IfSome, ap, refl, subst, sym}
use Rattle.vol_base.proofs.Moments.{passes_none}
use Rattle.shard_writer.specs.Works.{PassesFronts}
use Rattle.vol_spec.specs.Writable.{IsWritable}
use Rattle.vol_spec.specs.declared.scale.Scale.{Scale}
use Rattle.write_cmd.proofs.PlanSteps.{few_pairs}
use Rattle.write_plan.specs.Plans.{Planned, pairs}
use Rattle.command_base.proofs.StoredSteps.{of_stored}
use Rattle.update_cmd.proofs.MomentSteps.{over_as}
use Rattle.update_cmd.specs.Updating.{update_list}
use Rattle.update_cmd.proofs.BegunSteps.{begun_as}
use Rattle.update_cmd.proofs.UpdateSteps.{scale_told, unplanned_kept, unplanned_told}
use Rattle.update_cmd.specs.Putting.{DropsOrUpdates, UpdatesPlanned}
use Rattle.update_cmd.proofs.updating.update.Goals as goal

pub update_planned-requires-clause-writable : goal.update_planned-requires-clause-writable
update_planned-requires-clause-writable g c κs within = subst IsWritable (sym c.of-stored.ensures.scale) c.requires.writable

pub update_planned-requires-clause-few : goal.update_planned-requires-clause-few
update_planned-requires-clause-few g c κs within =
    subst (λ (s : Scale). pairs s c.in-Ok.plan.writes ≤ 2 ^ 22) (sym c.of-stored.ensures.scale)
    (subst (λ ws. pairs c.args.scale.now ws ≤ 2 ^ 22) (ap (λ (p : Planned). p.writes) (sym c.in-Ok.ensures.plan)) (few_pairs c.in-Ok.plan (pairs c.args.scale.now c.args.writes) (2 ^ 22) c.in-Ok.ensures.too_many))

pub returns-in-Ok-clause-updates : goal.returns-in-Ok-clause-updates
returns-in-Ok-clause-updates g c =
    scale_told c.args.dataset.now c.args.scale.now c.args.writes c.update_planned.result (g.S.Source.objects c.args.store.now) (g.S.Source.objects c.update_planned.new.store) c.in-Ok.plan.writes (ap (λ (p : Planned). p.writes) c.in-Ok.ensures.plan)
    (few_pairs c.in-Ok.plan (pairs c.args.scale.now c.args.writes) (2 ^ 22) c.in-Ok.ensures.too_many)
    (of_stored (λ d s. IfSome (g.S.Source.objects c.args.store.now) (λ m. UpdatesPlanned c.update_planned.result m (g.S.Source.objects c.update_planned.new.store) d s c.in-Ok.plan.writes))
    c.of-stored.result.dataset c.args.dataset.now c.of-stored.result.scale c.args.scale.now c.of-stored.ensures.dataset c.of-stored.ensures.scale c.update_planned.ensures.updates)

pub returns-in-Err-clause-updates : goal.returns-in-Err-clause-updates
returns-in-Err-clause-updates g c = unplanned_told c.args.dataset.now c.args.scale.now c.args.writes c.in-Err.refusal c.refuse_plan.result (g.S.Source.objects c.args.store.now) c.refuse_plan.ensures c.in-Err.ensures.too_many

pub returns-in-Err-clause-kept : goal.returns-in-Err-clause-kept
returns-in-Err-clause-kept g c = unplanned_kept c.in-Err.refusal c.refuse_plan.result (g.S.Source.objects c.args.store.now) (g.S.Source.draft c.args.store.now) c.refuse_plan.ensures

pub returns-in-Ok-clause-begun : goal.returns-in-Ok-clause-begun
returns-in-Ok-clause-begun g c =
    begun_as (g.S.Source.objects c.args.store.now) (g.S.Source.objects c.update_planned.new.store) c.args.dataset.now c.args.scale.now c.in-Ok.plan.writes c.args.writes (g.S.Source.draft c.args.store.now)
    (g.S.Source.draft c.update_planned.new.store) (ap (λ (p : Planned). p.writes) c.in-Ok.ensures.plan)
    (of_stored (λ d s. DropsOrUpdates (g.S.Source.objects c.args.store.now) (g.S.Source.objects c.update_planned.new.store) d s c.in-Ok.plan.writes (g.S.Source.draft c.args.store.now) (g.S.Source.draft c.update_planned.new.store))
    c.of-stored.result.dataset c.args.dataset.now c.of-stored.result.scale c.args.scale.now c.of-stored.ensures.dataset c.of-stored.ensures.scale c.update_planned.ensures.begun)

pub returns-in-Ok-clause-unsharded : goal.returns-in-Ok-clause-unsharded
returns-in-Ok-clause-unsharded g c = λ unsharded. c.update_planned.ensures.unsharded (ap (λ (s : Scale). s.sharding) c.of-stored.ensures.scale ∙ unsharded)

pub returns-in-Ok-clause-killed : goal.returns-in-Ok-clause-killed
returns-in-Ok-clause-killed g c =
    over_as (g.S.Source.objects c.args.store.now) c.args.dataset.now c.args.scale.now c.in-Ok.plan.writes c.args.writes (g.S.Source.history c.args.store.now) (g.S.Source.history c.update_planned.new.store) (ap (λ (p : Planned). p.writes) c.in-Ok.ensures.plan)
    (of_stored (λ d s. PassesFronts (λ m. update_list m d s c.in-Ok.plan.writes) (g.S.Source.objects c.args.store.now) (g.S.Source.history c.args.store.now) (g.S.Source.history c.update_planned.new.store))
    c.of-stored.result.dataset c.args.dataset.now c.of-stored.result.scale c.args.scale.now c.of-stored.ensures.dataset c.of-stored.ensures.scale c.update_planned.ensures.killed)

pub returns-in-Err-clause-killed : goal.returns-in-Err-clause-killed
returns-in-Err-clause-killed g c = passes_none _ _ _ refl
