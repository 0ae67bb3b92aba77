use Rattle.std.proofs.Common.{refl, subst, sym}
use Rattle.std.specs.Prelude.{All}
use Rattle.vol_base.specs.Bytes.{AreBytes}
use Rattle.vol_base.proofs.Moments.{passes_none}
use Rattle.update_cmd.proofs.MomentSteps.{over_as}
use Rattle.update_cmd.proofs.BegunSteps.{begun_as}
use Rattle.update_cmd.proofs.UpdateSteps.{jobs_few, jobs_told, none_put, updates_as}
use Rattle.update_cmd.proofs.updating.put_cells.Goals as goal

pub of-requires-clause-each : goal.of-requires-clause-each
of-requires-clause-each g c = c.requires.distinct.each

pub of-requires-clause-distinct : goal.of-requires-clause-distinct
of-requires-clause-distinct g c = c.requires.distinct.distinct

pub put_updates-requires-clause-few : goal.put_updates-requires-clause-few
put_updates-requires-clause-few g c κs within = jobs_few c.args.stored.now.scale c.args.cells.items _ c.requires.distinct c.in-Ok.ensures.jobs c.requires.few

pub put_updates-requires-clause-jobs : goal.put_updates-requires-clause-jobs
put_updates-requires-clause-jobs g c κs within =
    jobs_told (g.S.Source.objects c.args.store.now) c.in-Ok.updater c.args.stored.now.dataset c.args.stored.now.scale c.args.plan.writes c.args.cells.items c.in-Ok.ensures.writes c.in-Ok.ensures.jobs c.requires.listed

pub put_updates-requires-clause-written : goal.put_updates-requires-clause-written
put_updates-requires-clause-written g c κs within = subst (λ ws. All (λ write. AreBytes write.1) ws) (sym c.in-Ok.ensures.writes) c.requires.written

pub returns-in-Ok-clause-updates : goal.returns-in-Ok-clause-updates
returns-in-Ok-clause-updates g c =
    updates_as (g.S.Source.objects c.args.store.now) (g.S.Source.objects c.put_updates.new.store) c.put_updates.result c.args.stored.now.dataset c.args.stored.now.scale _ c.args.plan.writes c.in-Ok.ensures.writes c.put_updates.ensures.updates

pub returns-in-Err-clause-updates : goal.returns-in-Err-clause-updates
returns-in-Err-clause-updates g c = none_put c.args.stored.now.dataset c.args.stored.now.scale c.args.plan.writes (g.S.Source.objects c.args.store.now)

pub returns-in-Ok-clause-begun : goal.returns-in-Ok-clause-begun
returns-in-Ok-clause-begun g c =
    begun_as (g.S.Source.objects c.args.store.now) (g.S.Source.objects c.put_updates.new.store) c.args.stored.now.dataset c.args.stored.now.scale _ c.args.plan.writes (g.S.Source.draft c.args.store.now) (g.S.Source.draft c.put_updates.new.store)
    c.in-Ok.ensures.writes c.put_updates.ensures.begun

pub returns-in-Ok-clause-killed : goal.returns-in-Ok-clause-killed
returns-in-Ok-clause-killed g c =
    over_as (g.S.Source.objects c.args.store.now) c.args.stored.now.dataset c.args.stored.now.scale c.in-Ok.updater.writes c.args.plan.writes (g.S.Source.history c.args.store.now) (g.S.Source.history c.put_updates.new.store) c.in-Ok.ensures.writes c.put_updates.ensures.killed

pub returns-in-Err-clause-killed : goal.returns-in-Err-clause-killed
returns-in-Err-clause-killed g c = passes_none _ _ _ refl
