use Rattle.view_writer.proofs.PlanSteps.{few_jobs, front_done, plan_passed, put_done}
use Rattle.view_writer.proofs.view.put_plan.Goals as goal

pub write_scale-requires-clause-few : goal.write_scale-requires-clause-few
write_scale-requires-clause-few g c κs within = few_jobs c.args.plan.now c.args.view.now c.requires.scale c.requires.few

pub returns-in-Ok-clause-put : goal.returns-in-Ok-clause-put
returns-in-Ok-clause-put g c =
    put_done c.in-Ok.written (g.S.Source.objects c.args.store.now) (g.S.Source.objects c.write_scale.new.store) c.args.plan.now c.args.dataset.now c.args.view.now c.requires.scale
    c.in-Ok.ensures.objects c.in-Ok.ensures.cells c.in-Ok.ensures.bytes c.in-Ok.ensures.put

pub returns-in-Err-StoreFault-clause-front : goal.returns-in-Err-StoreFault-clause-front
returns-in-Err-StoreFault-clause-front g c =
    front_done (g.S.Source.objects c.args.store.now) (g.S.Source.objects c.write_scale.new.store) c.args.plan.now c.args.dataset.now c.args.view.now c.requires.scale c.in-Err-StoreFault.ensures.front

pub returns-in-Err-OutOfMemory-clause-front : goal.returns-in-Err-OutOfMemory-clause-front
returns-in-Err-OutOfMemory-clause-front g c =
    front_done (g.S.Source.objects c.args.store.now) (g.S.Source.objects c.write_scale.new.store) c.args.plan.now c.args.dataset.now c.args.view.now c.requires.scale c.in-Err-OutOfMemory.ensures.front

pub returns-in-Ok-clause-killed : goal.returns-in-Ok-clause-killed
returns-in-Ok-clause-killed g c =
    plan_passed (g.S.Source.objects c.args.store.now) c.args.plan.now c.args.dataset.now c.args.view.now (g.S.Source.history c.args.store.now) (g.S.Source.history c.write_scale.new.store) c.requires.scale c.write_scale.ensures.killed

pub returns-in-Err-StoreFault-clause-killed : goal.returns-in-Err-StoreFault-clause-killed
returns-in-Err-StoreFault-clause-killed g c =
    plan_passed (g.S.Source.objects c.args.store.now) c.args.plan.now c.args.dataset.now c.args.view.now (g.S.Source.history c.args.store.now) (g.S.Source.history c.write_scale.new.store) c.requires.scale c.write_scale.ensures.killed

pub returns-in-Err-OutOfMemory-clause-killed : goal.returns-in-Err-OutOfMemory-clause-killed
returns-in-Err-OutOfMemory-clause-killed g c =
    plan_passed (g.S.Source.objects c.args.store.now) c.args.plan.now c.args.dataset.now c.args.view.now (g.S.Source.history c.args.store.now) (g.S.Source.history c.write_scale.new.store) c.requires.scale c.write_scale.ensures.killed
