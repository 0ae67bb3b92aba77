use Rattle.std.proofs.Common.{◌≡◌, OnOk, arith, subst}
use Rattle.shard_writer.specs.Writing.{BeginsNext, Drops}
use Rattle.vol_base.proofs.Moments.{passes_none}
use Rattle.shard_writer.proofs.FrontSteps.{passed_behind}
use Rattle.cell_lists.specs.Lists.{Lists}
use Rattle.update_laws.specs.Overlaid.{is_after}
use Rattle.write_cmd.proofs.PlanSteps.{few_cells}
use Rattle.update_cmd.proofs.BegunSteps.{begun_read}
use Rattle.update_cmd.proofs.UpdateSteps.{late_kept, listed_told, planned_told, refused_kept, refused_told}
use Rattle.update_cmd.specs.Updating.{update_list}
use Rattle.update_cmd.proofs.updating.update_planned.Goals as goal

pub gather_cells-requires-clause-few : goal.gather_cells-requires-clause-few
gather_cells-requires-clause-few g c = let few = few_cells c.args.stored.now.scale c.args.plan.writes in omega (arith, few, c.requires.few)

pub put_cells-requires-clause-listed : goal.put_cells-requires-clause-listed
put_cells-requires-clause-listed g c κs within =
    listed_told c.args.stored.now.dataset c.args.stored.now.scale c.args.plan.writes (g.S.Source.objects c.args.store.now) (g.S.Source.objects c.gather_cells.new.store)
    (λ m. Lists c.args.stored.now.scale (is_after m c.args.stored.now.dataset c.args.stored.now.scale c.args.plan.writes) c.in-Ok.cells.items) c.gather_cells.ensures.reads.kept.same_objects c.in-Ok.ensures.gathers

pub returns-in-Ok-clause-updates : goal.returns-in-Ok-clause-updates
returns-in-Ok-clause-updates g c =
    planned_told c.args.stored.now.dataset c.args.stored.now.scale c.args.plan.writes c.put_cells.result (g.S.Source.objects c.args.store.now) (g.S.Source.objects c.gather_cells.new.store) (g.S.Source.objects c.put_cells.new.store)
    (λ m. Lists c.args.stored.now.scale (is_after m c.args.stored.now.dataset c.args.stored.now.scale c.args.plan.writes) c.in-Ok.cells.items) c.gather_cells.ensures.reads.kept.same_objects c.in-Ok.ensures.gathers c.put_cells.ensures.updates

pub returns-in-Err-clause-updates : goal.returns-in-Err-clause-updates
returns-in-Err-clause-updates g c =
    refused_told c.args.stored.now.dataset c.args.stored.now.scale c.args.plan.writes (g.S.Source.objects c.args.store.now) (g.S.Source.objects c.gather_cells.new.store) c.in-Err.refusal c.refuse.result
    (λ m cells. Lists c.args.stored.now.scale (is_after m c.args.stored.now.dataset c.args.stored.now.scale c.args.plan.writes) cells.items) c.refuse.ensures c.gather_cells.ensures.reads.kept.same_objects c.in-Err.ensures.gathers

pub returns-in-Ok-clause-kept : goal.returns-in-Ok-clause-kept
returns-in-Ok-clause-kept g c =
    late_kept c.put_cells.result (g.S.Source.objects c.args.store.now) (g.S.Source.objects c.put_cells.new.store) (g.S.Source.draft c.args.store.now) (g.S.Source.draft c.put_cells.new.store) c.put_cells.ensures.late

pub returns-in-Err-clause-kept : goal.returns-in-Err-clause-kept
returns-in-Err-clause-kept g c =
    refused_kept c.in-Err.refusal c.refuse.result (g.S.Source.objects c.args.store.now) (g.S.Source.objects c.gather_cells.new.store) (g.S.Source.draft c.args.store.now) (g.S.Source.draft c.gather_cells.new.store) c.refuse.ensures c.gather_cells.ensures.reads.kept

pub returns-in-Ok-clause-unsharded : goal.returns-in-Ok-clause-unsharded
returns-in-Ok-clause-unsharded g c = λ unsharded.
    subst (λ draft. Drops draft (g.S.Source.draft c.put_cells.new.store)) c.gather_cells.ensures.reads.kept.same_draft (c.put_cells.ensures.unsharded unsharded)

pub returns-in-Ok-clause-cause : goal.returns-in-Ok-clause-cause
returns-in-Ok-clause-cause g c = record {
  later = omega (arith, c.put_cells.ensures.cause.later, c.gather_cells.ensures.reads.cause.later);
  failed = λ failed. omega (arith, c.put_cells.ensures.cause.failed failed, c.gather_cells.ensures.reads.cause.later);
  stands = subst (λ n. OnOk c.put_cells.result (g.S.Source.faults c.put_cells.new.store ≡ n)) c.in-Ok.ensures.reads.cause.stands c.put_cells.ensures.cause.stands;
}

pub returns-in-Ok-clause-begun : goal.returns-in-Ok-clause-begun
returns-in-Ok-clause-begun g c =
    begun_read (λ m. BeginsNext (update_list m c.args.stored.now.dataset c.args.stored.now.scale c.args.plan.writes) m (g.S.Source.objects c.put_cells.new.store) (g.S.Source.draft c.put_cells.new.store))
    (g.S.Source.objects c.args.store.now) (g.S.Source.objects c.gather_cells.new.store) (g.S.Source.draft c.args.store.now) (g.S.Source.draft c.gather_cells.new.store) (g.S.Source.draft c.put_cells.new.store)
    c.gather_cells.ensures.reads.kept.same_objects c.gather_cells.ensures.reads.kept.same_draft c.put_cells.ensures.begun

pub returns-in-Ok-clause-killed : goal.returns-in-Ok-clause-killed
returns-in-Ok-clause-killed g c =
    passed_behind (λ m. update_list m c.args.stored.now.dataset c.args.stored.now.scale c.args.plan.writes) (g.S.Source.objects c.args.store.now) (g.S.Source.objects c.gather_cells.new.store) (g.S.Source.history c.args.store.now) (g.S.Source.history c.gather_cells.new.store) (g.S.Source.history c.put_cells.new.store)
    c.gather_cells.ensures.reads.kept.same_objects c.gather_cells.ensures.reads.history c.put_cells.ensures.killed

pub returns-in-Err-clause-killed : goal.returns-in-Err-clause-killed
returns-in-Err-clause-killed g c = passes_none _ _ _ c.gather_cells.ensures.reads.history
