use Rattle.std.proofs.Common.{ap, length, ◌∙◌}
use Rattle.std.proofs.lemmas.List.{length-map}
use Rattle.vol_spec.specs.StoredCells.{met_cells}
use Rattle.vol_spec.specs.StoredLists.{in_key_order}
use Rattle.chunk_grid.proofs.OrderSteps.{AreInOrder-met_cells}
use Rattle.write_plan.specs.Jobs.{job_of}
use Rattle.write_plan.proofs.KeySteps.{distinct_cells, length-in_key_order}
use Rattle.update_trials.proofs.stored.count_met.Goals as goal

pub returns : goal.returns
returns c =
    let s = c.args.plan.now.scale in
    let cells = met_cells c.args.plan.now.scale c.args.plan.now.writes in
    let order = AreInOrder-met_cells c.args.plan.now.scale c.args.plan.now.writes in
    c.len.ensures ∙ ap length c.jobs.ensures
    ∙ length-map (in_key_order c.args.plan.now.scale (met_cells c.args.plan.now.scale c.args.plan.now.writes)) (job_of c.args.plan.now.scale)
    ∙ length-in_key_order s cells order.each (distinct_cells s cells order)
