use Rattle.std.proofs.Common.{◌≡◌, ◌∙◌, arith, length, ap, subst, sym}
use Rattle.vol_spec.specs.Grid.{IsCell, cell_box}
use Rattle.vol_spec.specs.Raw.{raw_len}
use Rattle.vol_spec.specs.declared.scale.Scale.{Scale}
use Rattle.write_plan.proofs.PlanSteps.{counted_bytes, job_in_grid, job_room}
use Rattle.grid_trials.proofs.write_plan_rows.fill_job.Goals as goal

pub cell_box-part-requires : goal.cell_box-part-requires
cell_box-part-requires c =
    subst (λ (s : Scale). IsCell s c.get.result.cell) c.requires.scale
    (job_in_grid c.args.plan.now.scale c.args.plan.now.writes c.jobs.result.now c.get.result c.args.job c.jobs.ensures c.get.ensures c.requires.job)

pub overflow_cast-len : goal.overflow_cast-len
overflow_cast-len c =
    let counted = counted_bytes c.args.scale.now c.get.result.cell c.cell_box-part.result c.byte_len-len.result c.cell_box-part.ensures.positions c.byte_len-len.ensures in
    omega (arith, counted.small)

pub fill-requires : goal.fill-requires
fill-requires c =
    let counted = counted_bytes c.args.scale.now c.get.result.cell c.cell_box-part.result c.byte_len-len.result c.cell_box-part.ensures.positions c.byte_len-len.ensures in
    let len : length c.deref_mut.result.now ≡ c.byte_len-len.result = omega (arith, c.deref_mut.ensures.len, c.in_ok-raw.ensures.len) in
    job_room c.args.plan.now c.jobs.result.now c.get.result c.args.job _ c.jobs.ensures c.get.ensures c.requires.job
    (len ∙ counted.len ∙ ap (λ (s : Scale). raw_len (cell_box s c.get.result.cell) s.channels s.width) (sym c.requires.scale))
