use Rattle.std.proofs.Common.{◌∙◌, IfSome, Ok, ap, arith, length, subst, sym, take}
use Rattle.chunk_grid.proofs.GridSteps.{cell_box-short}
use Rattle.vol_spec.specs.Encodings.{raw_size}
use Rattle.copier.specs.Frames.{KeepsBy, values_by}
use Rattle.copier.specs.Held.{IsFilled, ReadsJob}
use Rattle.copier.proofs.HeldSteps.{same_items}
use Rattle.copier.proofs.TakingSteps.{failed_job, own_filled}
use Rattle.copier.proofs.reading.read_frame.Goals as goal

pub read_job-requires-clause-len : goal.read_job-requires-clause-len
read_job-requires-clause-len g c =
    let short = cell_box-short c.args.to.now c.args.cell in
    let same = ap length c.deref_mut.ensures.value in
    omega (arith, short, same, c.fill_up.ensures.filled)

pub returns-in-Ok-clause-read : goal.returns-in-Ok-clause-read
returns-in-Ok-clause-read g c =
    subst (λ bytes. IfSome (g.S.Source.objects c.args.store.now) (λ m. ReadsJob (Ok tt) m c.args.reader.now.opened.dataset c.args.reader.now.opened.scale c.args.to.now c.args.cell (take (raw_size c.args.to.now c.args.cell) (values_by c.args.to.now c.in-Ok.own bytes))))
    (sym (same_items c.fill_up.new.frame c.read_job.new.frame (c.read_job.ensures.len ∙ ap length c.deref_mut.ensures.value))) c.in-Ok.ensures.read

pub returns-in-Err-clause-read : goal.returns-in-Err-clause-read
returns-in-Err-clause-read g c = failed_job (g.S.Source.objects c.args.store.now) c.args.reader.now.opened.dataset c.args.reader.now.opened.scale c.args.to.now c.args.cell c.in-Err.fault c.read_job.new.frame _ c.in-Err.ensures.read

pub returns-in-Ok-clause-filled : goal.returns-in-Ok-clause-filled
returns-in-Ok-clause-filled g c =
    subst (λ bytes. IsFilled c.args.to.now (values_by c.args.to.now c.in-Ok.own bytes)) (sym (same_items c.fill_up.new.frame c.read_job.new.frame (c.read_job.ensures.len ∙ ap length c.deref_mut.ensures.value)))
    (own_filled c.args.to.now c.in-Ok.own c.read_job.new.frame (c.read_job.ensures.len ∙ ap length c.deref_mut.ensures.value ∙ c.fill_up.ensures.filled))

pub returns-in-Ok-clause-chunk : goal.returns-in-Ok-clause-chunk
returns-in-Ok-clause-chunk g c =
    subst (KeepsBy c.args.to.now c.args.cell c.in-Ok.own) (sym (same_items c.fill_up.new.frame c.read_job.new.frame (c.read_job.ensures.len ∙ ap length c.deref_mut.ensures.value))) c.in-Ok.ensures.chunk
