use Rattle.std.proofs.Common.{◌≡◌, ◌∙◌, ap, arith, subst, sym}
use Rattle.std.specs.Prelude.{IsTrue, filter}
use Rattle.vol_spec.specs.Copies.{AreOfOneVolume}
use Rattle.vol_spec.specs.Grid.{cells_on, numbers_on}
use Rattle.vol_spec.specs.StoredLists.{in_key_order}
use Rattle.vol_spec.specs.declared.scale.Scale.{Scale}
use Rattle.chunk_laws.specs.Told.{is_listed}
use Rattle.cutout.specs.Kept.{Keeping}
use Rattle.cutout.specs.Opened.{Opened}
use Rattle.write_plan.specs.Jobs.{cells_in}
use Rattle.copy_laws.specs.Twins.{AreTwins}
use Rattle.copier.specs.Frames.{IsHeldIn, holding_frames}
use Rattle.copier.proofs.HeldSteps.{held_cells}
use Rattle.copier.proofs.JobFrames.{frames_new}
use Rattle.copier.proofs.copier.Copier.of_cells.Goals as goal

pub invariant_of-result : goal.invariant_of-result
invariant_of-result c =
    let frames = c.in-Ok-reserve_jobs.frames.items in
    let twins = c.are_twins-twins.result in
    subst (λ (r : Opened). IsHeldIn (holding_frames r.dataset r.scale c.duplicate.result c.in-Ok-of.jobs 0 0 frames) c.in-Ok-of.jobs twins frames) (sym (ap (λ (k : Keeping). k.opened) c.in-Ok-keep_reader.ensures ∙ c.keeping.ensures))
    (subst (λ (s : Scale). IsHeldIn (holding_frames c.in-Ok.reader.dataset c.in-Ok.reader.scale s c.in-Ok-of.jobs 0 0 frames) c.in-Ok-of.jobs twins frames) (sym c.duplicate.ensures)
    (record {
      volume = subst (λ s. AreOfOneVolume s c.args.to.now) (sym c.in-Ok.ensures.scale) c.requires.volume;
      alike = subst (λ s. IsTrue twins → AreTwins s c.args.to.now) (sym c.in-Ok.ensures.scale) c.are_twins-twins.ensures;
      held = frames_new c.in-Ok.reader.dataset c.in-Ok.reader.scale c.args.to.now c.args.cells.items c.in-Ok-of.jobs frames
          c.requires.each c.in-Ok-of.ensures.jobs
          (omega (arith, c.in-Ok-reserve_jobs.ensures.count, c.min.ensures, c.window.ensures, c.len.ensures)) c.in-Ok-reserve_jobs.ensures.each;
      rooms = c.in-Ok-reserve_jobs.ensures.each;
      chunks = λ k d l. absurd (omega (arith, l));
    }))

pub returns-clause-jobs : goal.returns-clause-jobs
returns-clause-jobs c =
    subst (λ (s : Scale). in_key_order s (filter (is_listed (cells_in c.in-Ok-of.jobs)) (numbers_on (cells_on s))) ≡ in_key_order c.args.to.now c.args.cells.items) (sym c.duplicate.ensures)
    (held_cells c.args.to.now c.args.cells.items c.in-Ok-of.jobs c.requires.each c.in-Ok-of.ensures.jobs)
