use Rattle.std.proofs.Common.{◌≡◌, ◌∙◌, ◌≤◌, ◌^◌, IfSome, ap, arith, length, subst, sym}
use Rattle.std.specs.Prelude.{IsTrue, filter}
use Rattle.vol_spec.specs.Copies.{AreOfOneVolume, copied_cells}
use Rattle.vol_spec.specs.Grid.{cells_on, numbers_on}
use Rattle.vol_spec.specs.StoredLists.{in_key_order}
use Rattle.vol_spec.specs.declared.scale.Scale.{Scale}
use Rattle.chunk_laws.specs.Told.{is_listed}
use Rattle.cutout.specs.Kept.{Keeping}
use Rattle.cutout.specs.Opened.{Opened}
use Rattle.write_plan.specs.Jobs.{cells_in}
use Rattle.write_plan.proofs.KeySteps.{distinct_cells}
use Rattle.copy_laws.specs.Twins.{AreTwins}
use Rattle.copier.specs.Frames.{IsHeldIn, holding_frames}
use Rattle.copier.proofs.HeldSteps.{held_few, held_told}
use Rattle.copier.proofs.JobFrames.{frames_new}
use Rattle.copier.proofs.copier.Copier.of.Goals as goal

pub find_placed-requires-clause-source : goal.find_placed-requires-clause-source
find_placed-requires-clause-source g c = ap (λ (r : Opened). r.scale) c.keeping-reader.ensures ∙ c.in-Ok.ensures.scale

pub of-requires-clause-each : goal.of-requires-clause-each
of-requires-clause-each g c = c.in-Ok-find_placed.ensures.order.each

pub of-requires-clause-distinct : goal.of-requires-clause-distinct
of-requires-clause-distinct g c = distinct_cells c.args.to.now c.in-Ok-find_placed.cells.items c.in-Ok-find_placed.ensures.order

pub invariant_of-result : goal.invariant_of-result
invariant_of-result g c =
    let frames = c.in-Ok-reserve_jobs.frames.items in
    let twins = c.are_twins-twins.result in
    subst (λ (r : Opened). IsHeldIn (holding_frames r.dataset r.scale c.duplicate.result c.in-Ok-of.jobs 0 0 frames) c.in-Ok-of.jobs twins frames) (sym (ap (λ (k : Keeping). k.opened) c.in-Ok-keep_reader.ensures ∙ c.find_placed.ensures.same ∙ c.keeping-reader.ensures))
    (subst (λ (s : Scale). IsHeldIn (holding_frames c.in-Ok.reader.dataset c.in-Ok.reader.scale s c.in-Ok-of.jobs 0 0 frames) c.in-Ok-of.jobs twins frames) (sym c.duplicate.ensures)
    (record {
      volume = subst (λ s. AreOfOneVolume s c.args.to.now) (sym c.in-Ok.ensures.scale) c.requires.volume;
      alike = subst (λ s. IsTrue twins → AreTwins s c.args.to.now) (sym c.in-Ok.ensures.scale) c.are_twins-twins.ensures;
      held = frames_new c.in-Ok.reader.dataset c.in-Ok.reader.scale c.args.to.now c.in-Ok-find_placed.cells.items c.in-Ok-of.jobs frames
          c.in-Ok-find_placed.ensures.order.each c.in-Ok-of.ensures.jobs
          (omega (arith, c.in-Ok-reserve_jobs.ensures.count, c.min.ensures, c.window.ensures, c.len.ensures)) c.in-Ok-reserve_jobs.ensures.each;
      rooms = c.in-Ok-reserve_jobs.ensures.each;
      chunks = λ k d l. absurd (omega (arith, l));
    }))

pub returns-clause-few : goal.returns-clause-few
returns-clause-few g c =
    subst (λ (s : Scale). length (in_key_order s (filter (is_listed (cells_in c.in-Ok-of.jobs)) (numbers_on (cells_on s)))) ≤ 2 ^ 22) (sym c.duplicate.ensures)
    (held_few c.args.to.now c.in-Ok-find_placed.cells.items c.in-Ok-of.jobs c.in-Ok-find_placed.ensures.order c.in-Ok-of.ensures.jobs c.in-Ok-find_placed.ensures.few)

pub returns-clause-jobs : goal.returns-clause-jobs
returns-clause-jobs g c =
    subst (λ (s : Scale). IfSome (g.S.Source.objects c.args.store.now) (λ m. in_key_order s (filter (is_listed (cells_in c.in-Ok-of.jobs)) (numbers_on (cells_on s))) ≡ in_key_order c.args.to.now (copied_cells m c.args.from.now.dataset c.args.from.now.scale c.args.to.now)))
    (sym c.duplicate.ensures)
    (held_told (g.S.Source.objects c.args.store.now) (λ m. copied_cells m c.args.from.now.dataset c.args.from.now.scale c.args.to.now) c.args.to.now c.in-Ok-find_placed.cells.items c.in-Ok-of.jobs c.in-Ok-find_placed.ensures.order c.in-Ok-of.ensures.jobs
    (subst (λ name. IfSome (g.S.Source.objects c.args.store.now) (λ m. c.in-Ok-find_placed.cells.items ≡ copied_cells m name c.args.from.now.scale c.args.to.now)) (ap (λ (r : Opened). r.dataset) c.keeping-reader.ensures ∙ c.in-Ok.ensures.dataset) c.in-Ok-find_placed.ensures.made))

pub returns-clause-reads : goal.returns-clause-reads
returns-clause-reads g c = record {
  kept = c.find_placed.ensures.reads.kept;
  history = c.find_placed.ensures.reads.history;
  cause = record { later = c.find_placed.ensures.reads.cause.later; failed = λ told. absurd (cc told); stands = c.in-Ok-find_placed.ensures.reads.cause.stands };
}
