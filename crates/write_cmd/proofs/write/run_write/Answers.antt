use Rattle.std.proofs.Common.{◌≡◌, ◌∙◌, Err, ap, inl, inr, refl}
use Rattle.vol_spec.proofs.Told.{from_told}
use Rattle.write_plan.specs.Stream.{writes_of}
use Rattle.command_base.specs.Scales.{stored_scale}
use Rattle.write_cmd.proofs.EndSteps.{memory_alone}
use Rattle.write_cmd.proofs.WriteSteps.{write_keeps}
use Rattle.write_cmd.specs.Refusals.{write_status}
use Rattle.write_cmd.specs.declared.refusal.WriteRefusal.TheVariants.{NoMemory}
use Rattle.write_cmd.proofs.write.run_write.Goals as goal

pub returns-in-Err-clause-wrote : goal.returns-in-Err-clause-wrote
returns-in-Err-clause-wrote g c = (
  Err c.in-Err.refusal,
  record { judges = c.in-Err.ensures.judges; writes = c.in-Err.ensures.writes; feed = c.in-Err.ensures.feed; same = λ none. (write_keeps c.in-Err.refusal _ _ _ _ c.in-Err.ensures.leaves.kept none).same_objects },
  (refl, c.report.ensures.told),
)

pub returns-in-Err-clause-complete : goal.returns-in-Err-clause-complete
returns-in-Err-clause-complete g c m bytes told fed can store feed out =
    let none : c.in-Err.refusal ≡ NoMemory =
    memory_alone c.in-Err.refusal (stored_scale m c.args.dataset.now c.args.key.now) m (g.S.Source.objects c.write_objects.new.store) (writes_of bytes) c.args.dataset.now c.args.key.now can
    (λ e. store (c.write_objects.ensures.leaves.cause.failed (c.in-Err.is ∙ ap Err e))) (λ e. feed (c.write_objects.ensures.feed_cause.failed (c.in-Err.is ∙ ap Err e)))
    (from_told (g.S.Source.objects c.args.store.now) _ m told c.in-Err.ensures.judges)
    (from_told (g.F.Feed.left c.args.feed.now) _ bytes fed (from_told (g.S.Source.objects c.args.store.now) _ m told c.in-Err.ensures.writes)) in
    elim c.report.ensures.told [ inl h ↦ inr (h.0 ∙ ap write_status none) | inr h ↦ inr h.0 ]
