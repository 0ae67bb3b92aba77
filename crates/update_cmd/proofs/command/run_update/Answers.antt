use Rattle.std.proofs.Common.{◌∙◌, Err, ap, refl}
use Rattle.vol_spec.proofs.Told.{from_told}
use Rattle.write_plan.specs.Stream.{writes_of}
use Rattle.command_base.specs.Outlets.{outlets_of}
use Rattle.update_cmd.proofs.AnswerSteps.{update_complete, updated_back}
use Rattle.update_cmd.proofs.command.run_update.Goals as goal

pub returns-in-Err-clause-updated : goal.returns-in-Err-clause-updated
returns-in-Err-clause-updated g c = (
  Err c.in-Err.refusal,
  record { judges = c.in-Err.ensures.judges; answers = c.in-Err.ensures.answers; feed = c.in-Err.ensures.feed; store = c.in-Err.ensures.store },
  (refl, c.report.ensures.told),
)

pub returns-in-Err-clause-complete : goal.returns-in-Err-clause-complete
returns-in-Err-clause-complete g c = λ m bytes told fed can store feed out.
    update_complete c.in-Err.refusal c.report.result m (g.S.Source.objects c.update_stored.new.store) (writes_of bytes) c.args.dataset.now c.args.key.now
    (outlets_of g.O.Outlet.written g.O.Outlet.faults g.E.Outlet.written g.E.Outlet.faults c.args.out.now c.args.out.now c.args.err.now c.report.new.err)
    (from_told _ _ bytes fed (from_told _ _ m told c.in-Err.ensures.answers)) can (λ is. store (c.update_stored.ensures.cause.failed (c.in-Err.is ∙ ap Err is))) (λ is. feed (c.update_stored.ensures.feed_cause.failed (c.in-Err.is ∙ ap Err is))) c.report.ensures.told

pub returns-clause-back : goal.returns-clause-back
returns-clause-back g c done =
    updated_back c.in-Ok.written (g.S.Source.objects c.args.store.now) (g.S.Source.objects c.update_stored.new.store) (g.F.Feed.left c.args.feed.now) c.args.dataset.now c.args.key.now c.in-Ok.ensures.answers
