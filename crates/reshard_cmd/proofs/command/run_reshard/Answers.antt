use Rattle.std.proofs.Common.{◌∙◌, Err, ap, refl}
use Rattle.vol_spec.proofs.Told.{from_told}
use Rattle.command_base.specs.Outlets.{outlets_of}
use Rattle.reshard_cmd.proofs.ReshardSteps.{copied_back, refusal_told, reshard_complete}
use Rattle.reshard_cmd.proofs.command.run_reshard.Goals as goal

pub returns-in-Err-clause-resharded : goal.returns-in-Err-clause-resharded
returns-in-Err-clause-resharded g c = (
  Err c.in-Err.refusal,
  c.in-Err.ensures.copies,
  (
    refl,
    refusal_told c.in-Err.refusal c.report.result c.args.dataset.now c.args.to_dataset.now c.find_named-named.result.now
        (outlets_of g.O.Outlet.written g.O.Outlet.faults g.E.Outlet.written g.E.Outlet.faults c.args.out.now c.args.out.now c.args.err.now c.report.new.err) c.find_named-named.ensures c.report.ensures.told,
  ),
)

pub returns-in-Err-clause-complete : goal.returns-in-Err-clause-complete
returns-in-Err-clause-complete g c = λ m told can kept written.
    reshard_complete c.in-Err.refusal c.report.result m (g.S.Source.objects c.copy_stored.new.store) c.args.dataset.now c.args.key.now c.args.to_dataset.now c.args.to_key.now c.find_named-named.result.now
    (outlets_of g.O.Outlet.written g.O.Outlet.faults g.E.Outlet.written g.E.Outlet.faults c.args.out.now c.args.out.now c.args.err.now c.report.new.err)
    (from_told _ _ m told c.in-Err.ensures.copies) can (λ is. kept (c.copy_stored.ensures.leaves.cause.failed (c.in-Err.is ∙ ap Err is))) c.report.ensures.told

pub returns-clause-back : goal.returns-clause-back
returns-clause-back g c done =
    copied_back c.in-Ok.written (g.S.Source.objects c.args.store.now) (g.S.Source.objects c.copy_stored.new.store) c.args.dataset.now c.args.key.now c.args.to_dataset.now c.args.to_key.now c.in-Ok.ensures.copies

pub returns-in-Err-clause-killed : goal.returns-in-Err-clause-killed
returns-in-Err-clause-killed g c = c.copy_stored.ensures.leaves.killed

pub returns-clause-killed : goal.returns-clause-killed
returns-clause-killed g c = c.copy_stored.ensures.leaves.killed
