use Rattle.std.proofs.Common.{◌∙◌, Err, ap, refl}
use Rattle.vol_spec.proofs.Told.{from_told}
use Rattle.command_base.specs.Outlets.{outlets_of}
use Rattle.downsample_cmd.proofs.DownsampleSteps.{downsample_complete, reduced_back}
use Rattle.downsample_cmd.proofs.command.run_downsample.Goals as goal

pub returns-in-Err-clause-downsampled : goal.returns-in-Err-clause-downsampled
returns-in-Err-clause-downsampled g c = (Err c.in-Err.refusal, c.in-Err.ensures.reduces, (refl, c.report.ensures.told))

pub returns-in-Err-clause-complete : goal.returns-in-Err-clause-complete
returns-in-Err-clause-complete g c = λ m told can kept written.
    downsample_complete c.in-Err.refusal c.report.result m (g.S.Source.objects c.reduce_stored.new.store) c.args.method c.args.dataset.now c.args.key.now c.args.to_key.now
    (outlets_of g.O.Outlet.written g.O.Outlet.faults g.E.Outlet.written g.E.Outlet.faults c.args.out.now c.args.out.now c.args.err.now c.report.new.err)
    (from_told _ _ m told c.in-Err.ensures.reduces) can (λ is. kept (c.reduce_stored.ensures.leaves.cause.failed (c.in-Err.is ∙ ap Err is))) c.report.ensures.told

pub returns-clause-back : goal.returns-clause-back
returns-clause-back g c done =
    reduced_back c.in-Ok.written (g.S.Source.objects c.args.store.now) (g.S.Source.objects c.reduce_stored.new.store) c.args.method c.args.dataset.now c.args.key.now c.args.to_key.now c.in-Ok.ensures.reduces

pub returns-in-Err-clause-killed : goal.returns-in-Err-clause-killed
returns-in-Err-clause-killed g c = c.reduce_stored.ensures.leaves.killed

pub returns-clause-killed : goal.returns-clause-killed
returns-clause-killed g c = c.reduce_stored.ensures.leaves.killed
