use Rattle.std.proofs.Common.{◌∙◌, Err, ap}
use Rattle.vol_spec.proofs.Told.{from_told}
use Rattle.command_base.specs.Outlets.{outlets_of}
use Rattle.cutout_cmd.proofs.CutoutSteps.{cutout_complete}
use Rattle.cutout_cmd.proofs.cut_out.run_cutout.Goals as goal

pub returns-in-Err-clause-cuts : goal.returns-in-Err-clause-cuts
returns-in-Err-clause-cuts g c = (Err c.in-Err.refusal, record { cuts = c.in-Err.ensures.cuts; writes = c.in-Err.ensures.unwritten }, c.report.ensures.told)

pub returns-in-Err-clause-complete : goal.returns-in-Err-clause-complete
returns-in-Err-clause-complete g c = λ m told can kept written.
    cutout_complete c.in-Err.refusal c.report.result m c.args.dataset.now c.args.key.now c.args.part.now
    (outlets_of g.O.Outlet.written g.O.Outlet.faults g.E.Outlet.written g.E.Outlet.faults c.args.out.now c.cut_out.new.out c.args.err.now c.report.new.err)
    (from_told _ _ m told c.in-Err.ensures.cuts) can (λ is. kept (c.cut_out.ensures.reads.cause.failed (c.in-Err.is ∙ ap Err is))) (λ is. written (c.cut_out.ensures.out_cause.failed (c.in-Err.is ∙ ap Err is)))
    c.report.ensures.told
