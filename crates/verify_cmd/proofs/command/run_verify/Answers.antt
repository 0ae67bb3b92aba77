use Rattle.std.proofs.Common.{◌∙◌, Err, ap, refl}
use Rattle.vol_spec.proofs.Told.{from_told}
use Rattle.command_base.specs.Outlets.{outlets_of}
use Rattle.verify_cmd.proofs.VerifySteps.{verify_complete}
use Rattle.verify_cmd.proofs.command.run_verify.Goals as goal

pub returns-in-Err-clause-verified : goal.returns-in-Err-clause-verified
returns-in-Err-clause-verified g c =
    (Err c.in-Err.refusal, c.in-Err.ensures.right, (refl, c.report.ensures.told))

pub returns-in-Err-clause-complete : goal.returns-in-Err-clause-complete
returns-in-Err-clause-complete g c = λ m told can kept written.
    verify_complete c.in-Err.refusal c.report.result m c.args.dataset.now c.args.key.now c.args.part.now
    (outlets_of g.O.Outlet.written g.O.Outlet.faults g.E.Outlet.written g.E.Outlet.faults c.args.out.now c.args.out.now c.args.err.now c.report.new.err)
    (from_told _ _ m told c.in-Err.ensures.right.judges) can (λ is. kept (c.judge_stored.ensures.reads.cause.failed (c.in-Err.is ∙ ap Err is))) c.report.ensures.told
