use Rattle.std.proofs.Common.{◌≡◌, ◌++◌, ◌∷◌, [], ◌∙◌, ap, sym}
use Rattle.job_log.specs.Replay.{deposit_of, claims_in}
use Rattle.job_log.proofs.Steps.{claims-push_deposit}
use Rattle.hall.proofs.HallSteps.{closed_more}
use Rattle.hall.proofs.middle.Middle.deposit_for.Goals as goal

pub invariant_of-self : goal.invariant_of-self
invariant_of-self g c =
    let old = c.self.inside in
    let now : c.deposit_for.new.self ≡ old.jobs ++ deposit_of c.args.seat c.args.number ∷ [] = c.deposit_for.ensures.log in (
      closed_more g.N.Hall.told g.N.Hall.dataset old.jobs c.deposit_for.new.self (g.X.Exit.served old.exit) (g.X.Exit.served c.close.new.self) old.ran_out c.count_outcome.result old.cuts.total c.count_outcome.new.book.total c.args.number c.args.seat
          (g.E.Link.faults c.args.end) (g.E.Link.stream c.args.end) (g.E.Link.sent c.args.end) c.args.outcome c.self.invariant.0 c.close.ensures c.requires.fits now c.count_outcome.ensures.total c.count_outcome.ensures.flag,
      c.self.invariant.1 ∙ sym (ap claims_in now ∙ claims-push_deposit old.jobs c.args.seat c.args.number),
    )
