use Rattle.std.proofs.Common.{◌≡◌, ◌++◌, ◌∷◌, [], ◌∙◌, ap, sym, rules}
use Rattle.job_log.specs.Replay.{deposit_of, claims_in}
use Rattle.job_log.proofs.Steps.{claims-push_deposit}
use Rattle.hall.proofs.HallSteps.{closed_more}
use Rattle.hall.proofs.middle.Middle.deposit.Goals as goal

pub invariant_of-self-2 : goal.invariant_of-self-2
invariant_of-self-2 g c =
    let old = c.self.inside in
    let seat = c.args.seat.now.number in
    let now : c.deposit.new.self ≡ old.jobs ++ deposit_of seat c.args.number ∷ [] = search rules in (
      closed_more g.N.Hall.told g.N.Hall.dataset old.jobs c.deposit.new.self (g.X.Exit.served old.exit) (g.X.Exit.served c.close.new.self) old.ran_out c.count_outcome.result old.cuts.total c.count_outcome.new.book.total c.args.number seat
          (g.E.Link.faults c.args.end) (g.E.Link.stream c.args.end) (g.E.Link.sent c.args.end) c.args.outcome c.self.invariant.0 c.close.ensures c.requires.fits now c.count_outcome.ensures.total c.count_outcome.ensures.flag,
      c.self.invariant.1 ∙ sym (ap claims_in now ∙ claims-push_deposit old.jobs seat c.args.number),
    )
