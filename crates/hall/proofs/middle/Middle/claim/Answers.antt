use Rattle.std.proofs.Common.{◌≡◌, ◌++◌, ◌∷◌, [], ◌∙◌, ap, arith}
use Rattle.job_log.specs.Replay.{claim_of, claims_in}
use Rattle.job_log.proofs.Steps.{claims-push_claim}
use Rattle.hall.proofs.HallSteps.{claimed_more}
use Rattle.hall.proofs.middle.Middle.claim.Goals as goal

pub invariant_of-self : goal.invariant_of-self
invariant_of-self g c =
    let old = c.self.inside in
    let seat = c.args.seat.now.number in
    let number = c.in-Some.number in
    let now : c.claim.new.self ≡ old.jobs ++ claim_of seat number ∷ [] = c.in-Some.ensures.some.0 in
    let one = ap claims_in now ∙ claims-push_claim old.jobs seat number in (
      claimed_more g.N.Hall.told g.N.Hall.dataset old.jobs c.claim.new.self (g.X.Exit.served old.exit) old.ran_out old.cuts.total number seat c.self.invariant.0 now,
      omega (arith, one, c.add.ensures.total, c.audit.ensures.total, c.self.invariant.1),
    )
