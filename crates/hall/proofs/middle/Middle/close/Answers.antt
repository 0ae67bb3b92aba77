use Rattle.std.proofs.Common.{◌≡◌, ◌∙◌, sym, subst, IfSome}
use Rattle.std.specs.Prelude.{IfSome}
use Rattle.job_log.specs.Onces.{IsSettled}
use Rattle.job_log.specs.Replay.{claims_in}
use Rattle.hall.specs.Halls.{AllSoundBut, ends_of}
use Rattle.hall.proofs.HallSteps.{exactly}
use Rattle.hall.proofs.middle.Middle.close.Goals as goal

pub returns-clause-exact : goal.returns-clause-exact
returns-clause-exact g c =
    let old = c.self.inside in
    let given : claims_in old.jobs ≡ c.args.nexts.now.amount = sym c.self.invariant.1 ∙ sym (c.audit-2.ensures.whole c.requires.nexts) in
    exactly g.N.Hall.told g.N.Hall.dataset (record { log = old.jobs; served = g.X.Exit.served old.exit; ran_out = old.ran_out }) old.cuts.total c.args.nexts.now.amount c.self.invariant.0
    (subst (λ k. IsSettled k old.jobs) given c.settle.ensures.once)

pub returns-clause-each : goal.returns-clause-each
returns-clause-each g c =
    let old = c.self.inside in
    let all : old.cuts.total ≡ c.args.cuts.now.amount = sym (c.audit.ensures.whole c.requires.cuts) in
    λ m tells. subst (λ k. IfSome (g.X.Exit.served old.exit) (λ list. AllSoundBut m g.N.Hall.dataset old.ran_out (ends_of list) k)) all (c.self.invariant.0.each m tells)
