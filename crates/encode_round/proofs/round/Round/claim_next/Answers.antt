use Rattle.std.proofs.Common.{◌≡◌, ◌++◌, ◌∷◌, ◌<◌, [], subst, arith, rules}
use Rattle.job_log.specs.declared.stages.Stage.TheVariants.{Idle, Out}
use Rattle.job_log.specs.Claims.{IsFree}
use Rattle.job_log.specs.Replay.{claim_of, claims_in}
use Rattle.encode_round.specs.Begun.{IsShort, bytes_done}
use Rattle.encode_round.proofs.Enough.{begun_claim, counted_claim}
use Rattle.encode_round.proofs.Frames.{moved}
use Rattle.encode_round.proofs.round.Round.claim_next.Goals as goal

pub invariant_of-self-2 : goal.invariant_of-self-2
invariant_of-self-2 g c =
    let old = c.self.inside in
    let wanted = g.N.Wanted.wanted in
    let enough = g.N.Wanted.enough in
    let seat = c.args.seat.now.number in
    let job = c.in-Some.job in
    let seen : c.args.self.now ≡ old.jobs = search rules in
    let now : c.claim.new.self ≡ old.jobs ++ claim_of seat job ∷ [] = c.in-Some.ensures.some.0 in (
      moved g.N.Naming.jobs g.N.Naming.room wanted g.N.Wanted.frame_len old.jobs c.claim.new.self old.frames.items job Idle (Out seat) c.replace-lent.new.dest c.self.invariant.0 c.in-Some.ensures.moves
          (omega (arith, c.in-Some.ensures.some.2, c.self.invariant.0.size)) (search rules),
      counted_claim enough wanted old.jobs c.claim.new.self old.limit old.bytes seat job c.self.invariant.1 now,
      begun_claim g.N.Wanted.seats enough wanted old.jobs c.claim.new.self seat job c.self.invariant.2 now c.requires.seated
          (subst (λ n. IsFree n old.jobs seat) c.self.invariant.0.named (subst (λ l. IsFree g.N.Naming.jobs l seat) seen c.requires.free))
          c.in-Some.ensures.which (subst (λ l. 0 < claims_in l → IsShort enough (bytes_done wanted l)) seen c.requires.short),
    )
