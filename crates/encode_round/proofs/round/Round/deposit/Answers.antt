use Rattle.std.proofs.Common.{◌≡◌, ◌++◌, ◌∷◌, [], Some, true, length, ap, arith, rules}
use Rattle.std.proofs.lemmas.Option.{slice_get_within}
use Rattle.job_log.specs.declared.stages.Stage.TheVariants.{Done, Out}
use Rattle.job_log.specs.Replay.{deposit_of}
use Rattle.encode_round.specs.Held.{used_of}
use Rattle.encode_round.proofs.Enough.{begun_deposit, counted_deposit}
use Rattle.encode_round.proofs.Frames.{moved}
use Rattle.encode_round.proofs.round.Round.deposit.Goals as goal

pub invariant_of-self-2 : goal.invariant_of-self-2
invariant_of-self-2 g c =
    let old = c.self.inside in
    let wanted = g.N.Wanted.wanted in
    let enough = g.N.Wanted.enough in
    let seat = c.args.seat.now.number in
    let job = c.args.work.job in
    let went : c.deposit.result ≡ true = search rules in
    let now : c.deposit.new.self ≡ old.jobs ++ deposit_of seat job ∷ [] = (c.deposit.ensures.taken went).0 in
    let within = slice_get_within wanted job (used_of c.args.work.frame) c.requires.wanted in (
      moved g.N.Naming.jobs g.N.Naming.room wanted g.N.Wanted.frame_len old.jobs c.deposit.new.self old.frames.items job (Out seat) Done (Some c.args.work.frame) c.self.invariant.0 (c.deposit.ensures.moves went)
          (omega (arith, within, c.self.invariant.0.named, c.self.invariant.0.size)) (c.requires.length, c.requires.wanted),
      counted_deposit enough wanted old.jobs c.deposit.new.self old.limit old.bytes c.saturating_add.result seat job (used_of c.args.work.frame) c.self.invariant.1 now c.requires.wanted
          (omega (arith, c.saturating_add.ensures, ap length c.used.ensures)),
      begun_deposit g.N.Wanted.seats enough wanted old.jobs c.deposit.new.self seat job c.self.invariant.2 now,
    )
