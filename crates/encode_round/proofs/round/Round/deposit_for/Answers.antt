use Rattle.std.proofs.Common.{◌≡◌, ◌++◌, ◌∷◌, [], Some, length, ap, arith}
use Rattle.job_log.specs.declared.stages.Stage.TheVariants.{Done, Out}
use Rattle.job_log.specs.Replay.{deposit_of}
use Rattle.encode_round.specs.Held.{used_of}
use Rattle.encode_round.proofs.Enough.{begun_deposit, counted_deposit}
use Rattle.encode_round.proofs.Frames.{moved}
use Rattle.encode_round.proofs.round.Round.deposit_for.Goals as goal

pub invariant_of-self : goal.invariant_of-self
invariant_of-self g c =
    let old = c.self.inside in
    let wanted = g.N.Wanted.wanted in
    let enough = g.N.Wanted.enough in
    let now : c.deposit_for.new.self ≡ old.jobs ++ deposit_of c.args.seat c.args.job ∷ [] = c.deposit_for.ensures.log in (
      moved g.N.Naming.jobs g.N.Naming.room wanted g.N.Wanted.frame_len old.jobs c.deposit_for.new.self old.frames.items c.args.job (Out c.args.seat) Done (Some c.args.frame) c.self.invariant.0 c.deposit_for.ensures.moves
          (omega (arith, c.requires.job, c.self.invariant.0.named, c.self.invariant.0.size)) (c.requires.length, c.requires.wanted),
      counted_deposit enough wanted old.jobs c.deposit_for.new.self old.limit old.bytes c.saturating_add.result c.args.seat c.args.job (used_of c.args.frame) c.self.invariant.1 now c.requires.wanted
          (omega (arith, c.saturating_add.ensures, ap length c.used.ensures)),
      begun_deposit g.N.Wanted.seats enough wanted old.jobs c.deposit_for.new.self c.args.seat c.args.job c.self.invariant.2 now,
    )
