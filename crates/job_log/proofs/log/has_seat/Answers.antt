use Rattle.std.proofs.Common.{◌≡◌, ◌<◌, ◌≤◌, ℕ, length, inl, inr, sym, ◌∙◌, subst, below_more, arith, rules}
use Rattle.std.specs.Prelude.{None, slice_get}
use Rattle.std.proofs.lemmas.Bool.{cases_lt}
use Rattle.std.proofs.lemmas.Option.{slice_get_past}
use Rattle.job_log.specs.Replay.{out_at}
use Rattle.job_log.proofs.log.has_seat.Goals as goal

pub loop-i-preserved : goal.loop-i-preserved
loop-i-preserved c = below_more _ _ c.loop-i.invariant (c.is_out.ensures.no c.if-is_out.false)

pub returns-clause-no : goal.returns-clause-no
returns-clause-no c = λ none job out. elim (cases_lt job (length c.args.stages.now)) [
  | inl below ↦ c.loop-i.invariant job (omega (arith, below)) out
  | inr past ↦ let gone : None ≡ out_at c.args.seat = sym (slice_get_past c.args.stages.now job past) ∙ out in cc
]
