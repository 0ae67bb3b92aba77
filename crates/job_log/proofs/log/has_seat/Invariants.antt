use Rattle.std.proofs.Common.{◌≢◌, ◌<◌, ℕ}
use Rattle.std.specs.Prelude.{slice_get}
use Rattle.job_log.specs.Replay.{out_at}
use Rattle.job_log.proofs.log.has_seat.Given as goal

abbrev pub invariant-loop-i : goal.invariant-loop-i
invariant-loop-i l = (job : ℕ) → job < l.i → slice_get l.stages job ≢ out_at l.seat
