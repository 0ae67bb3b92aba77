-- What is so of the claims of a log (this project's).
use Rattle.std.specs.Prelude.{ℕ, ◌≡◌, ◌≢◌, List, Some, slice_get, take}
use Rattle.job_log.specs.declared.stages.Event.{Event}
use Rattle.job_log.specs.Replay.{claim_of, out_at, stage_in}

-- of each claim of a log, by which seat and of which job, with the events before it
abbrev pub EachClaim : (List Event → ℕ → ℕ → Type 0) → List Event → Type 0
EachClaim P log = (k seat job : ℕ) → slice_get log k ≡ Some (claim_of seat job) → P (take k log) seat job

-- no job is out at a seat
abbrev pub IsFree : ℕ → List Event → ℕ → Type 0
IsFree n log seat = (job : ℕ) → stage_in n log job ≢ out_at seat
