-- When the jobs of a round are begun, and when it may end (this project's).
use Rattle.std.specs.Prelude.{ℕ, ◌≡◌, ◌<◌, ◌≤◌, ◌+◌, ◌-◌, ◌^◌, ◌⊎◌, min, List, [], ◌∷◌, length, Option, Some, None, slice_get}
use Rattle.job_log.specs.declared.stages.Event.{Event}
use Rattle.job_log.specs.declared.stages.Event.TheVariants.{Claim, Deposit}
use Rattle.job_log.specs.Claims.{EachClaim, IsFree}
use Rattle.job_log.specs.Replay.{claims_in, out_at, stage_in}
use Rattle.vol_spec.specs.Types.{Bytes}
use Rattle.encode_round.specs.Ready.{bytes_in}

-- how many bytes the chunks have that a log has deposited, of jobs that are to have these
abbrev pub bytes_done : List Bytes → List Event → ℕ
bytes_done wanted [] = 0
bytes_done wanted (Claim seat job ∷ es) = bytes_done wanted es
bytes_done wanted (Deposit seat job ∷ es) = length (bytes_in (slice_get wanted job)) + bytes_done wanted es

-- a round that ends with so many bytes, if with some, has them; or has fewer
abbrev pub HasEnough : Option ℕ → ℕ → Type 0
HasEnough None done = ⊥
HasEnough (Some bytes) done = bytes ≤ done

abbrev pub IsShort : Option ℕ → ℕ → Type 0
IsShort None done = Unit {0}
IsShort (Some bytes) done = done < bytes

-- behind this log one of so many seats, which is free, may begin a job: the first one, or another one where the chunks that are
-- done have fewer bytes than the round ends with
pub record MayBegin (seats : ℕ) (enough : Option ℕ) (wanted : List Bytes) (log : List Event) (seat job : ℕ) : Type 0 where
  pub seated : seat < seats
  pub free : IsFree (length wanted) log seat
  pub short : 0 < job → IsShort enough (bytes_done wanted log)

-- each job of a log was begun where it might be
abbrev pub AreBegun : ℕ → Option ℕ → List Bytes → List Event → Type 0
AreBegun seats enough wanted log = EachClaim (MayBegin seats enough wanted) log

-- behind this log a round may end: each job was claimed; or some were, and what is done has as many bytes as the round ends with
abbrev pub MayEnd : Option ℕ → List Bytes → List Event → Type 0
MayEnd enough wanted log = (claims_in log ≡ length wanted) ⊎ ((0 < claims_in log) × HasEnough enough (bytes_done wanted log))

-- the same, or a job is out at this seat
abbrev pub MayStop : Option ℕ → List Bytes → List Event → ℕ → Type 0
MayStop enough wanted log seat = MayEnd enough wanted log ⊎ ((job : ℕ) × (stage_in (length wanted) log job ≡ out_at seat))

-- a round counts the bytes that are done, up to the most that it can
pub record IsCounted (enough : Option ℕ) (wanted : List Bytes) (log : List Event) (limit : Option ℕ) (bytes : ℕ) : Type 0 where
  pub limit_is : limit ≡ enough
  pub counted : bytes ≡ min (bytes_done wanted log) (2 ^ 64 - 1)
