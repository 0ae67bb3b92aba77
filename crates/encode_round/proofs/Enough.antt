-- The bytes that a round counts; when its jobs are begun, and when it may end.
use Rattle.std.proofs.Common.{◌≡◌, ◌<◌, ◌+◌, ◌-◌, ◌^◌, ℕ, min, List, [], ◌∷◌, ◌++◌, length, inl, inr, refl, sym, ap, ◌∙◌, subst, arith}
use Rattle.std.specs.Prelude.{IfSome, Option, None, Some, slice_get}
use Rattle.vol_spec.specs.Types.{Bytes}
use Rattle.job_log.specs.declared.stages.Event.{Event}
use Rattle.job_log.specs.declared.stages.Event.TheVariants.{Claim, Deposit}
use Rattle.job_log.specs.Claims.{EachClaim, IsFree}
use Rattle.job_log.specs.Replay.{claim_of, claims_in, deposit_of}
use Rattle.job_log.proofs.Claims.{each_none, each-push_claim, each-push_deposit}
use Rattle.encode_round.specs.Begun.{AreBegun, IsCounted, HasEnough, IsShort, MayBegin, MayEnd, MayStop, bytes_done}
use Rattle.encode_round.specs.Ready.{bytes_in}

bytes-push_claim : (wanted : List Bytes) (log : List Event) (seat job : ℕ) → bytes_done wanted (log ++ claim_of seat job ∷ []) ≡ bytes_done wanted log
bytes-push_claim wanted [] seat job = refl
bytes-push_claim wanted (Claim s j ∷ es) seat job = bytes-push_claim wanted es seat job
bytes-push_claim wanted (Deposit s j ∷ es) seat job = omega (arith, bytes-push_claim wanted es seat job)

bytes-push_deposit : (wanted : List Bytes) (log : List Event) (seat job : ℕ) → bytes_done wanted (log ++ deposit_of seat job ∷ []) ≡ bytes_done wanted log + length (bytes_in (slice_get wanted job))
bytes-push_deposit wanted [] seat job = omega arith
bytes-push_deposit wanted (Claim s j ∷ es) seat job = bytes-push_deposit wanted es seat job
bytes-push_deposit wanted (Deposit s j ∷ es) seat job = omega (arith, bytes-push_deposit wanted es seat job)

-- nothing is counted at first, nor at a claim; at a deposit the job's bytes are
pub counted_none : (enough : Option ℕ) (wanted : List Bytes) (log : List Event) (limit : Option ℕ) → limit ≡ enough → log ≡ [] → IsCounted enough wanted log limit 0
counted_none enough wanted log limit same none = record {
  limit_is = same;
  counted = let zero_done : bytes_done wanted log ≡ 0 = ap (bytes_done wanted) none in omega (arith, zero_done);
}

pub counted_claim : (enough : Option ℕ) (wanted : List Bytes) (log now : List Event) (limit : Option ℕ) (bytes seat job : ℕ) → IsCounted enough wanted log limit bytes → now ≡ log ++ claim_of seat job ∷ []
    → IsCounted enough wanted now limit bytes
counted_claim enough wanted log now limit bytes seat job h is = record {
  limit_is = h.limit_is;
  counted = let same : bytes_done wanted now ≡ bytes_done wanted log = ap (bytes_done wanted) is ∙ bytes-push_claim wanted log seat job in h.counted ∙ sym (ap (λ b. min b (2 ^ 64 - 1)) same);
}

pub counted_deposit : (enough : Option ℕ) (wanted : List Bytes) (log now : List Event) (limit : Option ℕ) (bytes more seat job : ℕ) (chunk : Bytes) → IsCounted enough wanted log limit bytes
    → now ≡ log ++ deposit_of seat job ∷ [] → slice_get wanted job ≡ Some chunk → more ≡ min (bytes + length chunk) (2 ^ 64 - 1) → IsCounted enough wanted now limit more
counted_deposit enough wanted log now limit bytes more seat job chunk h is has sum = record {
  limit_is = h.limit_is;
  counted =
      let now_is : bytes_done wanted now ≡ bytes_done wanted log + length (bytes_in (slice_get wanted job)) = ap (bytes_done wanted) is ∙ bytes-push_deposit wanted log seat job in
      let long : length (bytes_in (slice_get wanted job)) ≡ length chunk = ap (λ o. length (bytes_in o)) has in
      omega (arith, h.counted, now_is, long, sum);
}

-- what is counted tells whether the bytes are enough
pub reached_is : (enough : Option ℕ) (wanted : List Bytes) (log : List Event) (limit : Option ℕ) (bytes : ℕ) → IsCounted enough wanted log limit bytes → HasEnough limit bytes → HasEnough enough (bytes_done wanted log)
reached_is enough wanted log limit bytes h reached = subst (λ o. HasEnough o (bytes_done wanted log)) h.limit_is (at limit reached)
  where
    at : (o : Option ℕ) → HasEnough o bytes → HasEnough o (bytes_done wanted log)
    at None never = absurd never
    at (Some most) has = omega (arith, has, h.counted)

pub short_is : (enough : Option ℕ) (wanted : List Bytes) (log : List Event) (limit : Option ℕ) (bytes : ℕ) → IsCounted enough wanted log limit bytes → IfSome limit (λ most. most < 2 ^ 64) → IsShort limit bytes
    → IsShort enough (bytes_done wanted log)
short_is enough wanted log limit bytes h small short = subst (λ o. IsShort o (bytes_done wanted log)) h.limit_is (at limit small short)
  where
    at : (o : Option ℕ) → IfSome o (λ most. most < 2 ^ 64) → IsShort o bytes → IsShort o (bytes_done wanted log)
    at None s l = tt
    at (Some most) s l = omega (arith, s, l, h.counted)

-- a job more is begun where it may be
pub begun_none : (seats : ℕ) (enough : Option ℕ) (wanted : List Bytes) (log : List Event) → log ≡ [] → AreBegun seats enough wanted log
begun_none seats enough wanted log none = each_none (MayBegin seats enough wanted) log none

pub begun_claim : (seats : ℕ) (enough : Option ℕ) (wanted : List Bytes) (log now : List Event) (seat job : ℕ) → AreBegun seats enough wanted log → now ≡ log ++ claim_of seat job ∷ [] → seat < seats
    → IsFree (length wanted) log seat → job ≡ claims_in log → (0 < claims_in log → IsShort enough (bytes_done wanted log)) → AreBegun seats enough wanted now
begun_claim seats enough wanted log now seat job h is seated free which short =
    each-push_claim (MayBegin seats enough wanted) log now seat job h is (record { seated = seated; free = free; short = λ some. short (omega (arith, some, which)) })

pub begun_deposit : (seats : ℕ) (enough : Option ℕ) (wanted : List Bytes) (log now : List Event) (seat job : ℕ) → AreBegun seats enough wanted log → now ≡ log ++ deposit_of seat job ∷ [] → AreBegun seats enough wanted now
begun_deposit seats enough wanted log now seat job h is = each-push_deposit (MayBegin seats enough wanted) log now seat job h is

-- where a free seat stops, the round may end
pub end_free : (enough : Option ℕ) (wanted : List Bytes) (log : List Event) (seat : ℕ) → MayStop enough wanted log seat → IsFree (length wanted) log seat → MayEnd enough wanted log
end_free enough wanted log seat stop free = elim stop [
  | inl end ↦ end
  | inr out ↦ absurd (free out.0 out.1)
]

-- with no limit all jobs were claimed; with one, some were where there are some
pub end_all : (wanted : List Bytes) (log : List Event) → MayEnd None wanted log → claims_in log ≡ length wanted
end_all wanted log end = elim end [
  | inl all ↦ all
  | inr few ↦ absurd few.1
]

pub end_some : (enough : Option ℕ) (wanted : List Bytes) (log : List Event) → MayEnd enough wanted log → 0 < length wanted → 0 < claims_in log
end_some enough wanted log end some = elim end [
  | inl all ↦ omega (arith, all, some)
  | inr few ↦ few.0
]
