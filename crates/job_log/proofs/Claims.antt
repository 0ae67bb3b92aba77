-- The claims of a log with one event more; and which seats are free.
use Rattle.std.proofs.Common.{◌≡◌, ◌≢◌, ◌<◌, ◌≤◌, ℕ, zero, suc, List, [], ◌∷◌, ◌++◌, take, ◌⊎◌, inl, inr, refl, sym, ap, ◌∙◌, subst, arith}
use Rattle.std.specs.Prelude.{Some, slice_get}
use Rattle.std.proofs.lemmas.Bool.Decides.{eqb_tells}
use Rattle.std.proofs.lemmas.Option.{same_Some}
use Rattle.job_log.specs.declared.stages.Event.{Event}
use Rattle.job_log.specs.declared.stages.Event.TheVariants.{Claim, Deposit}
use Rattle.job_log.specs.declared.stages.Stage.{Stage}
use Rattle.job_log.specs.declared.stages.Stage.TheVariants.{Idle, Out, Done}
use Rattle.job_log.specs.Claims.{EachClaim, IsFree}
use Rattle.job_log.specs.Held.{IsLog}
use Rattle.job_log.specs.Replay.{Moves, claim_of, deposit_of, out_at, stage_in}
use Rattle.job_log.proofs.Steps.{knows_out, stage_is}

abbrev seat_of : Event → ℕ
seat_of (Claim seat job) = seat
seat_of (Deposit seat job) = seat

abbrev job_of : Event → ℕ
job_of (Claim seat job) = job
job_of (Deposit seat job) = job

-- what stands in a list with one entry more: an entry of the list, behind the same ones, or the last one
get_push : {X : Type 0} (xs : List X) (x y : X) (k : ℕ) → slice_get (xs ++ x ∷ []) k ≡ Some y
    → ((slice_get xs k ≡ Some y) × (take k xs ≡ take k (xs ++ x ∷ []))) ⊎ ((x ≡ y) × (xs ≡ take k (xs ++ x ∷ [])))
get_push [] x y zero h = inr (same_Some _ _ h, refl)
get_push [] x y (suc k) h = absurd (cc h)
get_push (z ∷ xs) x y zero h = inl (h, refl)
get_push (z ∷ xs) x y (suc k) h = elim (get_push xs x y k h) [
  | inl before ↦ inl (before.0, ap (λ l. z ∷ l) before.1)
  | inr last ↦ inr (last.0, ap (λ l. z ∷ l) last.1)
]

pub each_none : (P : List Event → ℕ → ℕ → Type 0) (log : List Event) → log ≡ [] → EachClaim P log
each_none P log none = subst (EachClaim P) (sym none) (λ k seat job at. absurd (cc at))

-- a claim more, of which the same is so
pub each-push_claim : (P : List Event → ℕ → ℕ → Type 0) (log now : List Event) (seat job : ℕ) → EachClaim P log → now ≡ log ++ claim_of seat job ∷ [] → P log seat job → EachClaim P now
each-push_claim P log now seat job each is here = subst (EachClaim P) (sym is) (λ k s j at. elim (get_push log (claim_of seat job) (claim_of s j) k at) [
  | inl before ↦ subst (λ l. P l s j) before.1 (each k s j before.0)
  | inr last ↦ subst (λ l. P l s j) last.1 (subst (P log s) (ap job_of last.0) (subst (λ i. P log i job) (ap seat_of last.0) here))
])

-- a deposit more, which is no claim
pub each-push_deposit : (P : List Event → ℕ → ℕ → Type 0) (log now : List Event) (seat job : ℕ) → EachClaim P log → now ≡ log ++ deposit_of seat job ∷ [] → EachClaim P now
each-push_deposit P log now seat job each is = subst (EachClaim P) (sym is) (λ k s j at. elim (get_push log (deposit_of seat job) (claim_of s j) k at) [
  | inl before ↦ subst (λ l. P l s j) before.1 (each k s j before.0)
  | inr last ↦ absurd (cc last.0)
])

-- where as many were deposited as claimed, each seat is free
pub free_all : (n room next : ℕ) (stages : List Stage) (log : List Event) (sc lc claims deposits : ℕ) → IsLog n room next stages log sc lc claims deposits → claims ≡ deposits → (seat : ℕ) → IsFree n log seat
free_all n room next stages log sc lc claims deposits h even seat = λ job out.
    let knows = knows_out n room next stages log sc lc claims deposits h job seat (sym (stage_is n room next stages log sc lc claims deposits h job) ∙ out) in
    omega (arith, knows.0, even)

-- a seat that was free is free again behind a job that it claimed and deposited
pub free_again : (n : ℕ) (old mid new : List Event) (job seat : ℕ) → Moves n old mid job Idle (Out seat) → Moves n mid new job (Out seat) Done → (s : ℕ) → IsFree n old s → IsFree n new s
free_again n old mid new job seat claim deposit s free = λ j out. elim (eqb_tells j job) [
  | inl same ↦
      let done : Some Done ≡ out_at s = sym deposit.is ∙ subst (λ i. stage_in n new i ≡ out_at s) same.1 out in
      absurd (cc done)
  | inr other ↦ absurd (free j (sym (claim.rest j other.1) ∙ sym (deposit.rest j other.1) ∙ out))
]
