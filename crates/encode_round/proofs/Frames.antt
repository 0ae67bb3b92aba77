-- Where frames are after one event more.
use Rattle.std.proofs.Common.{[], All, ◌≡◌, ◌<◌, ◌≤◌, ◌+◌, ℕ, List, length, get_or, inl, inr, sym, ap, ◌∙◌, subst, arith}
use Rattle.std.specs.Prelude.{Option, Some, None, slice_get, slice_set}
use Rattle.std.proofs.lemmas.Bool.{cases_lt}
use Rattle.std.proofs.lemmas.Bool.Decides.{eqb_tells}
use Rattle.std.proofs.lemmas.List.{length-set, get_or-set_same, get_or-set_other}
use Rattle.chunk_pool.specs.Frames.{Filled}
use Rattle.job_log.specs.declared.stages.Event.{Event}
use Rattle.job_log.specs.declared.stages.Stage.{Stage}
use Rattle.job_log.specs.declared.stages.Stage.TheVariants.{Idle}
use Rattle.job_log.specs.Replay.{IsFinished, Moves, stage_in}
use Rattle.job_log.proofs.Ends.{finished_at, finished_idle, finished_none, get_replicate, get_replicate_past}
use Rattle.encode_round.specs.Held.{IsPlaced, IsRound, HasLen, HasBytes}

-- one job moves, and its frame with it
pub moved : (n room : ℕ) (wanted : List (List ℕ)) (len : ℕ) (log now : List Event) (frames : List (Option Filled)) (job : ℕ) (from to : Stage) (y : Option Filled)
    → IsRound n room wanted len log frames → Moves n log now job from to → job < length frames → IsPlaced len (slice_get wanted job) (Some to) y → IsRound n room wanted len now (slice_set frames job y)
moved n room wanted len log now frames job from to y h m below placed = record {
  named = h.named;
  size = omega (arith, h.size, length-set frames job y);
  full = omega (arith, h.full, length-set frames job y);
  each = λ j d l. elim (eqb_tells j job) [
    | inl same ↦
        let here : IsPlaced len (slice_get wanted job) (stage_in n now job) (get_or (slice_set frames job y) job d) =
        subst (λ s. IsPlaced len (slice_get wanted job) s (get_or (slice_set frames job y) job d)) (sym m.is)
        (subst (λ f. IsPlaced len (slice_get wanted job) (Some to) f) (sym (get_or-set_same frames job y d below)) placed) in
        subst (λ k. IsPlaced len (slice_get wanted k) (stage_in n now k) (get_or (slice_set frames job y) k d)) (sym same.1) here
    | inr other ↦
        subst (λ s. IsPlaced len (slice_get wanted j) s (get_or (slice_set frames job y) j d)) (sym (m.rest j other.1))
        (subst (λ f. IsPlaced len (slice_get wanted j) (stage_in n log j) f) (sym (get_or-set_other frames job j y d other.1)) (h.each j d (omega (arith, l, length-set frames job y))))
  ];
}

-- the frame of a job that is idle lies here, with its length
pub idle_frame : (n room : ℕ) (wanted : List (List ℕ)) (len : ℕ) (log : List Event) (frames : List (Option Filled)) (job : ℕ) (d : Option Filled) → IsRound n room wanted len log frames → job < length frames
    → stage_in n log job ≡ Some Idle → HasLen len (get_or frames job d)
idle_frame n room wanted len log frames job d h below is = subst (λ s. IsPlaced len (slice_get wanted job) s (get_or frames job d)) is (h.each job d below)

-- before the first claim each frame lies here
pub opened : (n room : ℕ) (wanted : List (List ℕ)) (len : ℕ) (log : List Event) (frames : List (Option Filled)) → log ≡ [] → n ≡ length wanted → n ≤ length frames → length frames + length frames ≡ room
    → All (HasLen len) frames → IsRound n room wanted len log frames
opened n room wanted len log frames empty named enough full all = record {
  named = named;
  size = enough;
  full = full;
  each = λ job d l. elim (cases_lt job n) [
    | inl below ↦ subst (λ s. IsPlaced len (slice_get wanted job) s (get_or frames job d)) (sym (ap (λ es. stage_in n es job) empty ∙ get_replicate n job Idle below)) (all job d l)
    | inr past ↦ subst (λ s. IsPlaced len (slice_get wanted job) s (get_or frames job d)) (sym (ap (λ es. stage_in n es job) empty ∙ get_replicate_past n job Idle past)) (all job d l)
  ];
}

-- once each job that was claimed is done, its frame lies here with its bytes
pub done_frame : (n room : ℕ) (wanted : List (List ℕ)) (len count : ℕ) (log now : List Event) (frames : List (Option Filled)) → IsRound n room wanted len log frames → IsFinished n count now → now ≡ log
    → count ≤ length wanted → (k : ℕ) (d : Option Filled) → k < count → HasBytes len (slice_get wanted k) (get_or frames k d)
done_frame n room wanted len count log now frames h is same few k d below =
    subst (λ s. IsPlaced len (slice_get wanted k) s (get_or frames k d)) (ap (λ es. stage_in n es k) (sym same) ∙ finished_at n count now k is below) (h.each k d (omega (arith, below, few, h.named, h.size)))

has_len : (len : ℕ) (bytes : Option (List ℕ)) (frame : Option Filled) → HasBytes len bytes frame → HasLen len frame
has_len len bytes None h = h
has_len len bytes (Some f) h = h.0

pub all_here : (n room : ℕ) (wanted : List (List ℕ)) (len count : ℕ) (log now : List Event) (frames : List (Option Filled)) → IsRound n room wanted len log frames → IsFinished n count now → now ≡ log
    → count ≤ length wanted → All (HasLen len) frames
all_here n room wanted len count log now frames h is same few = λ k d l. elim (cases_lt k count) [
  | inl below ↦ has_len len (slice_get wanted k) (get_or frames k d) (done_frame n room wanted len count log now frames h is same few k d below)
  | inr left ↦ elim (cases_lt k n) [
    | inl idle ↦ subst (λ s. IsPlaced len (slice_get wanted k) s (get_or frames k d)) (ap (λ es. stage_in n es k) (sym same) ∙ finished_idle n count now k is left idle) (h.each k d l)
    | inr past ↦ subst (λ s. IsPlaced len (slice_get wanted k) s (get_or frames k d)) (ap (λ es. stage_in n es k) (sym same) ∙ finished_none n count now k is (omega (arith, few, h.named)) past) (h.each k d l)
  ]
]
