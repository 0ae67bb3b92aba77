-- What a job's frame hands out.
use Rattle.std.proofs.Common.{◌≡◌, ℕ, ◌+◌, ◌-◌, ◌<◌, ◌≤◌, ◌&&◌, nat_le, nat_lt, Bool, true, false, List, [], length, take, map, get_or, Option, Some, None, IfSome, refl, ap, ◌∙◌, sym, subst, arith}
use Rattle.std.specs.Prelude.{IsSome, IsSomeAnd, if◌then◌else◌, slice_index_or, unwrap_or}
use Rattle.std.proofs.lemmas.List.{get_or-map, length-map, take-append-le}
use Rattle.vol_base.specs.Bytes.{AreBytes}
use Rattle.vol_spec.specs.Encodings.{encoded, raw_size}
use Rattle.vol_spec.specs.Limits.{first_bytes}
use Rattle.vol_spec.specs.StoredCells.{cell_of}
use Rattle.vol_spec.specs.declared.scale.Scale.{Scale}
use Rattle.chunk_grid.proofs.GridSteps.{cell_box-short}
use Rattle.copy_laws.specs.Twins.{said_raw}
use Rattle.copy_laws.proofs.TwinSteps.{said_bytes}
use Rattle.write_plan.specs.declared.jobs.Job.{Job}
use Rattle.copier.specs.Filled.{Fills}
use Rattle.copier.specs.Frames.{IsHeldIn, IsKept, KeepsBy, KeepsOwn, values_by, values_in}
use Rattle.copier.specs.Held.{Held, IsFilled, cells_of, front, ready_of}
use Rattle.copier.specs.HeldLaws.{length-front}
use Rattle.copier.specs.declared.frame.JobFrame.{JobFrame}
use Rattle.copier.specs.declared.frame.OwnChunk.{OwnChunk}
use Rattle.copier.proofs.HeldSteps.{held_in, le_from, lt_from, ready_facts}
use Rattle.copier.proofs.TakingSteps.{said_front}

-- the front of values that fill up more is theirs
again-front : (n m : ℕ) (xs : List ℕ) → n ≤ m → front n (front m xs) ≡ take n (front m xs)
again-front n m xs le = take-append-le n (front m xs) _ (let len = length-front m xs in omega (arith, len, le))

some_in : (lo hi : Bool) (bytes : List ℕ) → IsSome (if lo && hi then Some bytes else None) → (lo ≡ true) × (hi ≡ true)
some_in true true bytes h = (refl, refl)
some_in true false bytes h = absurd (cc h)
some_in false hi bytes h = absurd (cc h)

chunk_by : (to : Scale) (cell : List ℕ) (own : Option OwnChunk) (bytes : List ℕ) → KeepsBy to cell own bytes → IfSome own (λ chunk. IsKept to chunk bytes)
chunk_by to cell None bytes h = tt
chunk_by to cell (Some own) bytes h = h.1

pub ready_bounds : (h : Held) (job : ℕ) → IsSome (ready_of h job) → (h.first ≤ job) × (job < h.first + h.count)
ready_bounds h job some =
    let parts = some_in (nat_le h.first job) (nat_lt job (h.first + h.count)) (front (raw_size h.to (cell_of (cells_of h) job)) (slice_index_or h.frames (job - h.first) [])) some in
    (le_from h.first job parts.0, lt_from job (h.first + h.count) parts.1)

-- a job that is ready has a frame
pub job_inside : (h : Held) (jobs : List Job) (twins : Bool) (frames : List JobFrame) → IsHeldIn h jobs twins frames → h.frames ≡ map (values_in h.to) frames → (job : ℕ) → h.first ≤ job → job < h.first + h.count → job - h.first < length frames
job_inside h jobs twins frames held are job low high =
    let within = held.held.within in
    let all = ap length are ∙ length-map frames (values_in h.to) in
    omega (arith, low, high, within, all)

module _ (h : Held) (jobs : List Job) (twins : Bool) (frames : List JobFrame) (held : IsHeldIn h jobs twins frames) (are : h.frames ≡ map (values_in h.to) frames) (job : ℕ) (frame : JobFrame)
    (is : (d : JobFrame) → frame ≡ get_or frames (job - h.first) d) where
  abbrev cell : List ℕ
  cell = cell_of (cells_of h) job

  -- its values are those of the job,
  pub frame_values : h.first ≤ job → job < h.first + h.count → slice_index_or h.frames (job - h.first) [] ≡ values_in h.to frame
  frame_values low high =
      ap (λ fs. slice_index_or fs (job - h.first) []) are
      ∙ get_or-map (values_in h.to) frames (job - h.first) frame [] (job_inside h jobs twins frames held are job low high)
      ∙ ap (values_in h.to) (sym (is frame))

  frame_chunk : h.first ≤ job → job < h.first + h.count → KeepsBy h.to cell frame.own frame.bytes.items
  frame_chunk low high =
      let on : h.first + (job - h.first) ≡ job = omega (arith, low) in
      subst (λ j. KeepsBy h.to (cell_of (cells_of h) j) frame.own frame.bytes.items) on
      (subst (KeepsOwn h.to (cell_of (cells_of h) (h.first + (job - h.first)))) (sym (is frame)) (held.chunks (job - h.first) frame (omega (arith, low, high))))

  fills_by : (own : Option OwnChunk) (bytes : List ℕ) (n : ℕ) → IsFilled h.to (values_by h.to own bytes) → KeepsBy h.to cell own bytes → raw_size h.to cell ≡ n → Fills h.to own bytes n
  fills_by None bytes n filled kept size = let short = cell_box-short h.to cell in omega (arith, filled, short, size)
  fills_by (Some own) bytes n filled kept size = (sym size ∙ ap (raw_size h.to) (sym kept.0), kept.1)

  pub frame_fills : (n : ℕ) → IsSomeAnd (ready_of h job) (λ b. length b ≡ n) → Fills h.to frame.own frame.bytes.items n
  frame_fills n some =
      let facts = ready_facts h job n some in
      let low = facts.0 in
      let high = facts.1 in
      fills_by frame.own frame.bytes.items n (subst (IsFilled h.to) (frame_values low high) (held.held.filled (job - h.first) (omega (arith, low, high)))) (frame_chunk low high) facts.2

  -- and where it has a chunk it is the job's
  module _ (some : IsSome (ready_of h job)) where
    bounds : (nat_le h.first job ≡ true) × (nat_lt job (h.first + h.count) ≡ true)
    bounds = some_in (nat_le h.first job) (nat_lt job (h.first + h.count)) (front (raw_size h.to cell) (slice_index_or h.frames (job - h.first) [])) some

    low_in : h.first ≤ job
    low_in = le_from h.first job bounds.0

    high_in : job < h.first + h.count
    high_in = lt_from job (h.first + h.count) bounds.1

    pub frame_keeps : IfSome frame.own (λ own. IsKept h.to own frame.bytes.items)
    frame_keeps = chunk_by h.to cell frame.own frame.bytes.items (frame_chunk low_in high_in)

    module _ (own : OwnChunk) (e : frame.own ≡ Some own) where
      abbrev chunk : List ℕ
      chunk = take own.len frame.bytes.items

      kept : KeepsBy h.to cell (Some own) frame.bytes.items
      kept = subst (λ o. KeepsBy h.to cell o frame.bytes.items) e (frame_chunk low_in high_in)

      said_ready : ready_of h job ≡ Some (said_raw h.to own.cell chunk)
      said_ready =
          held_in (nat_le h.first job) (nat_lt job (h.first + h.count)) (front (raw_size h.to cell) (slice_index_or h.frames (job - h.first) [])) bounds.0 bounds.1
          ∙ ap (λ xs. Some (front (raw_size h.to cell) xs)) (frame_values low_in high_in ∙ ap (λ o. values_by h.to o frame.bytes.items) e)
          ∙ ap Some (again-front (raw_size h.to cell) (first_bytes h.to.width h.to.channels h.to.size h.to.chunk) (said_raw h.to own.cell chunk) (cell_box-short h.to cell))
          ∙ ap (λ c. Some (take (raw_size h.to c) (front (first_bytes h.to.width h.to.channels h.to.size h.to.chunk) (said_raw h.to own.cell chunk)))) (sym kept.0)
          ∙ ap Some (said_front h.to own.cell chunk)

      chunk_encoded : chunk ≡ encoded h.to cell (unwrap_or (ready_of h job) [])
      chunk_encoded = sym kept.1.again ∙ ap (λ c. encoded h.to c (said_raw h.to own.cell chunk)) kept.0 ∙ ap (λ o. encoded h.to cell (unwrap_or o [])) (sym said_ready)

      ready_bytes : AreBytes (unwrap_or (ready_of h job) [])
      ready_bytes = subst (λ o. AreBytes (unwrap_or o [])) (sym said_ready) (said_bytes h.to own.cell chunk)

    -- what was handed out
    abbrev Handed : ℕ → List ℕ → Type 0
    Handed n out = (own : OwnChunk) × (frame.own ≡ Some own) × (take n out ≡ take own.len frame.bytes.items)

    pub handed_chunk : (r : Option ℕ) (out : List ℕ) → IfSome r (λ n. Handed n out) → IfSome r (λ n. take n out ≡ encoded h.to cell (unwrap_or (ready_of h job) []))
    handed_chunk None out handed = tt
    handed_chunk (Some n) out (own, e, same) = same ∙ chunk_encoded own e

    pub handed_bytes : (r : Option ℕ) (out : List ℕ) → IfSome r (λ n. Handed n out) → IfSome r (λ n. AreBytes (unwrap_or (ready_of h job) []))
    handed_bytes None out handed = tt
    handed_bytes (Some n) out (own, e, same) = ready_bytes own e
