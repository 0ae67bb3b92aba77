-- What preparing and filling in jobs of an updater leaves.
use Rattle.std.proofs.Common.{◌≡◌, ℕ, ◌<◌, ◌≤◌, nat_lt, Bool, true, false, List, [], length, take, Option, Some, None, IfSome, Result, Ok, Err, refl, ap, ◌∙◌, sym, subst, arith}
use Rattle.std.specs.Prelude.{IsSome, IsSomeAnd, OnOk, ⊤, if◌then◌else◌, unwrap_or}
use Rattle.std.specs.Option.{option_map}
use Rattle.std.proofs.lemmas.Bool.Decides.{nat_tests}
use Rattle.std.proofs.lemmas.List.{length-map}
use Rattle.vol_base.specs.Bytes.{AreBytes}
use Rattle.vol_base.specs.Outside.{Objects}
use Rattle.vol_spec.specs.Encodings.{encoded, raw_size}
use Rattle.vol_spec.specs.Grid.{IsCell}
use Rattle.vol_spec.specs.StoredCells.{cell_of, met}
use Rattle.vol_spec.specs.Types.{Writes}
use Rattle.vol_spec.specs.declared.scale.Scale.{Scale}
use Rattle.update_laws.specs.Overlaid.{overlaid}
use Rattle.update_laws.proofs.UnmetSteps.{overlaid_unmet}
use Rattle.write_plan.specs.Jobs.{AreReady, Work, job_at, job_of, jobs_of}
use Rattle.write_plan.specs.declared.jobs.Job.{Job}
use Rattle.write_plan.specs.declared.chunks.PrepareFault.{PrepareFault}
use Rattle.write_plan.proofs.KeySteps.{cell_at-jobs_of}
use Rattle.copier.specs.Held.{Held, cells_of}
use Rattle.copier.specs.Held as held
use Rattle.copier.specs.HeldLaws.{held_jobs}
use Rattle.copier.specs.HeldLaws as laws
use Rattle.updater.specs.UpdateLaws.{length-overlaid}
use Rattle.updater.specs.Updates.{Updates, ready_of, work_of}

below : (a b : ℕ) → a < b → nat_lt a b ≡ true
below a b h = grind (arith, nat_tests)

chosen : (b : Bool) (o : Option (List ℕ)) → b ≡ true → (if b then o else None) ≡ o
chosen true o e = refl
chosen false o e = absurd (cc e)

-- the bytes of the jobs that are prepared, by the jobs and the bytes that are read
abbrev pub ready_from : Work → (ℕ → Option (List ℕ)) → Writes → ℕ → Option (List ℕ)
ready_from work ready writes job = if nat_lt job (length work.cells) then option_map (overlaid work.scale writes (cell_of work.cells job)) (ready job) else None

-- the bytes of a job are ready where those that are read are
pub ready_over : (h : Held) (writes : Writes) (job : ℕ) → job < length (cells_of h) → ready_of (record { held = h; writes = writes }) job ≡ option_map (overlaid h.to writes (cell_of (cells_of h) job)) (held.ready_of h job)
ready_over h writes job low =
    chosen (nat_lt job (length (cells_of h))) (option_map (overlaid h.to writes (cell_of (cells_of h) job)) (held.ready_of h job)) (below job (length (cells_of h)) low)

some_mapped : (o : Option (List ℕ)) (f : List ℕ → List ℕ) → IsSome o → IsSome (option_map f o)
some_mapped None f h = absurd (cc h)
some_mapped (Some x) f h = refl

pub some_ready : (h : Held) (writes : Writes) (job : ℕ) → job < length (cells_of h) → IsSome (held.ready_of h job) → IsSome (ready_of (record { held = h; writes = writes }) job)
some_ready h writes job low some = subst IsSome (sym (ready_over h writes job low)) (some_mapped (held.ready_of h job) (overlaid h.to writes (cell_of (cells_of h) job)) some)

-- what is prepared of what is read is prepared with the writes over it
pub all_ready : (r : Result ⊤ PrepareFault) (new : Held) (old : Held) (u : Updates) (writes : Writes) (from last : ℕ) → u ≡ record { held = old; writes = writes } → held.work_of new ≡ held.work_of old → last ≤ length (work_of u).cells
    → OnOk r ((job : ℕ) → from ≤ job → job < last → IsSome (held.ready_of new job)) → OnOk r ((job : ℕ) → from ≤ job → job < last → IsSome (ready_of (record { held = new; writes = writes }) job))
all_ready (Ok done) new old u writes from last is work within some = λ job low high.
    let a : length (cells_of new) ≡ length (cells_of old) = ap (λ (w : Work). length w.cells) work in
    let b : length (work_of u).cells ≡ length (cells_of old) = ap (λ v. length (work_of v).cells) is in
    some_ready new writes job (omega (arith, within, high, a, b)) (some job low high)
all_ready (Err fault) new old u writes from last is work within some = tt

pub are_ready : (m : Objects) (new old : Held) (writes : Writes) (from last : ℕ) → held.work_of new ≡ held.work_of old → last ≤ length (cells_of old) → AreReady (held.ready_of new) ((held.work_of old).raw m) from last
    → AreReady (ready_of (record { held = new; writes = writes })) ((work_of (record { held = old; writes = writes })).raw m) from last
are_ready m new old writes from last work within ready job low high =
    let a : length (cells_of new) ≡ length (cells_of old) = ap (λ (w : Work). length w.cells) work in
    ready_over new writes job (omega (arith, within, high, a))
    ∙ ap (option_map (overlaid new.to writes (cell_of (cells_of new) job))) (ready job low high)
    ∙ ap (λ (w : Work). Some (overlaid w.scale writes (cell_of w.cells job) ((held.work_of old).raw m job))) work

pub told_ready : (r : Result ⊤ PrepareFault) (o : Option Objects) (new old : Held) (u : Updates) (writes : Writes) (from last : ℕ) → u ≡ record { held = old; writes = writes } → held.work_of new ≡ held.work_of old → last ≤ length (work_of u).cells
    → OnOk r (IfSome o (λ m. AreReady (held.ready_of new) ((held.work_of old).raw m) from last))
    → OnOk r (IfSome o (λ m. AreReady (ready_of (record { held = new; writes = writes })) ((work_of u).raw m) from last))
told_ready (Err fault) o new old u writes from last is work within ready = tt
told_ready (Ok done) None new old u writes from last is work within ready = tt
told_ready (Ok done) (Some m) new old u writes from last is work within ready =
    let b : length (work_of u).cells ≡ length (cells_of old) = ap (λ v. length (work_of v).cells) is in
    subst (λ v. AreReady (ready_of (record { held = new; writes = writes })) ((work_of v).raw m) from last) (sym is)
    (are_ready m new old writes from last work (omega (arith, within, b)) ready)

-- a job that is ready: it is one of the jobs, and what is read is ready, as long as the values of its cell
pub record IsReady (h : Held) (writes : Writes) (job n : ℕ) : Type 0 where
  pub low : job < length (cells_of h)
  pub read : IsSomeAnd (held.ready_of h job) (λ bytes. length bytes ≡ n)
  pub size : raw_size h.to (cell_of (cells_of h) job) ≡ n

mapped_facts : (o : Option (List ℕ)) (f : List ℕ → List ℕ) (size n : ℕ) → IfSome o (λ bytes. length bytes ≡ size) → ((bytes : List ℕ) → length (f bytes) ≡ size) → IsSomeAnd (option_map f o) (λ bytes. length bytes ≡ n)
    → IsSomeAnd o (λ bytes. length bytes ≡ n) × (size ≡ n)
mapped_facts None f size n fits longs some = absurd some
mapped_facts (Some x) f size n fits longs some = (fits ∙ sym (longs x) ∙ some, sym (longs x) ∙ some)

pub ready_facts : (h : Held) (writes : Writes) (job n : ℕ) → IsSomeAnd (ready_of (record { held = h; writes = writes }) job) (λ bytes. length bytes ≡ n) → IsReady h writes job n
ready_facts h writes job n some = by (nat_lt job (length (cells_of h))) refl some
  where
    by : (b : Bool) → nat_lt job (length (cells_of h)) ≡ b → IsSomeAnd (if b then option_map (overlaid h.to writes (cell_of (cells_of h) job)) (held.ready_of h job) else None) (λ bytes. length bytes ≡ n) → IsReady h writes job n
    by false e some = absurd some
    by true e some =
        let facts = mapped_facts (held.ready_of h job) (overlaid h.to writes (cell_of (cells_of h) job)) (raw_size h.to (cell_of (cells_of h) job)) n (laws.ready_fits h job) (length-overlaid h.to writes (cell_of (cells_of h) job)) some in
        record { low = grind (arith, nat_tests); read = facts.0; size = facts.1 }

-- the cell of a job
pub job_cell : (h : Held) (jobs : List Job) (own : Job) (job : ℕ) → jobs ≡ jobs_of h.to (cells_of h) → own ≡ job_at jobs job → job < length (cells_of h) → own.cell ≡ cell_of (cells_of h) job
job_cell h jobs own job is at low = ap (λ (j : Job). j.cell) (at ∙ ap (λ js. job_at js job) is) ∙ cell_at-jobs_of h.to (cells_of h) job low

pub job_within : (h : Held) (jobs : List Job) (job : ℕ) → jobs ≡ jobs_of h.to (cells_of h) → job < length (cells_of h) → job < length jobs
job_within h jobs job is low = let len : length jobs ≡ length (cells_of h) = ap length is ∙ length-map (cells_of h) (job_of h.to) in omega (arith, len, low)

pub job_in_grid : (h : Held) (job : ℕ) → job < length (cells_of h) → IsCell h.to (cell_of (cells_of h) job)
job_in_grid h job low = (held_jobs h).each job [] low

-- the bytes that are filled in
pub filled_is : (h : Held) (writes : Writes) (job : ℕ) (s : Scale) (cell read out : List ℕ) → job < length (cells_of h) → held.ready_of h job ≡ Some read → s ≡ h.to → cell ≡ cell_of (cells_of h) job → out ≡ overlaid s writes cell read
    → ready_of (record { held = h; writes = writes }) job ≡ Some out
filled_is h writes job s cell read out low ready scale at is =
    ready_over h writes job low
    ∙ ap (option_map (overlaid h.to writes (cell_of (cells_of h) job))) ready
    ∙ ap (λ t. Some (overlaid t writes (cell_of (cells_of h) job) read)) (sym scale)
    ∙ ap (λ c. Some (overlaid s writes c read)) (sym at)
    ∙ ap Some (sym is)

-- the chunk of a cell that no write meets
some_under : (o : Option (List ℕ)) (f : List ℕ → List ℕ) → IsSome (option_map f o) → IsSome o
some_under None f some = absurd (cc some)
some_under (Some x) f some = refl

pub some_read : (h : Held) (writes : Writes) (job : ℕ) → job < length (cells_of h) → IsSome (ready_of (record { held = h; writes = writes }) job) → IsSome (held.ready_of h job)
some_read h writes job low some = some_under (held.ready_of h job) (overlaid h.to writes (cell_of (cells_of h) job)) (subst IsSome (ready_over h writes job low) some)

unmet_ready : (s : Scale) (writes : Writes) (cell : List ℕ) (o : Option (List ℕ)) → IsCell s cell → met s writes cell ≡ false → IsSome o → AreBytes (unwrap_or o []) → IfSome o (λ bytes. length bytes ≡ raw_size s cell)
    → unwrap_or (option_map (overlaid s writes cell) o) [] ≡ unwrap_or o []
unmet_ready s writes cell None is unmet some small len = absurd (cc some)
unmet_ready s writes cell (Some bytes) is unmet some small len = overlaid_unmet s writes cell bytes is unmet small len

-- its bytes are those that are read
pub ready_unmet : (h : Held) (writes : Writes) (job : ℕ) (s : Scale) (cell : List ℕ) → job < length (cells_of h) → s ≡ h.to → cell ≡ cell_of (cells_of h) job → false ≡ met s writes cell → IsSome (held.ready_of h job)
    → AreBytes (unwrap_or (held.ready_of h job) []) → unwrap_or (ready_of (record { held = h; writes = writes }) job) [] ≡ unwrap_or (held.ready_of h job) []
ready_unmet h writes job s cell low scale at unmet some small =
    let here : met h.to writes (cell_of (cells_of h) job) ≡ false = sym (unmet ∙ ap (λ t. met t writes cell) scale ∙ ap (met h.to writes) at) in
    ap (λ o. unwrap_or o []) (ready_over h writes job low)
    ∙ unmet_ready h.to writes (cell_of (cells_of h) job) (held.ready_of h job) (job_in_grid h job low) here some small (laws.ready_fits h job)

pub chunk_unmet : (h : Held) (writes : Writes) (job : ℕ) (s : Scale) (cell : List ℕ) (r : Option ℕ) (out : List ℕ) → job < length (cells_of h) → s ≡ h.to → cell ≡ cell_of (cells_of h) job → false ≡ met s writes cell → IsSome (held.ready_of h job)
    → IfSome r (λ n. AreBytes (unwrap_or (held.ready_of h job) []))
    → IfSome r (λ n. take n out ≡ encoded h.to (cell_of (cells_of h) job) (unwrap_or (held.ready_of h job) []))
    → IfSome r (λ n. take n out ≡ encoded h.to (cell_of (cells_of h) job) (unwrap_or (ready_of (record { held = h; writes = writes }) job) []))
chunk_unmet h writes job s cell None out low scale at unmet some small chunk = tt
chunk_unmet h writes job s cell (Some n) out low scale at unmet some small chunk =
    chunk ∙ ap (encoded h.to (cell_of (cells_of h) job)) (sym (ready_unmet h writes job s cell low scale at unmet some small))
