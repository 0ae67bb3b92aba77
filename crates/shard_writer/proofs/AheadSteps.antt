-- Jobs that are prepared and encoded ahead of the one that is stored next.
use Rattle.std.proofs.Common.{◌≡◌, ℕ, ◌+◌, ◌-◌, ◌^◌, ◌≤◌, ◌<◌, length, None, Option, Some, IfSome, IsSome, Ok, Err, ap, arith, subst, sym, ◌∙◌}
use Rattle.vol_base.specs.Outside.{Objects}
use Rattle.vol_spec.specs.Types.{Bytes}
use Rattle.vol_spec.specs.Writable.{IsWritable}
use Rattle.vol_spec.specs.declared.scale.Scale.{Scale}
use Rattle.write_plan.specs.Jobs.{AreReady, Prepares, Work, jobs_fault}
use Rattle.write_plan.specs.declared.chunks.PrepareFault.{PrepareFault}
use Rattle.shard_writer.specs.Serving.{IsAhead, PreparesOn, ServesRounds}
use Rattle.shard_writer.specs.declared.rounds.Rounds.{Rounds}
use Rattle.shard_writer.specs.declared.steps.Ahead.{Ahead}
use Rattle.shard_writer.proofs.CountSteps.{faulty_on, sound_on}
use Rattle.shard_writer.proofs.RoundSteps.{held_kept, held_on}

-- nothing more was prepared
pub prepares_none : (o : Option Objects) (work : Work) (ready : ℕ → Option Bytes) (k : ℕ) (ahead : Ahead) → IfSome o (λ now. PreparesOn work now ready ready k ahead.prepared (Ok ahead))
prepares_none None work ready k ahead = tt
prepares_none (Some m) work ready k ahead = record { bytes = λ raw same had. had; answer = λ fault same none. none }

-- more was
pub prepares_more : (o : Option Objects) (work : Work) (before after : ℕ → Option Bytes) (k done : ℕ) (next : Ahead) → done ≡ k → k ≤ next.prepared → next.prepared ≤ length work.cells
    → IfSome o (λ m. AreReady after (work.raw m) k next.prepared) → IfSome o (λ m. jobs_fault work m k (next.prepared - k) ≡ None)
    → IfSome o (λ now. PreparesOn work now before after k done (Ok next))
prepares_more None work before after k done next e low high ready sound = tt
prepares_more (Some m) work before after k done next e low high ready sound = record {
  bytes = λ raw same had job l u. ready job l u ∙ ap Some (same job l (omega arith));
  answer = λ fault same none. sound_on (work.fault m) fault k done next.prepared (length work.cells) e low high same none sound;
}

-- or a fault was met
pub prepares_not : (o : Option Objects) (work : Work) (before after : ℕ → Option Bytes) (k done to : ℕ) (e : PrepareFault) → done ≡ k → k ≤ to → to ≤ length work.cells
    → IfSome o (λ m. Prepares (Err e) (jobs_fault work m k (to - k))) → IfSome o (λ now. PreparesOn work now before after k done (Err e))
prepares_not None work before after k done to e same low high found = tt
prepares_not (Some m) work before after k done to e is low high found = record {
  bytes = λ raw same had. tt;
  answer = λ fault same none. faulty_on (work.fault m) fault k done to (length work.cells) e is low high same none found;
}

-- before the first job
pub ahead_none : (s : Scale) (work : Work) (ready : ℕ → Option Bytes) (ahead : Ahead) (rounds : Rounds) → IsWritable s → work.scale ≡ s → ServesRounds s rounds → rounds.first ≡ 0 → ahead.prepared ≡ 0 → ahead.encoded ≡ 0
    → IsAhead s work ready 0 ahead rounds
ahead_none s work ready ahead rounds can same serves first none_prepared none_encoded = record {
  jobs = record {
    writable = can;
    scale = same;
    order = omega arith;
    within = omega arith;
    few = omega arith;
    some = λ job l u. absurd (omega arith);
  };
  low = omega arith;
  order = omega arith;
  serves = serves;
  held = record { first = omega arith; each = λ job l u. absurd (omega arith) };
}

-- where more jobs were prepared
pub ahead_more : (s : Scale) (work seen : Work) (ready after : ℕ → Option Bytes) (k : ℕ) (ahead next : Ahead) (rounds : Rounds) → seen ≡ work → ahead.prepared ≡ k → next.encoded ≡ ahead.encoded → k ≤ next.prepared
    → next.prepared ≤ length work.cells → length work.cells ≤ 2 ^ 22 → ((job : ℕ) → k ≤ job → job < next.prepared → IsSome (after job)) → IsAhead s work ready k ahead rounds → IsAhead s seen after k next rounds
ahead_more s work seen ready after k ahead next rounds same none kept more within few some is =
    let low = is.low in
    let order = is.order in
    record {
      jobs = record {
        writable = is.jobs.writable;
        scale = ap (λ (x : Work). x.scale) same ∙ is.jobs.scale;
        order = more;
        within = omega (arith, ap (λ (x : Work). length x.cells) same);
        few = omega arith;
        some = some;
      };
      low = omega arith;
      order = omega arith;
      serves = is.serves;
      held = record { first = is.held.first; each = λ job l u. absurd (omega arith) };
    }

-- behind a job, whose chunk was stored, where what is prepared stays
pub ahead_on : (s : Scale) (work seen : Work) (ready after : ℕ → Option Bytes) (k : ℕ) (ahead : Ahead) (rounds : Rounds) → seen ≡ work → after ≡ ready → k < ahead.encoded
    → IsAhead s work ready k ahead rounds → IsAhead s seen after (k + 1) ahead rounds
ahead_on s work seen ready after k ahead rounds same kept more is =
    let order = is.order in
    record {
      jobs = record {
        writable = is.jobs.writable;
        scale = ap (λ (x : Work). x.scale) same ∙ is.jobs.scale;
        order = omega arith;
        within = omega (arith, is.jobs.within, ap (λ (x : Work). length x.cells) same);
        few = is.jobs.few;
        some = λ job l u. subst (λ (r : ℕ → Option Bytes). IsSome (r job)) (sym kept) (is.jobs.some job (omega arith) u);
      };
      low = omega arith;
      order = is.order;
      serves = is.serves;
      held = held_kept work seen ready after (k + 1) ahead.encoded ahead.encoded rounds same (omega arith) (λ job l u. ap (λ (r : ℕ → Option Bytes). r job) kept) (held_on work ready k ahead.encoded rounds is.held);
    }
