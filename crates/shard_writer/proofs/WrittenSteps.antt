-- What a writer of all jobs ensures, from what was put.
use Rattle.std.proofs.Common.{◌≡◌, ◌∙◌, ℕ, length, Option, None, IfSome, Result, Ok, Err, ap, inl, inr, refl, subst, sym}
use Rattle.std.specs.Prelude.{IsErrAnd}
use Rattle.vol_base.specs.Outside.{Draft, Objects}
use Rattle.vol_base.specs.declared.faults.Fault.{Fault}
use Rattle.vol_spec.specs.Types.{Cell, Name}
use Rattle.vol_spec.specs.declared.scale.Scale.{Scale}
use Rattle.vol_spec.proofs.Told.{from_told, in_told}
use Rattle.write_plan.specs.Jobs.{Work, jobs_fault}
use Rattle.shard_writer.specs.Plain.{WritesPart}
use Rattle.shard_writer.specs.Writing.{Drops}
use Rattle.shard_writer.specs.Works.{DropsOrBegins, NeverDamaged, PutsSome, SparesFaulty, WritesAll, WritesJobs, first_of_jobs, job_objects}
use Rattle.shard_writer.specs.declared.written.WriteFault.{WriteFault}
use Rattle.shard_writer.specs.declared.written.WriteFault.TheVariants.{OutOfMemory}
use Rattle.shard_writer.specs.declared.written.WriteFault.TheVariants as faults
use Rattle.shard_writer.specs.declared.written.Written.{Written}
use Rattle.shard_writer.proofs.CountSteps.{want_answer}
use Rattle.shard_writer.proofs.ListedSteps.{all_bytes, all_front, all_number, all_put}
use Rattle.shard_writer.proofs.PutSteps.{as_error, none_put}
use Rattle.shard_writer.proofs.SpareSteps.{spared_none}
use Rattle.shard_writer.proofs.WorkSteps.{want_sound}

-- a writer that gives up
pub gives_up : (dataset : Name) (work : Work) (sure : Type 0) (o new : Option Objects) (before after : Option Draft) (fault : WriteFault)
    → PutsSome dataset work o new → SparesFaulty dataset work o new
    → IfSome o (λ m. WritesAll {A = Written} (Err fault) (first_of_jobs work m)) → (sure → NeverDamaged {A = Written} (Err fault))
    → (sure → Drops before after) → DropsOrBegins dataset work o new before after
    → WritesJobs dataset work sure o new before after (Err fault)
gives_up dataset work sure o new before after fault front spares answer sound dropped begun = record {
  put = tt;
  front = front;
  spares = spares;
  objects = tt;
  cells = tt;
  bytes = λ knows. tt;
  answer = answer;
  sound = sound;
  draft = tt;
  dropped = dropped;
  begun = begun;
}

-- for want of memory, before anything was put
pub wants : (dataset : Name) (work : Work) (sure : Type 0) (o : Option Objects) (draft : Option Draft) (r : Result Written WriteFault) → IsErrAnd r (λ fault. fault ≡ OutOfMemory)
    → WritesJobs dataset work sure o o draft draft r
wants dataset work sure o draft r stops =
    as_error (λ x. WritesJobs dataset work sure o o draft draft x) r stops
    (λ fault is.
    gives_up dataset work sure o o draft draft fault (none_put o o (job_objects dataset work) refl) (spared_none o o dataset work refl)
    (want_answer Written o (first_of_jobs work) fault is) (λ s. want_sound Written fault is) (λ s. inr refl) (inl (inr refl)))

-- a writer of an unsharded scale
pub plain_stopped : (dataset : Name) (s : Scale) (work : Work) (sure : Type 0) (count : ℕ) (o new : Option Objects) (before after : Option Draft) (e : WriteFault) (r : Result Written WriteFault) → IsErrAnd r (λ fault. fault ≡ e)
    → work.scale ≡ s → s.sharding ≡ None → count ≡ length work.cells
    → WritesPart dataset s work 0 count o new (Err e) → SparesFaulty dataset work o new → (sure → NeverDamaged {A = ℕ} (Err e)) → Drops before after
    → WritesJobs dataset work sure o new before after r
plain_stopped dataset s work sure count o new before after e r stops same unsharded all part spares sound drops =
    as_error (λ x. WritesJobs dataset work sure o new before after x) r stops
    (λ fault is.
    subst (λ f. WritesJobs dataset work sure o new before after (Err f)) (sym is)
    (gives_up dataset work sure o new before after e
    (all_front o new dataset work s count same unsharded all (in_told o _ (λ m told. (from_told o _ m told part.puts).front))) spares
    (in_told o _ (λ m told. answer e (jobs_fault work m 0 count) (first_of_jobs work m) (ap (jobs_fault work m 0) all) (from_told o _ m told part.answer)))
    (λ s. never e (sound s)) (λ s. drops) (inl drops)))
  where
    answer : (f : WriteFault) (found first : Option (Cell × Fault)) → found ≡ first → WritesAll {A = ℕ} (Err f) found → WritesAll {A = Written} (Err f) first
    answer f found first is h = other f (subst (λ x. WritesAll {A = ℕ} (Err f) x) is h)
      where
        other : (f : WriteFault) → WritesAll {A = ℕ} (Err f) first → WritesAll {A = Written} (Err f) first
        other faults.StoreFault h = tt
        other (faults.Damaged cell what) h = h
        other faults.OutOfMemory h = tt

    never : (f : WriteFault) → NeverDamaged {A = ℕ} (Err f) → NeverDamaged {A = Written} (Err f)
    never f h cell what is = h cell what (let named : f ≡ faults.Damaged cell what = cc is in ap Err named)

pub plain_written : (dataset : Name) (s : Scale) (work : Work) (sure : Type 0) (count bytes : ℕ) (o new : Option Objects) (before after : Option Draft)
    → work.scale ≡ s → s.sharding ≡ None → count ≡ length work.cells
    → WritesPart dataset s work 0 count o new (Ok bytes) → Drops before after
    → WritesJobs dataset work sure o new before after (Ok (record { objects = count; cells = count; bytes = bytes }))
plain_written dataset s work sure count bytes o new before after same unsharded all part drops = record {
  put = all_put o new dataset work s count same unsharded all (in_told o _ (λ m told. (from_told o _ m told part.puts).put));
  front = tt;
  spares = tt;
  objects = all_number dataset work s o count same unsharded all;
  cells = all;
  bytes = all_bytes dataset work s o count bytes same unsharded all (in_told o _ (λ m told. (from_told o _ m told part.puts).bytes)) part.plain;
  answer = in_told o _ (λ m told. ap (jobs_fault work m 0) (sym all) ∙ from_told o _ m told part.answer);
  sound = λ s cell what is. cc is;
  draft = drops;
  dropped = λ s. drops;
  begun = inl drops;
}
