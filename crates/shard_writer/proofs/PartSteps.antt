-- A part of an unsharded scale's jobs, where it isn't written whole.
use Rattle.std.proofs.Common.{◌≡◌, ℕ, ◌-◌, ◌≤◌, ◌⊎◌, length, None, Option, Some, IfOk, IfSome, Result, Ok, Err, arith, subst, sym}
use Rattle.std.specs.Prelude.{IsErrAnd}
use Rattle.vol_base.specs.Outside.{Objects}
use Rattle.vol_base.specs.declared.outside.StoreRefusal.{StoreRefusal}
use Rattle.vol_spec.specs.CellNames.{cell_name}
use Rattle.vol_spec.specs.StoredCells.{cell_of, put_in}
use Rattle.vol_spec.specs.StoredLists.{AreJobs}
use Rattle.vol_spec.specs.Types.{Name}
use Rattle.vol_spec.specs.declared.encoding.Encoding.TheVariants.{Raw}
use Rattle.vol_spec.specs.declared.scale.Scale.{Scale}
use Rattle.vol_spec.proofs.Told.{from_told, in_told}
use Rattle.write_plan.specs.Jobs.{KeepsOthers, Prepares, Work, jobs_fault}
use Rattle.write_plan.specs.declared.chunks.PrepareFault.{PrepareFault}
use Rattle.shard_writer.specs.Faults.{of_jobs, of_store}
use Rattle.shard_writer.specs.Plain.{bytes_from, stored_from, WritesPart}
use Rattle.shard_writer.specs.Writing.{PutsFront}
use Rattle.shard_writer.specs.Works.{Puts, SparesFaulty, WritesAll, stored_by}
use Rattle.shard_writer.specs.declared.written.WriteFault.{WriteFault}
use Rattle.shard_writer.proofs.CountSteps.{store_answer, writes_none}
use Rattle.shard_writer.proofs.PutSteps.{as_error, none_put}
use Rattle.shard_writer.proofs.SpareSteps.{more_spared, Spares, stays_named, under_name}
use Rattle.shard_writer.proofs.WindowSteps.{keeps_of, keeps_stored, more_faulty, window_stopped}

no_bytes : (s : Scale) (work : Work) (from n : ℕ) (r : Result ℕ WriteFault) (Q : WriteFault → Type 0) → IsErrAnd r Q → IfOk r (λ len. s.encoding ≡ Raw → len ≡ bytes_from s work.cells from n)
no_bytes s work from n r Q stops = as_error (λ x. IfOk x (λ len. s.encoding ≡ Raw → len ≡ bytes_from s work.cells from n)) r stops (λ fault is. tt)

-- its jobs weren't prepared
pub part_unprepared : (dataset : Name) (s : Scale) (work : Work) (from n : ℕ) (o new : Option Objects) (e : PrepareFault) (r : Result ℕ WriteFault) → IsErrAnd r (λ fault. fault ≡ of_jobs e)
    → new ≡ o → IfSome o (λ m. Prepares (Err e) (jobs_fault work m from n)) → WritesPart dataset s work from n o new r
part_unprepared dataset s work from n o new e r stops same found =
    as_error (λ x. WritesPart dataset s work from n o new x) r stops
    (λ fault is. record {
      puts = in_told o (λ m. Puts {E = WriteFault} (stored_from dataset s work m from n) (Some m) new (Err fault))
          (λ m told. record { put = tt; bytes = tt; front = from_told o _ m told (none_put o new (λ q. stored_from dataset s work q from n) same) });
      answer = in_told o (λ m. WritesAll {A = ℕ} (Err fault) (jobs_fault work m from n)) (λ m told. writes_none ℕ e fault (jobs_fault work m from n) is (from_told o _ m told found));
      plain = tt;
    })

-- the store refused
pub part_refused : (dataset : Name) (s : Scale) (work : Work) (from n : ℕ) (o new : Option Objects) (refusal : StoreRefusal) (r : Result ℕ WriteFault) → IsErrAnd r (λ fault. fault ≡ of_store refusal)
    → IfSome o (λ m. Puts (stored_from dataset s work m from n) (Some m) new r) → WritesPart dataset s work from n o new r
part_refused dataset s work from n o new refusal r stops puts = record {
  puts = puts;
  answer = as_error (λ x. IfSome o (λ m. WritesAll {A = ℕ} x (jobs_fault work m from n))) r stops (λ fault is. store_answer ℕ o (λ m. jobs_fault work m from n) refusal fault is);
  plain = no_bytes s work from n r _ stops;
}

-- one of its windows wasn't written whole
pub part_stopped : (o now new : Option Objects) (dataset : Name) (s : Scale) (work seen : Work) (count from to bytes : ℕ) (e : WriteFault) (r : Result ℕ WriteFault) → IsErrAnd r (λ fault. fault ≡ e)
    → seen ≡ work → from ≤ to → to ≤ count → work.scale ≡ s → s.sharding ≡ None → AreJobs work.scale work.cells → count ≡ length work.cells
    → ((m : Objects) → o ≡ Some m → KeepsOthers dataset s work)
    → ((m : Objects) → o ≡ Some m → Puts {E = WriteFault} (stored_from dataset s work m 0 from) (Some m) now (Ok bytes))
    → ((m : Objects) → o ≡ Some m → jobs_fault work m 0 from ≡ None)
    → WritesPart dataset s seen from (to - from) now new (Err e) → WritesPart dataset s work 0 count o new r
part_stopped o now new dataset s work seen count from to bytes e r stops same low high scale unsharded jobs all kept puts sound part = record {
  puts = in_told o (λ m. Puts {E = WriteFault} (stored_from dataset s work m 0 count) (Some m) new r)
      (λ m told.
      window_stopped m now new dataset s work seen count from to bytes e r stops same low high
      (keeps_stored work (λ i. cell_name dataset s (cell_of work.cells i)) count (keeps_of work.raw dataset work.scale s work.cells count scale unsharded jobs all (kept m told).raws)) (puts m told) part.puts);
  answer = as_error (λ x. IfSome o (λ m. WritesAll {A = ℕ} x (jobs_fault work m 0 count))) r stops
      (λ fault is.
      in_told o (λ m. WritesAll {A = ℕ} (Err fault) (jobs_fault work m 0 count))
      (λ m told.
      let here : Objects = put_in m (stored_from dataset s work m 0 from) in
      subst (λ f. WritesAll {A = ℕ} (Err f) (jobs_fault work m 0 count)) (sym is)
      (more_faulty m dataset s work.cells work.fault (stored_by work m) count from (to - from) e (omega arith) (keeps_of work.fault dataset work.scale s work.cells count scale unsharded jobs all (kept m told).faults) (sound m told)
      (subst (λ (x : Work). WritesAll {A = ℕ} (Err e) (jobs_fault x here from (to - from))) same (from_told now _ here (puts m told).put part.answer)))));
  plain = no_bytes s work 0 count r _ stops;
}

pub part_spared : (o now new : Option Objects) (dataset : Name) (s : Scale) (work seen : Work) (count from to bytes : ℕ) (e : WriteFault)
    → seen ≡ work → from ≤ to → to ≤ count → work.scale ≡ s → s.sharding ≡ None → AreJobs work.scale work.cells → count ≡ length work.cells
    → ((m : Objects) → o ≡ Some m → KeepsOthers dataset s work)
    → ((m : Objects) → o ≡ Some m → Puts {E = WriteFault} (stored_from dataset s work m 0 from) (Some m) now (Ok bytes))
    → ((m : Objects) → o ≡ Some m → jobs_fault work m 0 from ≡ None)
    → WritesPart dataset s seen from (to - from) now new (Err e) → IfSome now (λ m. (new ≡ Some m) ⊎ (jobs_fault seen m from (to - from) ≡ None)) → SparesFaulty dataset work o new
part_spared o now new dataset s work seen count from to bytes e same low high scale unsharded jobs all kept puts sound part unput =
    in_told o (λ m. IfSome new (Spares dataset work m))
    (λ m told.
    let here : Objects = put_in m (stored_from dataset s work m 0 from) in
    let is : now ≡ Some here = (puts m told).put in
    more_spared m new dataset s work count from (to - from) scale all (omega arith)
    (keeps_stored work (λ i. cell_name dataset s (cell_of work.cells i)) count (keeps_of work.raw dataset work.scale s work.cells count scale unsharded jobs all (kept m told).raws))
    (keeps_of work.fault dataset work.scale s work.cells count scale unsharded jobs all (kept m told).faults)
    (keeps_of (under_name dataset s work.cells) dataset work.scale s work.cells count scale unsharded jobs all (stays_named dataset s work.cells)) (sound m told)
    (subst (λ (x : Work). PutsFront (stored_from dataset s x here from (to - from)) here new) same ((from_told now _ here is part.puts).front))
    (subst (λ (x : Work). (new ≡ Some here) ⊎ (jobs_fault x here from (to - from) ≡ None)) same (from_told now _ here is unput)))
