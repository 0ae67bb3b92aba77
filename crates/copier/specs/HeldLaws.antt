-- What makes a copier the chunks of a writer (this project's).
use Rattle.std.proofs.Common.{◌≡◌, ℕ, ◌+◌, ◌-◌, ◌++◌, ◌&&◌, nat_le, nat_lt, List, [], length, Some, IfSome, Bool, true, false, arith, length-take, length-append}
use Rattle.std.specs.Prelude.{None, filter, if◌then◌else◌, replicate, slice_index_or}
use Rattle.std.proofs.lemmas.List.{length-replicate}
use Rattle.vol_base.specs.Outside.{Objects}
use Rattle.vol_spec.specs.Encodings.{raw_size}
use Rattle.vol_spec.specs.Grid.{cell_box, cells_on, numbers_on}
use Rattle.vol_spec.specs.StoredCells.{cell_of}
use Rattle.vol_spec.specs.StoredLists.{AreJobs}
use Rattle.vol_spec.specs.declared.scale.Scale.{Scale}
use Rattle.chunk_grid.proofs.JobOrder.{AreJobs-in_key_order}
use Rattle.chunk_grid.proofs.OrderSteps.{AreInOrder-filter, AreInOrder-numbers_on}
use Rattle.chunk_laws.specs.Told.{is_listed}
use Rattle.copy_laws.proofs.CopySteps.{fault_apart, raw_apart}
use Rattle.copy_laws.proofs.CopyValues.{length-copied_raw}
use Rattle.write_plan.specs.Jobs.{FitsJob, KeepsOthers}
use Rattle.copier.specs.Held.{Held, IsApart, cells_of, front, raw_of, ready_of, work_of}

pub held_jobs : (h : Held) → AreJobs h.to (cells_of h)
held_jobs h =
    AreJobs-in_key_order h.to (filter (is_listed h.cells) (numbers_on (cells_on h.to)))
    (AreInOrder-filter h.to (is_listed h.cells) (numbers_on (cells_on h.to))
    (AreInOrder-numbers_on h.to)).each

pub length-front : (n : ℕ) (frame : List ℕ) → length (front n frame) ≡ n
length-front n frame = omega (
  arith,
  length-take n (frame ++ replicate n 0),
  length-append frame
      (replicate n 0),
  length-replicate {A = ℕ} n 0,
)

some_fits : (b : Bool) (bytes : List ℕ) (n : ℕ) → length bytes ≡ n →
    IfSome (if b then Some bytes else None) (λ bytes. length bytes ≡ n)
some_fits true bytes n e = e
some_fits false bytes n e = tt

pub ready_fits : (h : Held) (job : ℕ) → IfSome (ready_of h job) (FitsJob (work_of h) job)
ready_fits h job =
    some_fits (nat_le h.first job && nat_lt job (h.first + h.count))
    (front (raw_size h.to (cell_of (cells_of h) job)) (slice_index_or h.frames (job - h.first) [])) _
    (length-front (raw_size h.to (cell_of (cells_of h) job)) (slice_index_or h.frames (job - h.first) []))

pub raw_fits : (h : Held) (m : Objects) (job : ℕ) → FitsJob (work_of h) job (raw_of h m job)
raw_fits h m job = length-copied_raw m h.dataset h.from h.to (cell_of (cells_of h) job)

pub held_keeps : (h : Held) (dataset : List ℕ) (s : Scale) → IsApart h dataset s →
    KeepsOthers dataset s (work_of h)
held_keeps h dataset s apart = record {
  raws = λ m bytes i j before behind other. raw_apart h.dataset dataset h.from h.to s m
      (cell_of (cells_of h) i) bytes (cell_of (cells_of h) j) (apart (omega (arith, before)));
  faults = λ m bytes i j before behind other. fault_apart h.dataset dataset h.from s m
      (cell_of (cells_of h) i) bytes (cell_box h.to (cell_of (cells_of h) j)) (apart (omega (arith, before)));
}
