-- What makes an updater the chunks of a writer (this project's).
use Rattle.std.proofs.Common.{◌≡◌, ℕ, nat_lt, Bool, true, false, length, Option, Some, None, IfSome}
use Rattle.std.specs.Prelude.{if◌then◌else◌}
use Rattle.std.specs.Option.{option_map}
use Rattle.vol_base.specs.Outside.{Objects}
use Rattle.vol_spec.specs.Encodings.{raw_size}
use Rattle.vol_spec.specs.Grid.{cell_box}
use Rattle.vol_spec.specs.Raw.{raw_at}
use Rattle.vol_spec.specs.StoredCells.{cell_of}
use Rattle.vol_spec.specs.StoredLists.{AreJobs}
use Rattle.vol_spec.specs.Types.{Bytes, Cell, Name, Writes}
use Rattle.vol_spec.specs.declared.scale.Scale.{Scale}
use Rattle.vol_spec.proofs.RawSteps.{length-written_raw}
use Rattle.update_laws.specs.Overlaid.{overlaid}
use Rattle.write_plan.specs.Jobs.{FitsJob, KeepsOthers}
use Rattle.copier.specs.Held.{cells_of}
use Rattle.copier.specs.Held as held
use Rattle.copier.specs.HeldLaws.{held_jobs}
use Rattle.updater.specs.Updates.{IsApart, Updates, ready_of, work_of}

pub updates_jobs : (u : Updates) → AreJobs u.held.to (cells_of u.held)
updates_jobs u = held_jobs u.held

pub length-overlaid : (s : Scale) (writes : Writes) (cell : Cell) (bytes : Bytes) →
    length (overlaid s writes cell bytes) ≡ raw_size s cell
length-overlaid s writes cell bytes = length-written_raw s (raw_at (cell_box s cell) s.width bytes) writes cell

some_fits : (b : Bool) (o : Option Bytes) (f : Bytes → Bytes) (n : ℕ) → ((bytes : Bytes) → length (f bytes) ≡ n) →
    IfSome (if b then option_map f o else None) (λ bytes. length bytes ≡ n)
some_fits true None f n h = tt
some_fits true (Some bytes) f n h = h bytes
some_fits false o f n h = tt

pub ready_fits : (u : Updates) (job : ℕ) → IfSome (ready_of u job) (FitsJob (work_of u) job)
ready_fits u job = some_fits (nat_lt job (length (cells_of u.held))) (held.ready_of u.held job)
    (overlaid u.held.to u.writes (cell_of (cells_of u.held) job)) (raw_size u.held.to (cell_of (cells_of u.held) job))
    (length-overlaid u.held.to u.writes (cell_of (cells_of u.held) job))

pub raw_fits : (u : Updates) (m : Objects) (job : ℕ) → FitsJob (work_of u) job ((work_of u).raw m job)
raw_fits u m job = length-overlaid u.held.to u.writes (cell_of (cells_of u.held) job) (held.raw_of u.held m job)

pub updates_keep : (u : Updates) (dataset : Name) (s : Scale) → IsApart u dataset s →
    KeepsOthers dataset s (work_of u)
updates_keep u dataset s apart = apart
