-- What is said of jobs that are written.
use Rattle.std.proofs.Common.{◌≡◌, Option, Some, None, IfSome}
use Rattle.std.specs.Prelude.{IfOk, OnErr, OnOk, Result, length}
use Rattle.vol_base.specs.Outside.{Objects}
use Rattle.vol_spec.specs.Types.{Name}
use Rattle.write_plan.specs.Jobs.{Work}
use Rattle.shard_writer.specs.Writing.{joint_len}
use Rattle.shard_writer.specs.Works.{KnowsLens, PutsJobs, PutsSome, SparesFaulty, WritesAll, first_of_jobs, told_objects}
use Rattle.shard_writer.specs.declared.written.WriteFault.{WriteFault}
use Rattle.shard_writer.specs.declared.written.Written.{Written}
use Rattle.told_writer.specs.Told.{Wrote}

pub wrote : (o now : Option Objects) (dataset : Name) (work : Work) (answer : Result Written WriteFault) → OnOk answer (PutsJobs dataset work o now) → OnErr answer (PutsSome dataset work o now) → OnErr answer (SparesFaulty dataset work o now)
    → IfOk answer (λ written. written.objects ≡ length (told_objects dataset work o)) → IfOk answer (λ written. written.cells ≡ length work.cells)
    → (KnowsLens work o → IfOk answer (λ written. written.bytes ≡ joint_len (told_objects dataset work o))) → IfSome o (λ m. WritesAll answer (first_of_jobs work m)) → IfSome o (λ m. Wrote dataset work m now answer)
wrote None now dataset work answer put front spares objects cells bytes first = tt
wrote (Some m) now dataset work answer put front spares objects cells bytes first = record { put = put; front = front; spares = spares; objects = objects; cells = cells; bytes = bytes tt; answer = first }
