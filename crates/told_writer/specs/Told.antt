-- What writing jobs answers over objects that are told (this project's).
use Rattle.std.specs.Prelude.{◌≡◌, length, Option, Some, Result, IfOk, OnErr, OnOk}
use Rattle.vol_base.specs.Outside.{Objects}
use Rattle.vol_spec.specs.StoredCells.{put_in}
use Rattle.vol_spec.specs.Types.{Name}
use Rattle.write_plan.specs.Jobs.{Work}
use Rattle.shard_writer.specs.Writing.{PutsFront, joint_len}
use Rattle.shard_writer.specs.Works.{SparesFaulty, WritesAll, first_of_jobs, job_objects}
use Rattle.shard_writer.specs.declared.written.WriteFault.{WriteFault}
use Rattle.shard_writer.specs.declared.written.Written.{Written}

-- jobs were written over objects that are told: their objects were put in, and are counted; or a front of them, none of them with a job that has a fault
pub record Wrote (dataset : Name) (work : Work) (m : Objects) (now : Option Objects)
    (result : Result Written WriteFault) : Type 0 where
  pub put : OnOk result (now ≡ Some (put_in m (job_objects dataset work m)))
  pub front : OnErr result (PutsFront (job_objects dataset work m) m now)
  pub spares : OnErr result (SparesFaulty dataset work (Some m) now)
  pub objects : IfOk result (λ (written : Written). written.objects ≡ length (job_objects dataset work m))
  pub cells : IfOk result (λ (written : Written). written.cells ≡ length work.cells)
  pub bytes : IfOk result (λ (written : Written). written.bytes ≡ joint_len (job_objects dataset work m))
  pub answer : WritesAll result (first_of_jobs work m)
