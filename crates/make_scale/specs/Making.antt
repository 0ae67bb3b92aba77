-- What making a scale of another one answers (this project's profile).
use Rattle.std.specs.Prelude.{◌≡◌, ◌⊎◌, true, false, length, Option, Some, Result, Ok as Done, Err, IfOk, OnErr, OnOk}
use Rattle.vol_base.specs.Outside.{Draft, Objects, OnlyReads, any_under}
use Rattle.vol_base.specs.declared.faults.Fault.{Fault}
use Rattle.vol_spec.specs.CellNames.{folder_of}
use Rattle.vol_spec.specs.StoredCells.{put_in}
use Rattle.vol_spec.specs.Types.{Cell, Name}
use Rattle.vol_spec.specs.declared.scale.Scale.{Scale}
use Rattle.write_plan.specs.Jobs.{Work}
use Rattle.shard_writer.specs.Writing.{PutsFront, joint_len}
use Rattle.shard_writer.specs.Works.{SparesFaulty, WritesAll, first_of_jobs, job_objects}
use Rattle.shard_writer.specs.declared.written.WriteFault.{WriteFault}
use Rattle.shard_writer.specs.declared.written.WriteFault.TheVariants as write
use Rattle.shard_writer.specs.declared.written.Written.{Written}
use Rattle.make_scale.specs.declared.fault.MakeFault.{MakeFault}
use Rattle.make_scale.specs.declared.fault.MakeFault.TheVariants as fault

-- what is said of a target: what stands once it is made, with the numbers that are told; that a cell of the source has this fault, the first on
-- the way; and what stands after a front of its objects
pub record Said : Type 1 where
  pub made : Written → Type 0
  pub faulty : Cell → Fault → Type 0
  pub front : Type 0

-- jobs were written over objects that are told: their objects were put in, and are counted; or a front of them, none of them with a job that has a fault
pub record Wrote (dataset : Name) (work : Work) (m : Objects) (now : Option Objects)
    (result : Result Written WriteFault) : Type 0 where
  pub put : OnOk result (now ≡ Some (put_in m (job_objects dataset work m)))
  pub front : OnErr result (PutsFront (job_objects dataset work m) m now)
  pub spares : OnErr result (SparesFaulty dataset work (Some m) now)
  pub objects : IfOk result (λ (written : Written). written.objects ≡ length (job_objects dataset work m))
  pub cells : IfOk result (λ (written : Written). written.cells ≡ length work.cells)
  pub bytes : IfOk result (λ (written : Written). written.bytes ≡ joint_len (job_objects dataset work m))
  pub answer : WritesAll result (first_of_jobs work m)

-- what putting a target's objects in an empty folder answers
abbrev pub Puts : Said → Result Written WriteFault → Type 0
Puts said (Done written) = said.made written
Puts said (Err (write.Damaged cell found)) = said.faulty cell found × said.front
Puts said (Err write.StoreFault) = said.front
Puts said (Err write.OutOfMemory) = said.front

-- what a fault of writing is
abbrev pub unwritten : WriteFault → MakeFault
unwritten write.StoreFault = fault.StoreFault
unwritten (write.Damaged cell found) = fault.Damaged cell found
unwritten write.OutOfMemory = fault.OutOfMemory

-- what making a target answers over objects that are told: the folder is judged after the scales, and nothing is put where it isn't empty
abbrev pub Makes : Said → Result Written MakeFault → Objects → Option Objects → Name → Scale → Type 0
Makes said (Err (fault.Differs item)) m now dataset to = now ≡ Some m
Makes said (Err (fault.TooManyCells cells)) m now dataset to = now ≡ Some m
Makes said (Err fault.NotEmpty) m now dataset to = (any_under m (folder_of dataset to) ≡ true) × (now ≡ Some m)
Makes said (Err fault.StoreFault) m now dataset to =
    (now ≡ Some m) ⊎ ((any_under m (folder_of dataset to) ≡ false) × said.front)
Makes said (Err (fault.Damaged cell found)) m now dataset to =
    (any_under m (folder_of dataset to) ≡ false) × Puts said (Err (write.Damaged cell found))
Makes said (Err fault.OutOfMemory) m now dataset to = (any_under m (folder_of dataset to) ≡ false) × said.front
Makes said (Done written) m now dataset to = (any_under m (folder_of dataset to) ≡ false) × said.made written

-- what stands after a refusal, also where nothing is told: the store is only read before the target is begun
abbrev pub KeepsStore : MakeFault → Option Objects → Option Objects → Option Draft → Option Draft → Type 0
KeepsStore (fault.Differs item) old now before after = OnlyReads old now before after
KeepsStore (fault.TooManyCells cells) old now before after = OnlyReads old now before after
KeepsStore fault.NotEmpty old now before after = OnlyReads old now before after
KeepsStore other old now before after = Unit {0}
