-- What copying a scale into another layout answers (this project's).
use Rattle.std.specs.Prelude.{◌≡◌, ◌⊎◌, length, Option, Some, Result, IfSome}
use Rattle.vol_base.specs.Outside.{Draft, Objects}
use Rattle.vol_base.specs.declared.faults.Fault.{Fault}
use Rattle.vol_spec.specs.Chunks.{fault_in}
use Rattle.vol_spec.specs.Copies.{copied_cells}
use Rattle.vol_spec.specs.Grid.{IsCell}
use Rattle.vol_spec.specs.StoredLists.{in_key_order}
use Rattle.vol_spec.specs.Types.{Cell, Name}
use Rattle.vol_spec.specs.declared.scale.Scale.{Scale}
use Rattle.chunk_laws.specs.Told.{HasNoFault}
use Rattle.copy_laws.specs.Copied.{KeepsValues, copied_in}
use Rattle.copier.specs.Held.{Held, cells_of}
use Rattle.shard_writer.specs.Writing.{BeginsNext, Drops, joint_len}
use Rattle.shard_writer.specs.declared.written.Written.{Written}
use Rattle.make_scale.specs.Making.{Makes, Said}
use Rattle.make_scale.specs.declared.fault.MakeFault.{MakeFault as ReshardFault}
use Rattle.reshard_cmd.specs.Resharding.{copy_list, copy_fault, PutsCopyFront}

-- nothing is being written, or what was before, or the next of the copy's objects, behind those that were put in
abbrev pub DropsOrCopies : Option Objects → Option Objects → Name → Scale → Name → Scale → Option Draft →
    Option Draft → Type 0
DropsOrCopies old now from_dataset from to_dataset to before after = Drops before after ⊎
    IfSome old (λ m. BeginsNext (copy_list m from_dataset from to_dataset to) m now after)

-- a cell of the source that has a fault, the first on the way
pub record IsFirstFault (m : Objects) (dataset : Name) (from to : Scale) (cell : Cell)
    (fault : Fault) : Type 0 where
  pub first : copy_fault m dataset from to ≡ Some (cell, fault)
  pub of_source : IsCell from cell
  pub its_own : fault_in m dataset from cell ≡ Some fault

-- a copy was stored: its objects were put in and nothing else was changed, as many as are told; the source had no fault, each value of the
-- target is the source's, and the target has no fault
pub record IsCopied (m : Objects) (now : Option Objects) (from_dataset : Name) (from : Scale)
    (to_dataset : Name) (to : Scale) (written : Written) : Type 0 where
  pub put : now ≡ Some (copied_in m from_dataset from to_dataset to)
  pub objects : written.objects ≡ length (copy_list m from_dataset from to_dataset to)
  pub cells : written.cells ≡ length (copied_cells m from_dataset from to)
  pub bytes : written.bytes ≡ joint_len (copy_list m from_dataset from to_dataset to)
  pub source : HasNoFault m from_dataset from
  pub values : KeepsValues m from_dataset from to_dataset to
  pub target : HasNoFault (copied_in m from_dataset from to_dataset to) to_dataset to

-- a copier has a job for each cell that is copied
abbrev pub HasCopyJobs : Objects → Held → Scale → Type 0
HasCopyJobs m copier to = cells_of copier ≡ in_key_order to (copied_cells m copier.dataset copier.from to)

-- what is said of a copy
abbrev pub said_copy : Objects → Option Objects → Name → Scale → Name → Scale → Said
said_copy m now from_dataset from to_dataset to = record {
  made = IsCopied m now from_dataset from to_dataset to;
  faulty = IsFirstFault m from_dataset from to;
  front = PutsCopyFront m now from_dataset from to_dataset to;
}

-- what copying a scale answers over objects that are told
abbrev pub Reshards : Result Written ReshardFault → Objects → Option Objects → Name → Scale → Name → Scale →
    Type 0
Reshards result m now from_dataset from to_dataset to =
    Makes (said_copy m now from_dataset from to_dataset to) result m now to_dataset to
