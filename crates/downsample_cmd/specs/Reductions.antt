-- What reducing a scale into the next one answers (this project's).
use Rattle.std.specs.Prelude.{◌≡◌, ◌⊎◌, length, Option, Some, Result, IfSome}
use Rattle.vol_base.specs.Outside.{Draft, Objects}
use Rattle.vol_base.specs.declared.faults.Fault.{Fault}
use Rattle.vol_spec.specs.Chunks.{fault_in}
use Rattle.vol_spec.specs.Grid.{IsCell}
use Rattle.vol_spec.specs.StoredLists.{in_key_order}
use Rattle.vol_spec.specs.Types.{Cell, Name}
use Rattle.vol_spec.specs.declared.scale.Scale.{Scale}
use Rattle.chunk_laws.specs.Told.{HasNoFault}
use Rattle.coarse_laws.specs.Coarse.{HasReduced, reduced_in}
use Rattle.copier.specs.Held.{cells_of}
use Rattle.reduce_laws.specs.Reduced.{reduced_cells}
use Rattle.reduce_laws.specs.declared.method.Method.{Method}
use Rattle.reducer.specs.Works.{Reduction}
use Rattle.shard_writer.specs.Writing.{BeginsNext, Drops, joint_len}
use Rattle.shard_writer.specs.declared.written.Written.{Written}
use Rattle.make_scale.specs.declared.fault.MakeFault.{MakeFault as ReshardFault}
use Rattle.make_scale.specs.Making.{Makes, Said}
use Rattle.downsample_cmd.specs.Downsampling.{reduced_list, source_fault, PutsReducedFront}

-- nothing is being written, or what was before, or the next of the reduced scale's objects, behind those that were put in
abbrev pub DropsOrReduces : Method → Option Objects → Option Objects → Name → Scale → Scale → Option Draft →
    Option Draft → Type 0
DropsOrReduces method old now dataset from to before after = Drops before after ⊎
    IfSome old (λ m. BeginsNext (reduced_list method m dataset from to) m now after)

-- a cell of the source that has a fault, the first on the way
pub record IsFirstFault (m : Objects) (dataset : Name) (from to : Scale) (cell : Cell)
    (fault : Fault) : Type 0 where
  pub first : source_fault m dataset from to ≡ Some (cell, fault)
  pub of_source : IsCell from cell
  pub its_own : fault_in m dataset from cell ≡ Some fault

-- a reduced scale was stored: its objects were put in and nothing else was changed, as many as are told; the source had no fault, each value of the
-- target is the reduced one, and the target has no fault
pub record IsReduced (method : Method) (m : Objects) (now : Option Objects) (dataset : Name)
    (from to : Scale) (written : Written) : Type 0 where
  pub put : now ≡ Some (reduced_in method m dataset from to)
  pub objects : written.objects ≡ length (reduced_list method m dataset from to)
  pub cells : written.cells ≡ length (reduced_cells m dataset from to)
  pub bytes : written.bytes ≡ joint_len (reduced_list method m dataset from to)
  pub source : HasNoFault m dataset from
  pub values : HasReduced method m dataset from to
  pub target : HasNoFault (reduced_in method m dataset from to) dataset to

-- a reducer has a job for each cell that is reduced
abbrev pub HasReducedJobs : Objects → Reduction → Scale → Type 0
HasReducedJobs m reducer to =
    cells_of reducer.held ≡ in_key_order to (reduced_cells m reducer.held.dataset reducer.held.from to)

-- what is said of a reduction
abbrev pub said_reduction : Method → Objects → Option Objects → Name → Scale → Scale → Said
said_reduction method m now dataset from to = record {
  made = IsReduced method m now dataset from to;
  faulty = IsFirstFault m dataset from to;
  front = PutsReducedFront method m now dataset from to;
}

-- what reducing a scale answers over objects that are told
abbrev pub Downsamples : Result Written ReshardFault → Method → Objects → Option Objects → Name → Scale →
    Scale → Type 0
Downsamples result method m now dataset from to =
    Makes (said_reduction method m now dataset from to) result m now dataset to
