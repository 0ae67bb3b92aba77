-- Where the first fault of a reduction is.
use Rattle.std.proofs.Common.{◌≡◌, ℕ, List, Some, None}
use Rattle.vol_base.specs.Outside.{Objects}
use Rattle.vol_base.specs.declared.faults.Fault.{Fault}
use Rattle.vol_spec.specs.StoredLists.{in_key_order}
use Rattle.vol_spec.specs.declared.scale.Scale.{Scale}
use Rattle.chunk_laws.specs.Told.{HasNoFault}
use Rattle.coarse_laws.proofs.CoarseLaw.{AreInOrder-reduced_cells, fault_found}
use Rattle.reduce_laws.specs.Reduced.{IsNext, reduced_cells, source_box}
use Rattle.reduce_laws.specs.declared.method.Method.TheVariants.{Mean}
use Rattle.reshard_cmd.proofs.FaultSteps.{first_in, none_in_each}
use Rattle.downsample_cmd.specs.Downsampling.{source_fault}
use Rattle.downsample_cmd.specs.Reductions.{IsFirstFault}

pub first_is : (m : Objects) (dataset : List ℕ) (from to : Scale) (cell : List ℕ) (fault : Fault) → source_fault m dataset from to ≡ Some (cell, fault) → IsFirstFault m dataset from to cell fault
first_is m dataset from to cell fault e =
    let told = first_in m dataset from (source_box from to) (in_key_order to (reduced_cells m dataset from to)) cell fault e in
    record { first = e; of_source = told.0; its_own = told.1 }

-- where there is none, the source has none
pub none_is : (m : Objects) (dataset : List ℕ) (from to : Scale) → IsNext from to → source_fault m dataset from to ≡ None → HasNoFault m dataset from
none_is m dataset from to same e cell is =
    fault_found Mean m dataset from to same (none_in_each m dataset from (source_box from to) to (reduced_cells m dataset from to) (AreInOrder-reduced_cells Mean m dataset from to same).each e) cell is
