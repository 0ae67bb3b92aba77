-- What a search for the chunk of a cell leaves (this project's).
use Rattle.std.specs.Prelude.{◌≡◌, ◌≢◌, ◌+◌, ◌≤◌, Err, IfErr, IfSome, None, Result}
use Rattle.vol_base.specs.declared.outside.Source.{Ghosts}
use Rattle.vol_spec.specs.Types.{Cell, Name}
use Rattle.vol_spec.specs.declared.scale.Scale.{Scale}
use Rattle.vol_base.specs.Calls.{ReadsFrom}
use Rattle.cutout.specs.Keeping.{search_cost}
use Rattle.cutout.specs.Reading.{Locates}
use Rattle.cutout.specs.declared.fault.CutFault.{CutFault}
use Rattle.cutout.specs.declared.fault.CutFault.TheVariants.{OutsideScale, StoreFault}
use Rattle.cutout.specs.declared.found.Found.{Found}

-- It found the chunk or the first fault, which is the source's alone where the cell has an object of its own; it asked for no more than
-- an entry and an index; and behind another fault than the source's the source's count of faults stands.
pub record Searches {T : Type 0} (source : Ghosts T) (dataset : Name) (s : Scale) (cell : Cell)
    (before after : T) (result : Result Found CutFault) : Type 0 where
  pub found : IfSome (source.objects before) (λ m. Locates result m dataset s cell)
  pub inside : result ≢ Err OutsideScale
  pub whole : s.sharding ≡ None → IfErr result (λ fault. fault ≡ StoreFault)
  pub asked : IfSome (source.objects before) (λ m.
      source.asked after ≤ source.asked before + search_cost m dataset s cell)
  pub reads : ReadsFrom source StoreFault before after result
  pub still : IfErr result (λ fault. fault ≢ StoreFault → source.faults after ≡ source.faults before)
