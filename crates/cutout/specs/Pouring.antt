-- What writing out of a source into an outlet leaves (this project's).
use Rattle.std.specs.Prelude.{◌≢◌, ℕ, Err, Result, ⊤}
use Rattle.vol_base.specs.Causes.{HasCauseOf}
use Rattle.vol_base.specs.Outside.{Objects}
use Rattle.vol_base.specs.declared.outside.Outlet as Outlet
use Rattle.vol_base.specs.declared.outside.Source as Source
use Rattle.vol_spec.specs.Types.{Bytes}
use Rattle.vol_base.specs.Calls.{AsksFor}
use Rattle.cutout.specs.Streaming.{Leaves}
use Rattle.cutout.specs.declared.fault.StreamFault.{StreamFault}
use Rattle.cutout.specs.declared.fault.StreamFault.TheVariants.{OutsideScale, StoreFault, OutFault, OutOfMemory}

-- bytes were written of which a fact holds, at a price of bytes that were asked for; and a fault is one of the calls', or of a cell
pub record Pours {T U : Type 0} (source : Source.Ghosts T) (outlet : Outlet.Ghosts U) (before after : T)
    (old new : U) (result : Result ⊤ StreamFault) (price : Objects → ℕ) (P : Objects → Bytes →
    Type 0) : Type 0 where
  pub streams : Leaves (source.objects before) (outlet.written old) (outlet.written new) P
  pub inside : result ≢ Err OutsideScale
  pub memory : result ≢ Err OutOfMemory
  pub asks : AsksFor source price StoreFault before after result
  pub out_cause : HasCauseOf OutFault (outlet.faults old) (outlet.faults new) result
