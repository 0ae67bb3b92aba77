-- What calls that only read leave of a source (this project's).
use Rattle.std.specs.Prelude.{◌≡◌, ℕ, ◌+◌, ◌≤◌, IfSome, Result}
use Rattle.vol_base.specs.Causes.{HasCauseOf}
use Rattle.vol_base.specs.Outside.{Objects, OnlyReads}
use Rattle.vol_base.specs.declared.outside.Source.{Ghosts}

-- the objects, the object being written and the record of moments stay, and a fault of a call comes only where the
-- count of faults rose
pub record ReadsFrom {T A E : Type 0} (source : Ghosts T) (fault : E) (before after : T)
    (result : Result A E) : Type 0 where
  pub kept : OnlyReads (source.objects before) (source.objects after) (source.draft before) (source.draft after)
  pub history : source.history after ≡ source.history before
  pub cause : HasCauseOf fault (source.faults before) (source.faults after) result

-- and no more bytes are asked for than a price, where the objects are told
pub record AsksFor {T A E : Type 0} (source : Ghosts T) (price : Objects → ℕ) (fault : E) (before after : T)
    (result : Result A E) : Type 0 where
  pub asked : IfSome (source.objects before) (λ m. source.asked after ≤ source.asked before + price m)
  pub reads : ReadsFrom source fault before after result
