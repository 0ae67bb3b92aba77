-- What gathering the cells that an update stores says (this project's profile).
use Rattle.std.specs.Prelude.{◌≡◌, Some, None, Result, Ok, Err}
use Rattle.vol_base.specs.Outside.{Objects}
use Rattle.vol_spec.specs.Types.{Name, Writes}
use Rattle.vol_spec.specs.declared.scale.Scale.{Scale}
use Rattle.update_laws.specs.Judged.{refusal_in}
use Rattle.update_laws.specs.Judged.Refusal.{BadShard as BadShardOf, TooManyCells as TooManyOf}
use Rattle.kept_cells.specs.declared.fault.KeepRefusal.{KeepRefusal}
use Rattle.kept_cells.specs.declared.fault.KeepRefusal.TheVariants.{NotRead, OutOfMemory, BadShard, TooManyCells}

-- nothing is refused, and what is answered is as it is said; or the first refusal
abbrev pub Gathers : {A : Type 0} → Result A KeepRefusal → (A → Type 0) → Objects → Name → Scale → Writes → Type 0
Gathers (Ok given) Is m dataset s writes = (refusal_in m dataset s writes ≡ None) × Is given
Gathers (Err NotRead) Is m dataset s writes = Unit {0}
Gathers (Err OutOfMemory) Is m dataset s writes = Unit {0}
Gathers (Err (BadShard shard minishard fault)) Is m dataset s writes =
    refusal_in m dataset s writes ≡ Some (BadShardOf shard minishard fault)
Gathers (Err (TooManyCells cells)) Is m dataset s writes =
    refusal_in m dataset s writes ≡ Some (TooManyOf cells)
