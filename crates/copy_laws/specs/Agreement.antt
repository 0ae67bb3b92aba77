-- Objects that say the same of a scale (this project's).
use Rattle.std.specs.Prelude.{◌≡◌, ◌≢◌}
use Rattle.std.specs.FinMap as fin
use Rattle.vol_base.specs.Outside.{Objects}
use Rattle.vol_spec.specs.CellNames.{folder_of}
use Rattle.vol_spec.specs.StoredBytes.{object_of}
use Rattle.vol_spec.specs.Types.{Cell, Name}
use Rattle.vol_spec.specs.declared.scale.Scale.{Scale}

-- each name that the scale gives to a cell has the same object in both, or none in both
abbrev pub Agree : Name → Scale → Objects → Objects → Type 0
Agree dataset s m n = (cell : Cell) → fin.get m (object_of dataset s cell)
    ≡ fin.get n (object_of dataset s cell)

-- two scales have folders of their own. Then no object of the one is one of the other, also where one folder lies in the other.
abbrev pub AreApart : Name → Scale → Name → Scale → Type 0
AreApart dataset s other t = folder_of dataset s ≢ folder_of other t
