-- What is judged before a scale is made of another one (this project's profile): that the target fits, that
-- no grid has too many cells, and that no object is under the target's folder, in this order.
use Rattle.std.specs.Prelude.{◌≡◌, ◌≢◌, ◌^◌, ℕ, nat_lt, true, false, Option, Some, None, Result, Ok, Err, ⊤, if◌then◌else◌}
use Rattle.vol_base.specs.Outside.{Objects, any_under}
use Rattle.vol_spec.specs.CellNames.{folder_of}
use Rattle.vol_spec.specs.Types.{Name}
use Rattle.vol_spec.specs.declared.scale.Scale.{Scale}
use Rattle.info_doc.specs.declared.fault.Item.{Item}
use Rattle.info_doc.specs.declared.fault.Item.TheVariants.{Size, VoxelOffset, DataType, NumChannels}
use Rattle.write_plan.specs.Pairs.{cell_count}
use Rattle.make_scale.specs.declared.fault.MakeFault.{MakeFault}
use Rattle.make_scale.specs.declared.fault.MakeFault.TheVariants.{Differs, TooManyCells, NotEmpty, StoreFault}

-- the first item in which a target isn't as it is to be: the size, the offset, the data type (which a width tells), the number of channels
abbrev pub DiffersAt : Type 0 → Type 0 → Scale → Scale → Item → Type 0
DiffersAt SameSize SameOffset from to Size = ¬ SameSize
DiffersAt SameSize SameOffset from to VoxelOffset = SameSize × ¬ SameOffset
DiffersAt SameSize SameOffset from to DataType = SameSize × SameOffset × (from.width ≢ to.width)
DiffersAt SameSize SameOffset from to NumChannels = SameSize × SameOffset ×
    (from.width ≡ to.width) × (from.channels ≢ to.channels)
DiffersAt SameSize SameOffset from to other = ⊥

-- the number of cells of the first grid, the source's or the target's, that has more than 2^22 (this project's limit)
abbrev pub too_many : Scale → Scale → Option ℕ
too_many from to =
    if nat_lt (2 ^ 22) (cell_count from) then Some (cell_count from)
    else (if nat_lt (2 ^ 22) (cell_count to) then Some (cell_count to) else None)

-- what is answered by the scales alone: in which item the target isn't as it is to be; or it is, and a grid has too many cells, or none has
abbrev pub JudgesAs : (Item → Type 0) → Type 0 → {A : Type 0} → Result A MakeFault → Scale → Scale → Type 0
JudgesAs Differing Fits (Err (Differs item)) from to = Differing item
JudgesAs Differing Fits (Err (TooManyCells cells)) from to = Fits × (too_many from to ≡ Some cells)
JudgesAs Differing Fits result from to = Fits × (too_many from to ≡ None)

-- what is answered by the folder over objects that are told
abbrev pub JudgesFolder : Result ⊤ MakeFault → Objects → Name → Scale → Type 0
JudgesFolder (Ok done) m dataset s = any_under m (folder_of dataset s) ≡ false
JudgesFolder (Err NotEmpty) m dataset s = any_under m (folder_of dataset s) ≡ true
JudgesFolder (Err other) m dataset s = Unit {0}

-- a fault of the scales, and one of the folder or of the store that is asked for it
abbrev pub IsOfScales : MakeFault → Type 0
IsOfScales (Differs item) = Unit {0}
IsOfScales (TooManyCells cells) = Unit {0}
IsOfScales other = ⊥

abbrev pub IsOfFolder : MakeFault → Type 0
IsOfFolder NotEmpty = Unit {0}
IsOfFolder StoreFault = Unit {0}
IsOfFolder other = ⊥
