-- What a copy of a scale keeps (this project's profile).
use Rattle.std.specs.Prelude.{◌≡◌, ◌<◌, ℕ, None}
use Rattle.vol_base.specs.Boxes.{Covers}
use Rattle.vol_base.specs.Outside.{Objects}
use Rattle.vol_base.specs.declared.boxes.Box3.{Box3}
use Rattle.vol_spec.specs.Chunks.{value_in}
use Rattle.vol_spec.specs.Copies.{copy}
use Rattle.vol_spec.specs.Cut.{cut, first_fault}
use Rattle.vol_spec.specs.Grid.{whole}
use Rattle.vol_spec.specs.StoredCells.{put_in}
use Rattle.vol_spec.specs.StoredLists.{stored_list}
use Rattle.vol_spec.specs.Types.{Name, Position}
use Rattle.vol_spec.specs.Verdicts.{Sound}
use Rattle.vol_spec.specs.declared.scale.Scale.{Scale}

-- objects with the copy stored in them
abbrev pub copied_in : Objects → Name → Scale → Name → Scale → Objects
copied_in m from_dataset from to_dataset to = put_in m
    (stored_list to_dataset to (copy m from_dataset from to))

-- each value of the target is the source's
abbrev pub KeepsValues : Objects → Name → Scale → Name → Scale → Type 0
KeepsValues m from_dataset from to_dataset to =
    (p : Position) (c : ℕ) → Covers (whole to) p → c < to.channels
    → value_in (copied_in m from_dataset from to_dataset to) to_dataset to p c
    ≡ value_in m from_dataset from p c

-- A box reads as the source did before the copy: no cell of the target that meets it has a fault, its cutout
-- is the one that was cut out of the source, and nothing is wrong with its cells; and it is still cut out of
-- the source as before.
pub record ReadsAsSource (m now : Objects) (from_dataset : Name) (from : Scale) (to_dataset : Name)
    (to : Scale) (b : Box3) : Type 0 where
  pub faultless : first_fault now to_dataset to b ≡ None
  pub values : cut now to_dataset to b ≡ cut m from_dataset from b
  pub sound : Sound now to_dataset to b
  pub source : cut now from_dataset from b ≡ cut m from_dataset from b
