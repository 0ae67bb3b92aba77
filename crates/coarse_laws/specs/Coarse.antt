-- What reducing a scale into the next one keeps (this project's profile).
use Rattle.std.specs.Prelude.{◌≡◌, ◌<◌, ℕ, Ok, None}
use Rattle.vol_base.specs.Boxes.{Covers}
use Rattle.vol_base.specs.Outside.{Objects}
use Rattle.vol_base.specs.declared.boxes.Box3.{Box3}
use Rattle.vol_spec.specs.Chunks.{value_in}
use Rattle.vol_spec.specs.Cut.{cut, first_fault}
use Rattle.vol_spec.specs.Grid.{whole}
use Rattle.vol_spec.specs.StoredCells.{put_in, raw_bytes}
use Rattle.vol_spec.specs.StoredLists.{stored_list}
use Rattle.vol_spec.specs.Types.{Name, Position}
use Rattle.vol_spec.specs.Verdicts.{Sound}
use Rattle.vol_spec.specs.declared.scale.Scale.{Scale}
use Rattle.reduce_laws.specs.Reduced.{reduced, reduced_chunks}
use Rattle.reduce_laws.specs.declared.method.Method.{Method}

-- objects with the reduction stored in them
abbrev pub reduced_in : Method → Objects → Name → Scale → Scale → Objects
reduced_in method m dataset from to = put_in m (stored_list dataset to (reduced_chunks method m dataset from to))

-- each value of the target is the reduced one
abbrev pub HasReduced : Method → Objects → Name → Scale → Scale → Type 0
HasReduced method m dataset from to =
    (p : Position) (c : ℕ) → Covers (whole to) p → c < to.channels
    → value_in (reduced_in method m dataset from to) dataset to p c ≡ Ok (reduced method m dataset from p c)

-- A box reads as the reduced source: no cell of the target that meets it has a fault, its cutout are the reduced values, and nothing is wrong
-- with its cells; and each box of the source is cut out as before.
pub record ReadsAsReduced (method : Method) (m now : Objects) (dataset : Name) (from to : Scale) (b : Box3)
    : Type 0 where
  pub faultless : first_fault now dataset to b ≡ None
  pub values : cut now dataset to b ≡ raw_bytes b to.channels to.width (reduced method m dataset from)
  pub sound : Sound now dataset to b
  pub source : (part : Box3) → cut now dataset from part ≡ cut m dataset from part
