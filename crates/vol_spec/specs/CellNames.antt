-- Names of chunk objects (precomputed volume format, chunk storage): DATASET/KEY/x0-x1_y0-y1_z0-z1, with the cell's begin and end
-- on each axis in decimal.
use Rattle.std.specs.Prelude.{ℕ, ◌∷◌, ◌++◌}
use Rattle.std.specs.Fmt.{signed_decimal}
use Rattle.vol_base.specs.declared.boxes.Box3.{Box3}
use Rattle.vol_base.specs.Boxes.{at, end}
use Rattle.vol_spec.specs.Grid.{cell_box}
use Rattle.vol_spec.specs.Types.{Cell, Name}
use Rattle.vol_spec.specs.declared.scale.Scale.{Scale}

-- two names with `/` between
abbrev pub joined : Name → Name → Name
joined front back = front ++ 47 ∷ back

-- the folder of a scale: the data set's name, `/` and the key
abbrev pub folder_of : Name → Scale → Name
folder_of dataset s = joined dataset s.key

-- the two ends of a box on an axis, with `-` between
abbrev pub span_text : Box3 → ℕ → Name
span_text b axis = signed_decimal (at b.begin axis) ++ 45 ∷ signed_decimal (end b axis)

-- the spans of the three axes, with `_` between
abbrev pub box_name : Box3 → Name
box_name b = span_text b 0 ++ 95 ∷ (span_text b 1 ++ 95 ∷ span_text b 2)

-- the object of a cell
abbrev pub cell_name : Name → Scale → Cell → Name
cell_name dataset s cell = joined (folder_of dataset s) (box_name (cell_box s cell))
