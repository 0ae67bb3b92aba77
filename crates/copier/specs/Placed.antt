-- Which cells of a target are made from those of a source, by the boxes that these lie over (this project's).
use Rattle.std.specs.Prelude.{Bool, List, filter}
use Rattle.std.specs.List.{list_any}
use Rattle.vol_base.specs.Outside.{Objects}
use Rattle.vol_base.specs.declared.boxes.Box3.{Box3}
use Rattle.vol_spec.specs.Copies.{cells_there}
use Rattle.vol_spec.specs.Grid.{cells_on, meets, numbers_on}
use Rattle.vol_spec.specs.Types.{Cell, Name}
use Rattle.vol_spec.specs.declared.scale.Scale.{Scale}

-- whether a cell of the target meets the box of a cell of the source that is there
abbrev pub is_placed : (Cell → Box3) → Objects → Name → Scale → Scale → Cell → Bool
is_placed place m dataset from to cell = list_any (λ source. meets to (place source) cell)
    (cells_there m dataset from)

-- those cells, in the order of the grid
abbrev pub placed_cells : (Cell → Box3) → Objects → Name → Scale → Scale → List Cell
placed_cells place m dataset from to = filter (is_placed place m dataset from to) (numbers_on (cells_on to))
