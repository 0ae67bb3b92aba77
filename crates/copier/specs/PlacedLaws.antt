-- Which cells are copied (this project's).
use Rattle.std.proofs.Common.{◌≡◌, List, ℕ, refl}
use Rattle.vol_base.specs.Outside.{Objects}
use Rattle.vol_spec.specs.Copies.{copied_cells}
use Rattle.vol_spec.specs.Grid.{cell_box}
use Rattle.vol_spec.specs.declared.scale.Scale.{Scale}
use Rattle.copier.specs.Placed.{placed_cells}

pub copied_placed : (m : Objects) (dataset : List ℕ) (from to : Scale) → copied_cells m dataset from to ≡ placed_cells (cell_box from) m dataset from to
unfolding copied_cells
copied_placed m dataset from to = refl
