-- Which cells are reduced (this project's).
use Rattle.std.proofs.Common.{◌≡◌, List, ℕ, refl}
use Rattle.vol_base.specs.Outside.{Objects}
use Rattle.vol_spec.specs.declared.scale.Scale.{Scale}
use Rattle.copier.specs.Placed.{placed_cells}
use Rattle.reduce_laws.specs.Reduced.{reduced_cells, target_box}

pub reduced_placed : (m : Objects) (dataset : List ℕ) (from to : Scale) → reduced_cells m dataset from to ≡ placed_cells (target_box from to) m dataset from to
unfolding reduced_cells
reduced_placed m dataset from to = refl
