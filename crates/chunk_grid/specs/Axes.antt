-- A part of a scale, which is a box inside it, on one axis (this project's).
use Rattle.std.specs.Prelude.{ℕ, ◌^◌, ◌<◌, ◌≤◌, pos, neg_ℤ, ◌≤ℤ◌}
use Rattle.vol_base.specs.declared.boxes.Box3.{Box3}
use Rattle.vol_base.specs.Boxes.{at, end, size}
use Rattle.vol_spec.specs.Grid.{whole}
use Rattle.vol_spec.specs.declared.scale.Scale.{Scale}

-- the part has a place on the axis and lies between the scale's ends there
pub record LiesOn (s : Scale) (b : Box3) (axis : ℕ) : Type 0 where
  pub some : 0 < size b axis
  pub begins : at s.offset axis ≤ℤ at b.begin axis
  pub ends : end b axis ≤ℤ end (whole s) axis

-- the part has a place on the axis, and its numbers are small
pub record IsSmallOn (b : Box3) (axis : ℕ) : Type 0 where
  pub some : 0 < size b axis
  pub sized : size b axis ≤ 2 ^ 40
  pub low : neg_ℤ (pos (2 ^ 40)) ≤ℤ at b.begin axis
  pub high : at b.begin axis ≤ℤ pos (2 ^ 41)
