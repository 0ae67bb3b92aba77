-- A cell with its box, and the bytes that its values are put into (this project's).
use Rattle.std.specs.Prelude.{◌≡◌, ℕ, ◌+◌, ◌*◌, ◌≤◌, ◌^◌, drop, take}
use Rattle.vol_base.specs.declared.boxes.Box3.{Box3}
use Rattle.vol_base.specs.Boxes.{voxels}
use Rattle.vol_spec.specs.Grid.{cell_box, IsCell}
use Rattle.vol_spec.specs.Raw.{raw_len}
use Rattle.vol_spec.specs.Types.{Bytes, Cell}
use Rattle.vol_spec.specs.declared.scale.Scale.{Scale}
use Rattle.cutout.specs.declared.boxed.BoxedCell.{BoxedCell}
use Rattle.cutout.specs.declared.channels.Channels.{Channels}

-- a cell of a scale has its box
pub record IsBoxed (s : Scale) (home : BoxedCell) : Type 0 where
  pub in_grid : IsCell s home.cell
  pub box : home.own ≡ cell_box s home.cell

-- so many bytes hold the values of a part, in some channels of a scale, and are at most 2^30
pub record IsTarget (s : Scale) (part : Box3) (picked : Channels) (room : ℕ) : Type 0 where
  pub channels : picked.first + picked.count ≤ s.channels
  pub len : room ≡ raw_len part picked.count s.width
  pub limit : room ≤ 2 ^ 30

-- of the values of a cell those of some channels
abbrev pub picked_of : Scale → Cell → Channels → Bytes → Bytes
picked_of s cell picked values = take (picked.count * (voxels (cell_box s cell) * s.width))
    (drop (picked.first * (voxels (cell_box s cell) * s.width)) values)
