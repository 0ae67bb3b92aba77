-- Where a part of a box, which is a box inside it, lies in its raw bytes (this project's).
use Rattle.std.specs.Prelude.{◌≡◌, ℕ, ◌*◌, List, [], ◌∷◌, slice_index}
use Rattle.voxel_raw.specs.declared.axes.Axis.{Axis}
use Rattle.voxel_raw.specs.declared.axes.Run.{Run}
use Rattle.vol_base.specs.declared.boxes.Box3.{Box3}
use Rattle.vol_base.specs.Boxes.{from_begin, size}
use Rattle.voxel_raw.specs.declared.boxes.Place.{Place}

-- the first voxel of the part, and the lengths of a row, a plane and a volume
pub record IsPlace (b part : Box3) (w : ℕ) (place : Place) : Type 0 where
  pub x : place.x ≡ w * from_begin b part.begin 0
  pub y : place.y ≡ from_begin b part.begin 1
  pub z : place.z ≡ from_begin b part.begin 2
  pub row : place.row ≡ w * size b 0
  pub plane : place.plane ≡ w * size b 0 * size b 1
  pub volume : place.volume ≡ w * size b 0 * size b 1 * size b 2

-- the run, from the part's first voxel in each
abbrev pub run_of : Place → Place → List ℕ → ℕ → Run
run_of at to_at size w = record { from = at.x; to = to_at.x; len = w * slice_index size 0 }

-- channels, planes and rows
abbrev pub axes_of : Place → Place → List ℕ → ℕ → List Axis
axes_of at to_at size channels =
    record { from = 0; from_stride = at.volume; to = 0; to_stride = to_at.volume; count = channels }
    ∷ record {
      from = at.z;
      from_stride = at.plane;
      to = to_at.z;
      to_stride = to_at.plane;
      count =
          slice_index size 2;
    }
    ∷ record {
      from = at.y;
      from_stride = at.row;
      to = to_at.y;
      to_stride = to_at.row;
      count =
          slice_index size 1;
    }
    ∷ []
