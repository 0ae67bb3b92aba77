-- What filling in the values of a cell leaves (this project's).
use Rattle.std.specs.Prelude.{◌≡◌, ℕ, ◌<◌, ◌≤◌, ◌^◌, ℤ, List}
use Rattle.vol_base.specs.declared.boxes.Box3.{Box3}
use Rattle.vol_base.specs.Boxes.{Covers, num}
use Rattle.vol_spec.specs.LastWrite.{Before, last}
use Rattle.vol_spec.specs.Raw.{digit, raw_len}
use Rattle.write_plan.specs.WriteLists.{BoxWrite}

-- a write's values in those of a cell: the write's where it covers the voxel, else as before
pub record Applied (w : BoxWrite) (cell : Box3) (channels width : ℕ) (old new : List ℕ) : Type 0 where
  pub taken : (p : List ℤ) (c : ℕ) → Covers cell p → Covers w.0 p → c < channels →
      digit new width (num cell p c) ≡ digit w.1 width (num w.0 p c)
  pub kept : (p : List ℤ) (c : ℕ) → Covers cell p → (Covers w.0 p → ⊥) → c < channels →
      digit new width (num cell p c) ≡ digit old width (num cell p c)

-- each value of a cell is that of the last of some writes that covers the voxel, else the one before
abbrev pub Shows : Box3 → ℕ → ℕ → Before → List BoxWrite → List ℕ → Type 0
Shows cell channels width before writes raw = (p : List ℤ) (c : ℕ) → Covers cell p → c < channels →
    digit raw width (num cell p c) ≡ last width before writes p c

-- the bytes of a box's values, at most 2^30
pub record HoldsValues (b : Box3) (channels width n : ℕ) : Type 0 where
  pub len : n ≡ raw_len b channels width
  pub limit : n ≤ 2 ^ 30
