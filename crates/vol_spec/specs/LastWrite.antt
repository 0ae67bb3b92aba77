-- The value that the last covering write gives a voxel, over what was there (this project's profile).
use Rattle.std.specs.Prelude.{◌≡◌, ◌<◌, ◌^◌, ℕ, Bool, ◌&&◌, [], ◌∷◌, reverse, int_lt, int_le, if◌then◌else◌}
use Rattle.std.specs.List.{list_all}
use Rattle.vol_base.specs.declared.boxes.Box3.{Box3}
use Rattle.vol_base.specs.Boxes.{at, end, num, on_axes}
use Rattle.vol_spec.specs.Raw.{digit}
use Rattle.vol_spec.specs.Types.{Position, Writes}

-- whether a box covers a position
abbrev pub covers_on : Box3 → Position → ℕ → Bool
covers_on b p axis = int_le (at b.begin axis) (at p axis) && int_lt (at p axis) (end b axis)

abbrev pub covers : Box3 → Position → Bool
covers b p = list_all (covers_on b p) (0 ∷ 1 ∷ 2 ∷ [])

-- what each voxel and channel had before the first write
abbrev pub Before : Type 0
Before = Position → ℕ → ℕ

-- nothing
abbrev pub zeros : Before
zeros p c = 0

-- of writes with the newest first: the value in the newest one that covers the voxel, else what was there
abbrev pub newest : ℕ → Before → Writes → Position → ℕ → ℕ
newest w before [] p c = before p c
newest w before (write ∷ older) p c = if covers write.0 p then digit write.1 w (num write.0 p c)
    else newest w before older p c

-- of writes in order: the value in the last one that covers the voxel, else what was there
abbrev pub last : ℕ → Before → Writes → Position → ℕ → ℕ
last w before writes p c = newest w before (reverse writes) p c

-- values of w bytes, by the coordinates of a position
pub record AreValues (w : ℕ) (before : Before) : Type 0 where
  pub fit : (p : Position) (c : ℕ) → before p c < 256 ^ w
  pub by_axes : (p : Position) (c : ℕ) → before (on_axes (at p)) c ≡ before p c
