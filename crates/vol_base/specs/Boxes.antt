-- Boxes of voxels (this project's). A position is a list of three coordinates, x first, and so is every list
-- over the axes 0, 1 and 2. The order of values is that of a raw chunk (precomputed volume format, raw chunk
-- encoding).
use Rattle.std.specs.Prelude.{ℕ, ◌+◌, ◌*◌, ◌<◌, ℤ, pos, ◌+ℤ◌, ◌-ℤ◌, ◌≤ℤ◌, ◌<ℤ◌, nat_abs, List, [], ◌∷◌, slice_index, slice_index_or, take, drop}
use Rattle.vol_base.specs.declared.boxes.Box3.{Box3}

-- a coordinate of a position, by its axis
abbrev pub at : List ℤ → ℕ → ℤ
at p axis = slice_index_or p axis (pos 0)

-- the size of a box on an axis
abbrev pub size : Box3 → ℕ → ℕ
size b axis = slice_index b.size axis

-- one past the last coordinate of a box on an axis
abbrev pub end : Box3 → ℕ → ℤ
end b axis = at b.begin axis +ℤ pos (size b axis)

-- a list over the three axes
abbrev pub on_axes : {A : Type 0} → (ℕ → A) → List A
on_axes f = f 0 ∷ f 1 ∷ f 2 ∷ []

-- a box covers a position: on each axis begin ≤ p < begin + size
abbrev pub Covers : Box3 → List ℤ → Type 0
Covers b p = (axis : ℕ) → axis < 3 → (at b.begin axis ≤ℤ at p axis) × (at p axis <ℤ end b axis)

-- one box lies in another: each position of the one is one of the other
abbrev pub Within : Box3 → Box3 → Type 0
Within inner outer = (p : List ℤ) → Covers inner p → Covers outer p

-- no axis of the box is empty
abbrev pub IsSome : Box3 → Type 0
IsSome b = (axis : ℕ) → axis < 3 → 0 < size b axis

-- how many voxels a box has
abbrev pub voxels : Box3 → ℕ
voxels b = size b 0 * size b 1 * size b 2

-- how far a position is from the begin of a box on an axis
abbrev pub from_begin : Box3 → List ℤ → ℕ → ℕ
from_begin b p axis = nat_abs (at p axis -ℤ at b.begin axis)

-- the number of a voxel's value among those of a box: x fastest, then y, then z, then the channel
-- (precomputed volume format, raw chunk encoding)
abbrev pub num : Box3 → List ℤ → ℕ → ℕ
num b p c = from_begin b p 0 + size b 0 * (from_begin b p 1 + size b 1 * (from_begin b p 2 + size b 2 * c))

-- the w bytes of the n-th value
abbrev pub value : ℕ → List ℕ → ℕ → List ℕ
value w bytes n = take w (drop (w * n) bytes)
