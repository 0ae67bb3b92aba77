-- Sizes over the axes, and the bits of compressed Morton codes over a grid (precomputed volume format,
-- sharded format, chunk ids).
use Rattle.std.specs.Prelude.{ℕ, ◌^◌, ◌<◌, ◌≤◌, nat_lt, Bool, List, [], ◌∷◌, filter, flat_map, slice_index}
use Rattle.std.specs.List.{range_with_len}

-- on each axis 1 to 2^40 (this project's limit)
abbrev pub AreSizes : List ℕ → Type 0
AreSizes sizes = (axis : ℕ) → axis < 3 → (1 ≤ slice_index sizes axis) × (slice_index sizes axis ≤ 2 ^ 40)

-- bit i of the coordinate on an axis counts where 2^i is less than the grid's size there
abbrev pub is_pair : List ℕ → ℕ × ℕ → Bool
is_pair size p = nat_lt (2 ^ p.0) (slice_index size p.1)

-- bit i of each of the three axes
abbrev pub axes_of : ℕ → List (ℕ × ℕ)
axes_of i = (i, 0) ∷ (i, 1) ∷ (i, 2) ∷ []

-- the pairs (bit, axis) that count, by the bit and then x, y, z; no size passes 2^40
-- (precomputed volume format, compressed Morton code)
unfoldable pub pairs : List ℕ → List (ℕ × ℕ)
pairs size = filter (is_pair size) (flat_map axes_of (range_with_len 0 40))
