-- The layers of a box along z (this project's): its planes in cells of one number each. Planes are counted
-- from the box's lowest on.
use Rattle.std.specs.Prelude.{ℕ, ◌+◌, ◌-◌, ◌*◌, ◌/◌, ◌<◌, ◌↔◌, min, pos, ◌+ℤ◌, [], ◌∷◌, slice_index}
use Rattle.vol_base.specs.declared.boxes.Box3.{Box3}
use Rattle.vol_base.specs.Boxes.{at, Covers, from_begin, size}
use Rattle.vol_spec.specs.Grid.{cell_at, whole}
use Rattle.vol_spec.specs.Types.{Position}
use Rattle.vol_spec.specs.declared.scale.Scale.{Scale}

-- some planes of a box, from one on
abbrev pub planes : Box3 → ℕ → ℕ → Box3
planes b from count = record {
  begin = at b.begin 0 ∷ at b.begin 1 ∷ (at b.begin 2 +ℤ pos from) ∷ [];
  size = size b 0 ∷ size b 1 ∷ count ∷ [];
}

-- how many planes of a box lie below the cells of a number along z
abbrev pub planes_below : Scale → Box3 → ℕ → ℕ
planes_below s b number = min (number * slice_index s.chunk 2 - from_begin (whole s) b.begin 2) (size b 2)

-- the part of a box below the cells of a number along z
abbrev pub below : Scale → Box3 → ℕ → Box3
below s b number = planes b 0 (planes_below s b number)

-- it has just those positions of the box whose cells have a lower number (the law of `tell_below`)
abbrev pub SplitsBelow : Scale → Box3 → Type 0
SplitsBelow s b = (number : ℕ) (p : Position) →
    Covers (below s b number) p ↔ (Covers b p × (slice_index (cell_at s p) 2 < number))

-- the part of a box in the cells of a number along z
abbrev pub layer : Scale → Box3 → ℕ → Box3
layer s b number = planes b (planes_below s b number)
    (planes_below s b (number + 1) - planes_below s b number)

-- how many bytes one channel of a layer of a box has at most
abbrev pub layer_room : Scale → Box3 → ℕ
layer_room s b = size b 0 * size b 1 * min (size b 2) (slice_index s.chunk 2) * s.width

-- the lowest number along z of the cells that meet a box, and one past the highest
abbrev pub first_layer : Scale → Box3 → ℕ
first_layer s b = from_begin (whole s) b.begin 2 / slice_index s.chunk 2

abbrev pub end_layer : Scale → Box3 → ℕ
end_layer s b = (from_begin (whole s) b.begin 2 + size b 2 - 1) / slice_index s.chunk 2 + 1
