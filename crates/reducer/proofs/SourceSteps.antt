-- The source box of a cell, and the target box of a source's cell.
use Rattle.std.proofs.Common.{◌≡◌, ap, Result, Ok, Err, IfOk, Vec, Global, ℕ, ◌+◌, ◌-◌, ◌*◌, ◌/◌, ◌^◌, ◌<◌, ◌≤◌, List, [], ◌∷◌, min, ℤ, pos, ◌+ℤ◌, ◌≤ℤ◌, ◌<ℤ◌, refl, subst, sym, arith, lit<}
use Rattle.std.specs.Prelude.{slice_index, vec_capacity}
use Rattle.std.proofs.lemmas.Int.{ints}
use Rattle.std.proofs.lemmas.Nat.{mul-le}
use Rattle.std.proofs.Math.Nat.{mul-le-mul_right}
use Rattle.vol_base.proofs.Axes.{by_axis}
use Rattle.vol_base.specs.Boxes.{at, end, size, Within}
use Rattle.vol_base.specs.declared.boxes.Box3.{Box3}
use Rattle.vol_spec.specs.Grid.{Inside, IsCell, cell_begin, cell_box, cell_size, cells_on, whole}
use Rattle.vol_spec.specs.Raw.{raw_len}
use Rattle.vol_spec.specs.declared.scale.Scale.{Scale}
use Rattle.chunk_grid.proofs.GridSteps.{AreSizes-counts, cell_begins, cell_box-short}
use Rattle.reduce_laws.specs.Halves.{IsHalf}
use Rattle.reduce_laws.specs.Reduced.{IsNext, source_box, target_box}
use Rattle.reducer.specs.Reading.{HasRoom}
use Rattle.coarse_laws.proofs.HalfSteps.{source_half, source_inside}

twice_short : (n k : ℕ) → min (2 * n) k ≤ 2 * n
twice_short n k = omega arith

module _ (from to : Scale) (next : IsNext from to) (cell : List ℕ) (is : IsCell to cell) where
  -- no source box has more than 2^30 bytes of values
  pub source_short : raw_len (source_box from to cell) from.channels from.width ≤ 2 ^ 30
  source_short =
      let x : size (source_box from to cell) 0 ≤ 2 * size (cell_box to cell) 0 = twice_short (cell_size to cell 0) (slice_index from.size 0 - 2 * cell_begin to cell 0) in
      let y : size (source_box from to cell) 1 ≤ 2 * size (cell_box to cell) 1 = twice_short (cell_size to cell 1) (slice_index from.size 1 - 2 * cell_begin to cell 1) in
      let z : size (source_box from to cell) 2 ≤ 2 * size (cell_box to cell) 2 = twice_short (cell_size to cell 2) (slice_index from.size 2 - 2 * cell_begin to cell 2) in
      let more : raw_len (source_box from to cell) from.channels from.width ≤ 2 * size (cell_box to cell) 0 * (2 * size (cell_box to cell) 1) * (2 * size (cell_box to cell) 2) * from.channels * from.width =
      mul-le-mul_right from.width (mul-le-mul_right from.channels (mul-le _ _ _ _ (mul-le _ _ _ _ x y) z)) in
      let eight : 2 * size (cell_box to cell) 0 * (2 * size (cell_box to cell) 1) * (2 * size (cell_box to cell) 2) * from.channels * from.width ≡ 8 * raw_len (cell_box to cell) from.channels from.width = omega arith in
      let same : raw_len (cell_box to cell) from.channels from.width ≡ raw_len (cell_box to cell) to.channels to.width = λ i. raw_len (cell_box to cell) (next.channel_counts i) (next.widths i) in
      omega (arith, more, eight, same, cell_box-short to cell, to.first_ok)

  pub found_inside : (b : Box3) → b ≡ source_box from to cell → Inside from b
  found_inside b e = subst (Inside from) (sym e) (source_inside from to next cell is)

  pub found_half : (b : Box3) → b ≡ source_box from to cell → IsHalf (cell_box to cell) b
  found_half b e = subst (IsHalf (cell_box to cell)) (sym e) (source_half from to next cell is)

  pub found_short : (b : Box3) → b ≡ source_box from to cell → raw_len b from.channels from.width ≤ 2 ^ 30
  found_short b e = subst (λ b. raw_len b from.channels from.width ≤ 2 ^ 30) (sym e) source_short

-- the first cell of a grid
abbrev pub first_cell : List ℕ
first_cell = 0 ∷ 0 ∷ 0 ∷ []

pub IsCell-first : (s : Scale) → IsCell s first_cell
IsCell-first s =
    let some = AreSizes-counts s.size s.chunk s.size_ok s.chunk_ok in
    let on : (axis : ℕ) → axis < 3 → 0 < cells_on s axis = λ axis l. let one = (some axis l).0 in omega (arith, one) in
    record { axes = refl; below = by_axis (λ axis. slice_index first_cell axis < cells_on s axis) (on 0 (lit< tt)) (on 1 (lit< tt)) (on 2 (lit< tt)) }

-- it has the largest source box
axis_most : (chunk t s g z : ℕ) → z ≡ 0 → min (2 * min chunk (t - g)) (s - 2 * g) ≤ min (2 * min chunk (t - z)) (s - 2 * z)
axis_most chunk t s g z e = omega (arith, e)

module _ (from to : Scale) (cell : List ℕ) where
  most_on : (axis n : ℕ) → n ≡ 0 → min (2 * cell_size to cell axis) (slice_index from.size axis - 2 * cell_begin to cell axis)
      ≤ min (2 * min (slice_index to.chunk axis) (slice_index to.size axis - n * slice_index to.chunk axis)) (slice_index from.size axis - 2 * (n * slice_index to.chunk axis))
  most_on axis n e =
      let z : n * slice_index to.chunk axis ≡ 0 = subst (λ k. k * slice_index to.chunk axis ≡ 0) (sym e) (omega arith) in
      axis_most (slice_index to.chunk axis) (slice_index to.size axis) (slice_index from.size axis) (cell_begin to cell axis) (n * slice_index to.chunk axis) z

  pub source_most : raw_len (source_box from to cell) from.channels from.width ≤ raw_len (source_box from to first_cell) from.channels from.width
  source_most =
      let x : size (source_box from to cell) 0 ≤ size (source_box from to first_cell) 0 = most_on 0 0 refl in
      let y : size (source_box from to cell) 1 ≤ size (source_box from to first_cell) 1 = most_on 1 0 refl in
      let z : size (source_box from to cell) 2 ≤ size (source_box from to first_cell) 2 = most_on 2 0 refl in
      mul-le-mul_right from.width (mul-le-mul_right from.channels (mul-le _ _ _ _ (mul-le _ _ _ _ x y) z))

-- so what has room for it has room for each
pub room_of : {E : Type 0} (from to : Scale) (part : Box3) (len : ℕ) (made : Result (Vec ℕ Global) E) → part ≡ source_box from to first_cell → raw_len part from.channels from.width ≤ 2 ^ 30
    → len ≡ min (raw_len part from.channels from.width) (2 ^ 128 - 1) → IfOk made (λ buffer. vec_capacity buffer ≡ len) → IfOk made (HasRoom from to)
room_of from to part len (Err fault) here short is h = tt
room_of from to part len (Ok buffer) here short is h =
    let same : raw_len part from.channels from.width ≡ raw_len (source_box from to first_cell) from.channels from.width = ap (λ b. raw_len b from.channels from.width) here in
    record { fits = λ cell own. let most = source_most from to cell in omega (arith, most, same, short, is, h) }

-- the target's positions over a cell of the source are in the target
some_over : (g c : ℕ) → 0 < c → 0 < (g + c + 1) / 2 - g / 2
some_over g c h = omega arith

from_over : (o p : ℤ) (s t g c : ℕ) → t ≡ (s + 1) / 2 → g + c ≤ s → (o +ℤ pos (g / 2)) ≤ℤ p → p <ℤ ((o +ℤ pos (g / 2)) +ℤ pos ((g + c + 1) / 2 - g / 2)) → (o ≤ℤ p) × (p <ℤ (o +ℤ pos t))
from_over o p s t g c e within low high = (omega (arith, ints), omega (arith, ints))

module _ (from to : Scale) (next : IsNext from to) (source : List ℕ) (is : IsCell from source) where
  own_on : (axis : ℕ) → axis < 3 → (0 < cell_size from source axis) × (cell_begin from source axis + cell_size from source axis ≤ slice_index from.size axis)
  own_on axis l =
      let begins = cell_begins from source is axis l in
      let chunk = (from.chunk_ok axis l).0 in
      (omega (arith, begins, chunk), omega (arith, begins))

  over_within : Within (target_box from to source) (whole to)
  over_within p h =
      by_axis (λ axis. (at to.offset axis ≤ℤ at p axis) × (at p axis <ℤ end (whole to) axis))
      (from_over (at to.offset 0) (at p 0) (slice_index from.size 0) (slice_index to.size 0) (cell_begin from source 0) (cell_size from source 0) (next.half.sizes 0 (lit< tt)) (own_on 0 (lit< tt)).1 (h 0 (lit< tt)).0 (h 0 (lit< tt)).1)
      (from_over (at to.offset 1) (at p 1) (slice_index from.size 1) (slice_index to.size 1) (cell_begin from source 1) (cell_size from source 1) (next.half.sizes 1 (lit< tt)) (own_on 1 (lit< tt)).1 (h 1 (lit< tt)).0 (h 1 (lit< tt)).1)
      (from_over (at to.offset 2) (at p 2) (slice_index from.size 2) (slice_index to.size 2) (cell_begin from source 2) (cell_size from source 2) (next.half.sizes 2 (lit< tt)) (own_on 2 (lit< tt)).1 (h 2 (lit< tt)).0 (h 2 (lit< tt)).1)

  over_inside : Inside to (target_box from to source)
  over_inside =
      let on : (axis : ℕ) → axis < 3 → 0 < (cell_begin from source axis + cell_size from source axis + 1) / 2 - cell_begin from source axis / 2 =
      λ axis l. some_over (cell_begin from source axis) (cell_size from source axis) (own_on axis l).0 in
      record { some = by_axis (λ axis. 0 < size (target_box from to source) axis) (on 0 (lit< tt)) (on 1 (lit< tt)) (on 2 (lit< tt)); within = over_within }

  pub found_over : (b : Box3) → b ≡ target_box from to source → Inside to b
  found_over b e = subst (Inside to) (sym e) over_inside
