-- Parts of a box, by their positions and by their axes.
use Rattle.std.proofs.Common.{ℕ, List, ◌-◌, ◌<◌, ℤ, pos, ◌+ℤ◌, ◌≤ℤ◌, ◌<ℤ◌, arith, lit<}
use Rattle.std.proofs.lemmas.Int.{ints}
use Rattle.vol_base.proofs.Axes.{by_axis}
use Rattle.vol_base.specs.Boxes.{at, end, on_axes, size, Covers, IsSome, Within}
use Rattle.vol_base.specs.declared.boxes.Box3.{Box3}

-- on an axis, a part lies in a box
abbrev pub OnAxis : Box3 → Box3 → ℕ → Type 0
OnAxis part b axis = (at b.begin axis ≤ℤ at part.begin axis) × (end part axis ≤ℤ end b axis)

-- on each axis
abbrev pub LiesIn : Box3 → Box3 → Type 0
LiesIn part b = (axis : ℕ) → axis < 3 → OnAxis part b axis

-- a box with a position has no empty axis
pub covers_some : (b : Box3) (p : List ℤ) → Covers b p → IsSome b
covers_some b p cov axis h = some_size (at b.begin axis) (at p axis) (size b axis) (cov axis h).0 (cov axis h).1
  where
    some_size : (a x : ℤ) (n : ℕ) → a ≤ℤ x → x <ℤ (a +ℤ pos n) → 0 < n
    some_size a x n low high = omega (arith, ints)

-- the last position of a box
last : Box3 → List ℤ
last part = on_axes (λ axis. at part.begin axis +ℤ pos (size part axis - 1))

pub covers_begin : (part : Box3) → IsSome part → Covers part part.begin
covers_begin part some axis h = first_in (at part.begin axis) (size part axis) (some axis h)
  where
    first_in : (a : ℤ) (n : ℕ) → 0 < n → (a ≤ℤ a) × (a <ℤ (a +ℤ pos n))
    first_in a n h = (omega (arith, ints), omega (arith, ints))

last_in : (a : ℤ) (n : ℕ) → 0 < n → (a ≤ℤ (a +ℤ pos (n - 1))) × ((a +ℤ pos (n - 1)) <ℤ (a +ℤ pos n))
last_in a n h = (omega (arith, ints), omega (arith, ints))

covers_last : (part : Box3) → IsSome part → Covers part (last part)
unfolding last
covers_last part some =
    by_axis (λ axis. (at part.begin axis ≤ℤ at (last part) axis) × (at (last part) axis <ℤ end part axis))
    (last_in _ _ (some 0 (lit< tt))) (last_in _ _ (some 1 (lit< tt))) (last_in _ _ (some 2 (lit< tt)))

high_end : (a b : ℤ) (n m : ℕ) → 0 < n → (a +ℤ pos (n - 1)) <ℤ (b +ℤ pos m) → (a +ℤ pos n) ≤ℤ (b +ℤ pos m)
high_end a b n m some high = omega (arith, ints)

-- a part with positions that are all of the box lies in it on each axis
pub lies_in : (part b : Box3) → IsSome part → Within part b → LiesIn part b
unfolding last
lies_in part b some inside =
    let low = inside part.begin (covers_begin part some) in
    let high = inside (last part) (covers_last part some) in
    by_axis (OnAxis part b)
    ((low 0 (lit< tt)).0, high_end (at part.begin 0) (at b.begin 0) (size part 0) (size b 0) (some 0 (lit< tt)) (high 0 (lit< tt)).1)
    ((low 1 (lit< tt)).0, high_end (at part.begin 1) (at b.begin 1) (size part 1) (size b 1) (some 1 (lit< tt)) (high 1 (lit< tt)).1)
    ((low 2 (lit< tt)).0, high_end (at part.begin 2) (at b.begin 2) (size part 2) (size b 2) (some 2 (lit< tt)) (high 2 (lit< tt)).1)

-- and a part that does has no other positions
pub within : (part b : Box3) → LiesIn part b → Within part b
within part b lies p cov axis h = between _ _ _ _ _ (lies axis h) (cov axis h)
  where
    between : (a b x : ℤ) (e f : ℤ) → (b ≤ℤ a) × (e ≤ℤ f) → (a ≤ℤ x) × (x <ℤ e) → (b ≤ℤ x) × (x <ℤ f)
    between a b x e f outer inner = (omega (arith, ints, outer.0, inner.0), omega (arith, ints, outer.1, inner.1))
