-- Whether a box lies inside a scale, as a test.
use Rattle.std.proofs.Common.{◌≡◌, true, false, Bool, IsTrue, ℕ, ◌<◌, lit<, refl, arith}
use Rattle.std.specs.Prelude.{◌&&◌, ◌==◌, int_le}
use Rattle.std.proofs.lemmas.Bool.{and_from, and_parts, or_parts}
use Rattle.std.proofs.lemmas.Bool.Decides.{nat_tests}
use Rattle.vol_base.specs.declared.boxes.Box3.{Box3}
use Rattle.vol_base.specs.Boxes.{at, end, size}
use Rattle.vol_spec.specs.Grid.{whole, Inside}
use Rattle.vol_spec.specs.declared.scale.Scale.{Scale}
use Rattle.chunk_grid.specs.Axes.{LiesOn}
use Rattle.vol_base.proofs.Axes.{by_axis}
use Rattle.chunk_grid.proofs.GridSteps.{Inside-on, Inside-from}
use Rattle.chunk_grid.proofs.MeetSteps.{int_le-from, int_le-true, is_true, same_bools, true_from}
use Rattle.write_plan.specs.Stream.{is_empty, is_within}

not_zero : (n : ℕ) → (n == 0) ≡ false → 0 < n
not_zero n h = grind (arith, nat_tests)

on_axis : (s : Scale) (b : Box3) (axis : ℕ) → (size b axis == 0) ≡ false → (int_le (at s.offset axis) (at b.begin axis) && int_le (end b axis) (end (whole s) axis)) ≡ true → LiesOn s b axis
on_axis s b axis some h =
    let k = and_parts (int_le (at s.offset axis) (at b.begin axis)) (int_le (end b axis) (end (whole s) axis)) h in
    record { some = not_zero (size b axis) some; begins = int_le-from _ _ k.0; ends = int_le-from _ _ k.1 }

axis_true : (s : Scale) (b : Box3) (axis : ℕ) → LiesOn s b axis → (int_le (at s.offset axis) (at b.begin axis) && int_le (end b axis) (end (whole s) axis)) ≡ true
axis_true s b axis h = and_from _ _ (int_le-true _ _ h.begins) (int_le-true _ _ h.ends)

pub Inside-within : (s : Scale) (b : Box3) → Inside s b → is_within s b ≡ true
Inside-within s b h =
    and_from _ _ (axis_true s b 0 (Inside-on s b h 0 (lit< tt))) (and_from _ _ (axis_true s b 1 (Inside-on s b h 1 (lit< tt))) (and_from _ _ (axis_true s b 2 (Inside-on s b h 2 (lit< tt))) refl))

pub within-Inside : (s : Scale) (b : Box3) → is_empty b ≡ false → is_within s b ≡ true → Inside s b
within-Inside s b some h =
    let s0 = or_parts _ _ some in
    let s1 = or_parts _ _ s0.1 in
    let s2 = or_parts _ _ s1.1 in
    let h0 = and_parts _ _ h in
    let h1 = and_parts _ _ h0.1 in
    let h2 = and_parts _ _ h1.1 in
    Inside-from s b (by_axis (LiesOn s b) (on_axis s b 0 s0.0 h0.0) (on_axis s b 1 s1.0 h1.0) (on_axis s b 2 s2.0 h2.0))

pub same_test : (r : Bool) (s : Scale) (b : Box3) → is_empty b ≡ false → (IsTrue r → Inside s b) → (Inside s b → IsTrue r) → r ≡ is_within s b
same_test r s b some f g = same_bools r (is_within s b) (λ h. Inside-within s b (f (is_true r h))) (λ h. true_from r (g (within-Inside s b some h)))
