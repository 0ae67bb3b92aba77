-- Judging whether a scale is the next one.
use mir.Syntax.{w64}
use mir.Val.{SFits, of_z, to_z}
use Rattle.std.proofs.Common.{arith, ◌≡◌, ◌&&◌, ◌<◌, ℕ, Bool, true, false, refl, subst, sym, lit<}
use Rattle.std.specs.Prelude.{◌↔◌, IsTrue}
use Rattle.std.proofs.lemmas.Int.{ints, to_z-of_z}
use Rattle.vol_base.proofs.Axes.{by_axis}
use Rattle.vol_base.specs.Boxes.{at}
use Rattle.vol_spec.specs.declared.scale.Scale.{Scale}
use Rattle.reduce_laws.specs.Halves.{twice}
use Rattle.reduce_laws.specs.Reduced.{IsNext}
use Rattle.downsample_cmd.specs.Judging.{HasHalfSize, HasTwiceOffset}

all_of : (a b c : Bool) → IsTrue (a && b && c) → IsTrue a × IsTrue b × IsTrue c
all_of true true true h = (refl, refl, refl)
all_of true true false h = absurd (cc h)
all_of true false c h = absurd (cc h)
all_of false b c h = absurd (cc h)

of_all : (a b c : Bool) → IsTrue a → IsTrue b → IsTrue c → IsTrue (a && b && c)
of_all true true true x y z = refl
of_all true true false x y z = absurd (cc z)
of_all true false c x y z = absurd (cc y)
of_all false b c x y z = absurd (cc x)

-- what holds on each of three axes
three_axes : (P : ℕ → Type 0) (a b c : Bool) → (IsTrue a ↔ P 0) → (IsTrue b ↔ P 1) → (IsTrue c ↔ P 2) → IsTrue (a && b && c) ↔ ((axis : ℕ) → axis < 3 → P axis)
three_axes P a b c x y z = (
  (λ h. let each = all_of a b c h in by_axis P (x.0 each.0) (y.0 each.1) (z.0 each.2)),
  (λ h. of_all a b c (x.1 (h 0 (lit< tt))) (y.1 (h 1 (lit< tt))) (z.1 (h 2 (lit< tt)))),
)

pub all_axes : (P : ℕ → Type 0) (a b c : Bool) → (IsTrue a ↔ P 0) → (IsTrue b ↔ P 1) → (IsTrue c ↔ P 2) → (all : Bool) → all ≡ (a && b && c) → IsTrue all ↔ ((axis : ℕ) → axis < 3 → P axis)
all_axes P a b c x y z all is = subst (λ d. IsTrue d ↔ ((axis : ℕ) → axis < 3 → P axis)) (sym is) (three_axes P a b c x y z)

pub is_next : (from to : Scale) → HasHalfSize from to → HasTwiceOffset from to → from.width ≡ to.width → from.channels ≡ to.channels → IsNext from to
is_next from to sizes begins widths channels = record { half = record { begins = begins; sizes = sizes }; widths = widths; channel_counts = channels }

-- an offset that is handed on is the one that was read
offset_fits : (s : Scale) (axis : ℕ) → axis < 3 → SFits w64 (at s.offset axis)
offset_fits s axis l = let o = s.offset_ok axis l in omega (arith, ints, o.0, o.1)

pub twice_on : (from to : Scale) (axis : ℕ) → axis < 3 → (r : Bool) → (IsTrue r ↔ (to_z w64 (of_z w64 (at from.offset axis)) ≡ twice (to_z w64 (of_z w64 (at to.offset axis))))) → IsTrue r ↔ (at from.offset axis ≡ twice (at to.offset axis))
twice_on from to axis l r h =
    subst (λ x. IsTrue r ↔ (x ≡ twice (at to.offset axis))) (to_z-of_z w64 (at from.offset axis) (offset_fits from axis l))
    (subst (λ y. IsTrue r ↔ (to_z w64 (of_z w64 (at from.offset axis)) ≡ twice y)) (to_z-of_z w64 (at to.offset axis) (offset_fits to axis l)) h)
