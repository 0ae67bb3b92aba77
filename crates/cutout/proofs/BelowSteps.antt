-- Which positions the part of a box below the cells of a number along z has.
use Rattle.std.proofs.Common.{◌≡◌, ◌≤◌, ◌<◌, ◌+◌, ◌-◌, ◌*◌, ◌/◌, min, ℕ, ℤ, pos, ◌+ℤ◌, ◌-ℤ◌, ◌≤ℤ◌, nat_abs, slice_index, arith, lit<}
use Rattle.std.specs.Prelude.{◌<ℤ◌}
use Rattle.std.proofs.lemmas.Int.{ints}
use Rattle.std.proofs.lemmas.Nat.{div_below}
use Rattle.std.proofs.Math.Nat.{mul-le-mul_right, lt-div-mul-add}
use Rattle.vol_base.proofs.Axes.{by_axis}
use Rattle.vol_base.specs.declared.boxes.Box3.{Box3}
use Rattle.vol_base.specs.Boxes.{at, Covers, end, from_begin, size}
use Rattle.vol_spec.specs.Grid.{cell_at, Inside, whole}
use Rattle.vol_spec.specs.declared.scale.Scale.{Scale}
use Rattle.cutout.specs.Layers.{below, SplitsBelow}
use Rattle.cutout.proofs.LayerSteps.{depth}

-- on the axis z, over plain numbers: the scale begins at o, the box f places on at b, with d of them; k is the chunk's size
module _ (o b p : ℤ) (f d k n : ℕ) (some : 0 < k) (begins : b ≡ o +ℤ pos f) where
  there : (b +ℤ pos 0) ≤ℤ p → p <ℤ ((b +ℤ pos 0) +ℤ pos (min (n * k - f) d)) → (b ≤ℤ p) × (p <ℤ (b +ℤ pos d)) × (nat_abs (p -ℤ o) / k < n)
  there low high =
      let few : nat_abs (p -ℤ o) < n * k = omega (arith, ints) in
      (omega (arith, ints), omega (arith, ints), div_below (nat_abs (p -ℤ o)) k n some few)

  back : b ≤ℤ p → p <ℤ (b +ℤ pos d) → nat_abs (p -ℤ o) / k < n → ((b +ℤ pos 0) ≤ℤ p) × (p <ℤ ((b +ℤ pos 0) +ℤ pos (min (n * k - f) d)))
  back low high lower =
      let q : ℕ = nat_abs (p -ℤ o) / k in
      let up : nat_abs (p -ℤ o) < q * k + k = lt-div-mul-add some in
      let next : (q + 1) * k ≡ q * k + k = omega arith in
      let most : (q + 1) * k ≤ n * k = mul-le-mul_right k (omega (arith, lower)) in
      let few : nat_abs (p -ℤ o) < n * k = omega (arith, up, next, most) in
      (omega (arith, ints), omega (arith, ints))

pub splits_below : (s : Scale) (b : Box3) → Inside s b → SplitsBelow s b
splits_below s b inside number p =
    let d = depth s b inside in
    let f : ℕ = from_begin (whole s) b.begin 2 in
    let k : ℕ = slice_index s.chunk 2 in (
      λ (h : Covers (below s b number) p).
          let z = there (at s.offset 2) (at b.begin 2) (at p 2) f (size b 2) k number d.chunk d.begin (h 2 (lit< tt)).0 (h 2 (lit< tt)).1 in
          (by_axis (λ axis. (at b.begin axis ≤ℤ at p axis) × (at p axis <ℤ end b axis)) (h 0 (lit< tt)) (h 1 (lit< tt)) (z.0, z.1), z.2),
      λ (h : Covers b p × (slice_index (cell_at s p) 2 < number)).
          by_axis (λ axis. (at (below s b number).begin axis ≤ℤ at p axis) × (at p axis <ℤ end (below s b number) axis)) (h.0 0 (lit< tt)) (h.0 1 (lit< tt))
          (back (at s.offset 2) (at b.begin 2) (at p 2) f (size b 2) k number d.chunk d.begin (h.0 2 (lit< tt)).0 (h.0 2 (lit< tt)).1 h.1),
    )
