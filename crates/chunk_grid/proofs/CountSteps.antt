-- A part meets at most as many cells as it has voxels.
use Rattle.std.proofs.Common.{◌≡◌, ℕ, ◌+◌, ◌-◌, ◌*◌, ◌/◌, ◌<◌, ◌≤◌, length, ap, ◌∙◌, arith, lit<}
use Rattle.std.specs.Prelude.{ℤ, pos, ◌+ℤ◌, ◌-ℤ◌, ◌≤ℤ◌, nat_abs, slice_index}
use Rattle.std.proofs.lemmas.Int.{ints}
use Rattle.std.proofs.lemmas.Nat.{div_below, mul-le}
use Rattle.std.proofs.Math.Nat.{mod-add-div, le-mul_of_pos_right}
use Rattle.vol_base.specs.declared.boxes.Box3.{Box3}
use Rattle.vol_base.specs.Boxes.{at, size, voxels}
use Rattle.vol_spec.specs.Grid.{Inside, cells_in, cell_at}
use Rattle.vol_spec.specs.declared.scale.Scale.{Scale}
use Rattle.chunk_grid.specs.Walks.{total, last_position, counts_between}
use Rattle.chunk_grid.proofs.GridSteps.{cells_in-block, Inside-on}
use Rattle.chunk_grid.proofs.WalkSteps.{length-cells_from}

-- m places more in a row lie in at most m blocks more
blocks_of : (f m chunk : ℕ) → 1 ≤ chunk → (f + m) / chunk ≤ f / chunk + m
blocks_of f m chunk c =
    let grown : m ≤ m * chunk = le-mul_of_pos_right m c in
    let e : (f / chunk + m + 1) * chunk ≡ f / chunk * chunk + m * chunk + chunk = omega arith in
    let less : f < f / chunk * chunk + chunk = below_next f chunk c in
    let past : (f + m) / chunk < f / chunk + m + 1 = div_below (f + m) chunk (f / chunk + m + 1) c (omega arith) in
    omega arith
  where
    below_next : (f chunk : ℕ) → 1 ≤ chunk → f < f / chunk * chunk + chunk
    below_next f chunk c = let parts = mod-add-div f chunk in omega arith

blocks_on : (o b : ℤ) (chunk n : ℕ) → 1 ≤ chunk → 0 < n → o ≤ℤ b → nat_abs (((b +ℤ pos n) -ℤ pos 1) -ℤ o) / chunk - nat_abs (b -ℤ o) / chunk + 1 ≤ n
blocks_on o b chunk n c some begins =
    let last : nat_abs (((b +ℤ pos n) -ℤ pos 1) -ℤ o) ≡ nat_abs (b -ℤ o) + (n - 1) = omega (arith, ints) in
    let same : nat_abs (((b +ℤ pos n) -ℤ pos 1) -ℤ o) / chunk ≡ (nat_abs (b -ℤ o) + (n - 1)) / chunk = ap (λ q. q / chunk) last in
    let few = blocks_of (nat_abs (b -ℤ o)) (n - 1) chunk c in
    omega arith

pub cells_in-voxels : (s : Scale) (b : Box3) → Inside s b → length (cells_in s b) ≤ voxels b
cells_in-voxels s b h =
    let count = counts_between (cell_at s b.begin) (cell_at s (last_position b)) in
    let on : (axis : ℕ) → axis < 3 → nat_abs (((at b.begin axis +ℤ pos (size b axis)) -ℤ pos 1) -ℤ at s.offset axis) / slice_index s.chunk axis - nat_abs (at b.begin axis -ℤ at s.offset axis) / slice_index s.chunk axis + 1 ≤ size b axis =
    λ axis l. let lies = Inside-on s b h axis l in blocks_on (at s.offset axis) (at b.begin axis) (slice_index s.chunk axis) (size b axis) (s.chunk_ok axis l).0 lies.some lies.begins in
    let few : total count ≤ voxels b = mul-le _ _ _ _ (mul-le _ _ _ _ (on 0 (lit< tt)) (on 1 (lit< tt))) (on 2 (lit< tt)) in
    let len : length (cells_in s b) ≡ total count - 0 = ap length (cells_in-block s b h) ∙ length-cells_from (cell_at s b.begin) count 0 in
    omega arith
