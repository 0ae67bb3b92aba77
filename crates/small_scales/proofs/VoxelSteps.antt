-- Products of sizes.
use Rattle.std.proofs.Common.{ℕ, ◌*◌, ◌^◌, ◌≤◌, arith}
use Rattle.std.proofs.lemmas.Nat.{mul-le}
use Rattle.std.proofs.Math.Nat.{le-mul_of_pos_right}

pub volume_fits : (x y z : ℕ) → x ≤ 2 ^ 40 → y ≤ 2 ^ 40 → z ≤ 2 ^ 40 → x * y * z ≤ 2 ^ 120
volume_fits x y z hx hy hz =
    let row : x * y ≤ 2 ^ 40 * 2 ^ 40 = mul-le x y (2 ^ 40) (2 ^ 40) hx hy in
    let all : x * y * z ≤ 2 ^ 40 * 2 ^ 40 * 2 ^ 40 = mul-le (x * y) z (2 ^ 40 * 2 ^ 40) (2 ^ 40) row hz in
    omega (arith, all)

-- a product is at least its first factor where the others aren't zero
pub first_below : (voxels channels width : ℕ) → 1 ≤ channels → 1 ≤ width → voxels ≤ voxels * channels * width
first_below voxels channels width some_channels some_width =
    let a : voxels ≤ voxels * channels = le-mul_of_pos_right voxels some_channels in
    let b : voxels * channels ≤ voxels * channels * width = le-mul_of_pos_right (voxels * channels) some_width in
    omega (arith, a, b)
