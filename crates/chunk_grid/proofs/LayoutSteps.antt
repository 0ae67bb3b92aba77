-- Products of sizes.
use Rattle.std.proofs.Common.{◌≡◌, ℕ, zero, suc, ◌+◌, ◌*◌, ◌^◌, ◌<◌, ◌≤◌, min, ap, ◌∙◌, arith}
use Rattle.std.proofs.lemmas.Bool.{cases_lt}
use Rattle.std.proofs.lemmas.Nat.{mul-add-lt}
use Rattle.std.proofs.Common.{inl, inr}
use Rattle.std.proofs.Math.Nat.{mul-le-mul_right, le-mul_of_pos_right}

-- a product that stops at a limit, of one that stopped at it
pub clamped_product : (x r k s l : ℕ) → r ≡ min x l → s ≡ min (r * k) l → s ≡ min (x * k) l
clamped_product x r zero s l e f =
    let a : r * 0 ≡ 0 = omega arith in
    let b : x * 0 ≡ 0 = omega arith in
    omega arith
clamped_product x r (suc k) s l e f =
    elim (cases_lt x l) [
      | inl below ↦
          let same : r ≡ x = omega arith in
          f ∙ ap (λ q. min (q * suc k) l) same
      | inr past ↦
          let same : r ≡ l = omega arith in
          let high : l ≤ l * suc k = le-mul_of_pos_right l (omega arith) in
          let higher : l * suc k ≤ x * suc k = mul-le-mul_right (suc k) past in
          let g : s ≡ min (l * suc k) l = f ∙ ap (λ q. min (q * suc k) l) same in
          omega arith
    ]

-- the steps to a voxel's number, all of which fit
pub record NumFits (x y z s0 s1 s2 c : ℕ) : Type 0 where
  pub channel : s2 * c < 2 ^ 64
  pub plane : z + s2 * c < 2 ^ 64
  pub rows : s1 * (z + s2 * c) < 2 ^ 64
  pub row : y + s1 * (z + s2 * c) < 2 ^ 64
  pub voxels : s0 * (y + s1 * (z + s2 * c)) < 2 ^ 64
  pub voxel : x + s0 * (y + s1 * (z + s2 * c)) < 2 ^ 64

pub num_fits : (x y z s0 s1 s2 c : ℕ) → x < s0 → y < s1 → z < s2 → c < 1024 → s0 * s1 * s2 < 2 ^ 40 → NumFits x y z s0 s1 s2 c
num_fits x y z s0 s1 s2 c hx hy hz hc small =
    let a : c * s2 + z < s2 * 1024 = mul-add-lt c s2 z 1024 hc hz in
    let b : (z + s2 * c) * s1 + y < s1 * (s2 * 1024) = mul-add-lt (z + s2 * c) s1 y (s2 * 1024) (omega arith) hy in
    let d : (y + s1 * (z + s2 * c)) * s0 + x < s0 * (s1 * (s2 * 1024)) = mul-add-lt (y + s1 * (z + s2 * c)) s0 x (s1 * (s2 * 1024)) (omega arith) hx in
    let e : s1 * (s2 * 1024) ≤ s1 * (s2 * 1024) * s0 = le-mul_of_pos_right (s1 * (s2 * 1024)) (omega arith) in
    let f : s2 * 1024 ≤ s2 * 1024 * s1 = le-mul_of_pos_right (s2 * 1024) (omega arith) in
    let all : s0 * (s1 * (s2 * 1024)) ≡ s0 * s1 * s2 * 1024 = omega arith in
    record { channel = omega arith; plane = omega arith; rows = omega arith; row = omega arith; voxels = omega arith; voxel = omega arith }
