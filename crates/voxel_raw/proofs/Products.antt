-- Bounds on the sizes of a box and on a part's place in it.
use Rattle.std.proofs.Common.{◌≡◌, ℕ, ◌+◌, ◌*◌, ◌<◌, ◌≤◌, ℤ, pos, ◌+ℤ◌, ◌-ℤ◌, ◌≤ℤ◌, nat_abs, arith, lit<}
use Rattle.std.proofs.lemmas.Int.{ints}
use Rattle.std.proofs.Math.Nat.{le-mul_of_pos_right, mul-le-mul_left}
use Rattle.vol_base.specs.Boxes.{from_begin, size, IsSome}
use Rattle.vol_base.specs.declared.boxes.Box3.{Box3}
use Rattle.voxel_raw.specs.Copies.{Holds}
use Rattle.voxel_raw.proofs.Parts.{lies_in}

pub chain : (w a b c d n : ℕ) → 0 < a → 0 < b → 0 < c → 0 < d → w * a * b * c * d ≤ n → (w ≤ n) × (w * a ≤ n) × (w * a * b ≤ n) × (w * a * b * c ≤ n)
chain w a b c d n pa pb pc pd h =
    let e1 : w ≤ w * a = le-mul_of_pos_right w pa in
    let e2 : w * a ≤ w * a * b = le-mul_of_pos_right (w * a) pb in
    let e3 : w * a * b ≤ w * a * b * c = le-mul_of_pos_right (w * a * b) pc in
    let e4 : w * a * b * c ≤ w * a * b * c * d = le-mul_of_pos_right (w * a * b * c) pd in
    (omega arith, omega arith, omega arith, omega arith)

pub inside_axis : (a b : ℤ) (s t : ℕ) → b ≤ℤ a → (a +ℤ pos s) ≤ℤ (b +ℤ pos t) → nat_abs (a -ℤ b) + s ≤ t
inside_axis a b s t low high = omega (arith, ints)

-- what a box that holds a part has
pub record Facts (b part : Box3) (channels w n : ℕ) : Type 0 where
  pub some_x : 0 < size b 0
  pub some_y : 0 < size b 1
  pub some_z : 0 < size b 2
  pub x : from_begin b part.begin 0 + size part 0 ≤ size b 0
  pub y : from_begin b part.begin 1 + size part 1 ≤ size b 1
  pub z : from_begin b part.begin 2 + size part 2 ≤ size b 2
  pub width : w ≤ n
  pub row : w * size b 0 ≤ n
  pub plane : w * size b 0 * size b 1 ≤ n
  pub volume : w * size b 0 * size b 1 * size b 2 ≤ n
  pub whole : w * size b 0 * size b 1 * size b 2 * channels ≡ n
  pub row_more : w ≤ w * size b 0
  pub plane_more : w ≤ w * size b 0 * size b 1
  pub volume_more : w ≤ w * size b 0 * size b 1 * size b 2
  pub run : w * from_begin b part.begin 0 + w * size part 0 ≤ w * size b 0

pub facts : (b part : Box3) (channels w n : ℕ) → Holds b part channels w n → IsSome part → 0 < channels → Facts b part channels w n
facts b part channels w n h some c =
    let lies = lies_in part b some h.within in
    let x = inside_axis _ _ _ _ (lies 0 (lit< tt)).0 (lies 0 (lit< tt)).1 in
    let y = inside_axis _ _ _ _ (lies 1 (lit< tt)).0 (lies 1 (lit< tt)).1 in
    let z = inside_axis _ _ _ _ (lies 2 (lit< tt)).0 (lies 2 (lit< tt)).1 in
    let px : 0 < size b 0 = omega (arith, some 0 (lit< tt)) in
    let py : 0 < size b 1 = omega (arith, some 1 (lit< tt)) in
    let pz : 0 < size b 2 = omega (arith, some 2 (lit< tt)) in
    let products = chain w (size b 0) (size b 1) (size b 2) channels n px py pz c (omega (arith, h.len)) in
    let e1 : w ≤ w * size b 0 = le-mul_of_pos_right w px in
    let e2 : w * size b 0 ≤ w * size b 0 * size b 1 = le-mul_of_pos_right (w * size b 0) py in
    let e3 : w * size b 0 * size b 1 ≤ w * size b 0 * size b 1 * size b 2 = le-mul_of_pos_right (w * size b 0 * size b 1) pz in
    let run : w * (from_begin b part.begin 0 + size part 0) ≤ w * size b 0 = mul-le-mul_left w x in
    record { some_x = px; some_y = py; some_z = pz; x = x; y = y; z = z; width = products.0; row = products.1; plane = products.2; volume = products.3; whole = omega (arith, h.len); row_more = e1; plane_more = omega arith; volume_more = omega arith; run = omega arith }
