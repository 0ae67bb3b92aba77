-- Where the rows of a block lie.
use Rattle.std.proofs.Common.{◌≡◌, ℕ, ◌+◌, ◌-◌, ◌*◌, ◌/◌, ◌<◌, ◌≤◌, ◌^◌, arith, Bool, true, false}
use Rattle.vol_spec.specs.SegSizes.{width_of}
use Rattle.std.proofs.lemmas.Nat.{div-add-mod', row_fits}
use Rattle.std.proofs.Math.Nat.{le-mul_of_pos_right, mul-le-mul_left, mul-le-mul_right}
use Rattle.segment_blocks.specs.declared.block.Block.{Block}
use Rattle.segment_blocks.specs.Filled.{Lies}

-- the products and sums that lead to a row
pub record Line (b : Block) (values y z : ℕ) : Type 0 where
  pub deep : b.z + z ≤ values
  pub plane : (b.z + z) * b.size_y + b.size_y ≤ values
  pub line : ((b.z + z) * b.size_y + (b.y + y)) * b.size_x + b.size_x ≤ values
  pub first_plane : z * b.block_y + b.block_y ≤ b.indices
  pub first : (z * b.block_y + y) * b.block_x + b.block_x ≤ b.indices

pub line_of : (b : Block) (values y z : ℕ) → Lies b values → y < b.count_y → z < b.count_z → Line b values y z
line_of b values y z l ly lz =
    let planes : (b.z + z) * b.size_y + b.size_y ≤ (b.z + b.count_z) * b.size_y = row_fits (b.z + z) b.size_y (b.z + b.count_z) b.size_y (omega arith) (omega arith) in
    let lines : ((b.z + z) * b.size_y + (b.y + y)) * b.size_x + b.size_x ≤ ((b.z + b.count_z) * b.size_y) * b.size_x = row_fits ((b.z + z) * b.size_y + (b.y + y)) b.size_x ((b.z + b.count_z) * b.size_y) b.size_x (omega (arith, l.y)) (omega arith) in
    let less : (b.z + b.count_z) * b.size_y ≤ (b.z + b.count_z) * b.size_y * b.size_x = le-mul_of_pos_right ((b.z + b.count_z) * b.size_y) l.some_x in
    let whole : (b.z + b.count_z) * b.size_y * b.size_x ≤ values = omega (arith, l.z) in
    let firsts : z * b.block_y + b.block_y ≤ b.count_z * b.block_y = row_fits z b.block_y b.count_z b.block_y lz (omega arith) in
    let in_first : (z * b.block_y + y) * b.block_x + b.block_x ≤ (b.count_z * b.block_y) * b.block_x = row_fits (z * b.block_y + y) b.block_x (b.count_z * b.block_y) b.block_x (omega (arith, l.plane)) (omega arith) in
    let less_first : b.count_z * b.block_y ≤ b.count_z * b.block_y * b.block_x = le-mul_of_pos_right (b.count_z * b.block_y) l.some_block in
    let whole_first : b.count_z * b.block_y * b.block_x ≤ b.indices = omega (arith, l.all) in
    let deep : b.z + z ≤ (b.z + z) * b.size_y = le-mul_of_pos_right (b.z + z) l.some_y in
    record { deep = omega arith; plane = omega arith; line = omega arith; first_plane = omega arith; first = omega arith }

-- more indices take more words
pub words_more : (bits n m : ℕ) → n ≤ m → (bits * n + 31) / 32 ≤ (bits * m + 31) / 32
words_more bits n m h =
    let e : bits * n ≤ bits * m = mul-le-mul_left bits h in
    omega arith

-- so many values of w bytes are in the bytes
pub whole_values : (n w len : ℕ) → 0 < w → n ≤ len / w → w * n ≤ len
whole_values n w len pw h =
    let e : w * n ≤ w * (len / w) = mul-le-mul_left w h in
    omega (arith, div-add-mod' len w)

pub width_some : (wide : Bool) → 0 < width_of wide
width_some true = omega arith
width_some false = omega arith

pub width_le : (wide : Bool) → width_of wide ≤ 8
width_le true = omega arith
width_le false = omega arith

-- a row's bytes lie in the raw bytes
pub record Room (w at count len : ℕ) : Type 0 where
  pub end : w * (at + count) ≤ len
  pub begin : w * at ≤ w * (at + count)
  pub length : w * (at + count) - w * at ≡ w * count
  pub small : w * (at + count) < 2 ^ 63
  pub few : at + count < 2 ^ 60

pub room_of : (b : Block) (w at len y z : ℕ) → 0 < w → w ≤ 8 → Lies b (len / w) → y < b.count_y → z < b.count_z → at ≡ ((b.z + z) * b.size_y + (b.y + y)) * b.size_x + b.x → Room w at b.count_x len
room_of b w at len y z pw lw l ly lz ea =
    let line = line_of b (len / w) y z l ly lz in
    let few : at + b.count_x ≤ len / w = omega (arith, line.line, l.x) in
    let s : w * (at + b.count_x) ≡ w * at + w * b.count_x = omega arith in
    let e : w * (at + b.count_x) ≤ 8 * (at + b.count_x) = mul-le-mul_right (at + b.count_x) lw in
    record { end = whole_values (at + b.count_x) w len pw few; begin = omega arith; length = omega arith; small = omega (arith, l.limit_values); few = omega (arith, l.limit_values) }
