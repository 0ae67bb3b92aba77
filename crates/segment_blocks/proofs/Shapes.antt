-- What the limits of a shape give.
use Rattle.std.proofs.Common.{◌≡◌, ℕ, ◌+◌, ◌-◌, ◌*◌, ◌/◌, ◌%◌, ◌^◌, ◌<◌, ◌≤◌, arith, min, slice_index, ap, ◌∙◌, subst}
use Rattle.std.proofs.lemmas.Nat.{mul-le, le-div, div_below, mod_below, div-add-mod'}
use Rattle.std.proofs.Math.Nat.{min-eq_left, le-mul_of_pos_right, mul-le-mul_right}
use Rattle.vol_spec.specs.Limits.{rounded}
use Rattle.vol_spec.specs.SegShapes.{sizes_of}
use Rattle.vol_spec.specs.SegSizes.{SegSizes, padded_in, width_of}
use Rattle.vol_spec.specs.declared.seg_shape.SegShape.{SegShape}
use Rattle.vol_spec.specs.SegBlocks.{size, block, blocks_on, block_count, block_voxels, width}
use Rattle.segment_blocks.specs.Shape.{padded, IsShape}
use Rattle.segment_blocks.proofs.Lines.{width_some}

min-self : (n : ℕ) → min n n ≡ n
min-self n = min-eq_left (omega arith)

padded_min : (a b c p q r n : ℕ) → rounded (min a a) p * rounded (min b b) q * rounded (min c c) r * n ≤ 2 ^ 24
    → (rounded a p * (rounded b q * rounded c r)) * n ≤ 2 ^ 24
padded_min a b c p q r n h =
    let e : rounded (min a a) p * rounded (min b b) q * rounded (min c c) r * n ≡ rounded a p * rounded b q * rounded c r * n =
    ap (λ v. rounded v p * rounded (min b b) q * rounded (min c c) r * n) (min-self a) ∙ ap (λ v. rounded a p * rounded v q * rounded (min c c) r * n) (min-self b) ∙ ap (λ v. rounded a p * rounded b q * rounded v r * n) (min-self c) in
    let f : rounded a p * rounded b q * rounded c r * n ≤ 2 ^ 24 = subst (λ v. v ≤ 2 ^ 24) e h in
    omega arith

raw_min : (a b c n w : ℕ) → min a a * min b b * min c c * n * w ≤ 2 ^ 27 → a * b * c * n * w ≤ 2 ^ 27
raw_min a b c n w h =
    let e : min a a * min b b * min c c * n * w ≡ a * b * c * n * w =
    ap (λ v. v * min b b * min c c * n * w) (min-self a) ∙ ap (λ v. a * v * min c c * n * w) (min-self b) ∙ ap (λ v. a * b * v * n * w) (min-self c) in
    subst (λ v. v ≤ 2 ^ 27) e h

-- every shape keeps the limits
pub limits : (s : SegShape) → IsShape (sizes_of s)
limits s = record {
  size_0 = s.size_ok 0 (omega arith);
  size_1 = s.size_ok 1 (omega arith);
  size_2 = s.size_ok 2 (omega arith);
  block_0 = s.block_ok 0 (omega arith);
  block_1 = s.block_ok 1 (omega arith);
  block_2 = s.block_ok 2 (omega arith);
  some_channels = s.some_channels;
  few_channels = s.channels_ok;
  reading = padded_min (slice_index s.size 0) (slice_index s.size 1) (slice_index s.size 2) (slice_index s.block 0) (slice_index s.block 1) (slice_index s.block 2) s.channels s.padded_ok;
  raw = raw_min (slice_index s.size 0) (slice_index s.size 1) (slice_index s.size 2) s.channels (width_of s.wide) s.raw_ok;
}

-- a block of an axis begins on it
pub begins : (j s b : ℕ) → 0 < b → 0 < s → j < (s + b - 1) / b → j * b < s
begins j s b pb ps h =
    let e : (j + 1) * b ≤ (s + b - 1) / b * b = mul-le-mul_right b (omega arith) in
    let f = div-add-mod' (s + b - 1) b in
    omega arith

some_blocks : (s b : ℕ) → 0 < b → 0 < s → 0 < (s + b - 1) / b
some_blocks s b pb ps = let e = le-div 1 (s + b - 1) b pb (omega arith) in omega arith

pub record Facts (s : SegSizes) : Type 0 where
  pub on_0 : 0 < blocks_on s 0
  pub on_1 : 0 < blocks_on s 1
  pub on_2 : 0 < blocks_on s 2
  pub blocks_01 : blocks_on s 0 * blocks_on s 1 ≤ 2 ^ 24
  pub blocks : block_count s ≤ 2 ^ 24
  pub blocks_0 : blocks_on s 0 ≤ 2 ^ 24
  pub voxels_01 : block s 0 * block s 1 ≤ 2 ^ 24
  pub voxels : block_voxels s ≤ 2 ^ 24
  pub planes : s.channels * size s 2 ≤ 2 ^ 27
  pub values : size s 0 * size s 1 * size s 2 * s.channels ≤ 2 ^ 27

pub facts : (s : SegSizes) → IsShape s → Facts s
facts s h =
    let p0 = some_blocks (size s 0) (block s 0) h.block_0.0 h.size_0.0 in
    let p1 = some_blocks (size s 1) (block s 1) h.block_1.0 h.size_1.0 in
    let p2 = some_blocks (size s 2) (block s 2) h.block_2.0 h.size_2.0 in
    let whole : padded s ≤ padded s * s.channels = le-mul_of_pos_right (padded s) h.some_channels in
    let g0 : blocks_on s 0 ≤ blocks_on s 0 * block s 0 = le-mul_of_pos_right (blocks_on s 0) h.block_0.0 in
    let g1 : blocks_on s 1 ≤ blocks_on s 1 * block s 1 = le-mul_of_pos_right (blocks_on s 1) h.block_1.0 in
    let g2 : blocks_on s 2 ≤ blocks_on s 2 * block s 2 = le-mul_of_pos_right (blocks_on s 2) h.block_2.0 in
    let b0 : block s 0 ≤ block s 0 * blocks_on s 0 = le-mul_of_pos_right (block s 0) p0 in
    let b1 : block s 1 ≤ block s 1 * blocks_on s 1 = le-mul_of_pos_right (block s 1) p1 in
    let b2 : block s 2 ≤ block s 2 * blocks_on s 2 = le-mul_of_pos_right (block s 2) p2 in
    let g12 : blocks_on s 1 * blocks_on s 2 ≤ (blocks_on s 1 * block s 1) * (blocks_on s 2 * block s 2) = mul-le _ _ _ _ g1 g2 in
    let all : blocks_on s 0 * (blocks_on s 1 * blocks_on s 2) ≤ padded s = mul-le _ _ _ _ g0 g12 in
    let b12 : block s 1 * block s 2 ≤ (block s 1 * blocks_on s 1) * (block s 2 * blocks_on s 2) = mul-le _ _ _ _ b1 b2 in
    let voxels : block s 0 * (block s 1 * block s 2) ≤ (block s 0 * blocks_on s 0) * ((block s 1 * blocks_on s 1) * (block s 2 * blocks_on s 2)) = mul-le _ _ _ _ b0 b12 in
    let n2 : blocks_on s 0 * blocks_on s 1 ≤ blocks_on s 0 * blocks_on s 1 * blocks_on s 2 = le-mul_of_pos_right (blocks_on s 0 * blocks_on s 1) p2 in
    let n1 : blocks_on s 0 ≤ blocks_on s 0 * blocks_on s 1 = le-mul_of_pos_right (blocks_on s 0) p1 in
    let v2 : block s 0 * block s 1 ≤ block s 0 * block s 1 * block s 2 = le-mul_of_pos_right (block s 0 * block s 1) h.block_2.0 in
    let m : ℕ = size s 0 * size s 1 * size s 2 * s.channels in
    let raw : m ≤ m * width s = le-mul_of_pos_right m (width_some s.wide) in
    let z0 : size s 2 * s.channels ≤ size s 2 * s.channels * size s 0 = le-mul_of_pos_right (size s 2 * s.channels) h.size_0.0 in
    let z1 : size s 2 * s.channels * size s 0 ≤ size s 2 * s.channels * size s 0 * size s 1 = le-mul_of_pos_right (size s 2 * s.channels * size s 0) h.size_1.0 in
    let top = h.reading in
    let limit = h.raw in
    record { on_0 = p0; on_1 = p1; on_2 = p2; blocks_01 = omega arith; blocks = omega arith; blocks_0 = omega arith; voxels_01 = omega arith; voxels = omega arith; planes = omega arith; values = omega arith }

-- where block k is
pub record Spots (s : SegSizes) (k : ℕ) : Type 0 where
  pub on_z : k / blocks_on s 0 / blocks_on s 1 < blocks_on s 2
  pub x : k % blocks_on s 0 * block s 0 < size s 0
  pub y : k / blocks_on s 0 % blocks_on s 1 * block s 1 < size s 1
  pub z : k / blocks_on s 0 / blocks_on s 1 * block s 2 < size s 2

pub spots : (s : SegSizes) (k : ℕ) → IsShape s → k < block_count s → Spots s k
spots s k h lk =
    let f = facts s h in
    let a : k / blocks_on s 0 < blocks_on s 2 * blocks_on s 1 = div_below k (blocks_on s 0) (blocks_on s 2 * blocks_on s 1) f.on_0 (omega arith) in
    let b : k / blocks_on s 0 / blocks_on s 1 < blocks_on s 2 = div_below (k / blocks_on s 0) (blocks_on s 1) (blocks_on s 2) f.on_1 a in
    record {
      on_z = b;
      x = begins (k % blocks_on s 0) (size s 0) (block s 0) h.block_0.0 h.size_0.0 (mod_below k (blocks_on s 0) f.on_0);
      y = begins (k / blocks_on s 0 % blocks_on s 1) (size s 1) (block s 1) h.block_1.0 h.size_1.0 (mod_below (k / blocks_on s 0) (blocks_on s 1) f.on_1);
      z = begins (k / blocks_on s 0 / blocks_on s 1) (size s 2) (block s 2) h.block_2.0 h.size_2.0 b;
    }

-- the planes of all channels
pub plane_fits : (c channels z sz : ℕ) → c < channels → z < sz → c * sz + z < channels * sz
plane_fits c channels z sz lc lz =
    let e : (c + 1) * sz ≤ channels * sz = mul-le-mul_right sz (omega arith) in
    omega arith

-- a block has voxels
pub some_voxels : (s : SegSizes) → IsShape s → 0 < block_voxels s
some_voxels s h =
    let a : block s 0 ≤ block s 0 * block s 1 = le-mul_of_pos_right (block s 0) h.block_1.0 in
    let b : block s 0 * block s 1 ≤ block s 0 * block s 1 * block s 2 = le-mul_of_pos_right (block s 0 * block s 1) h.block_2.0 in
    omega (arith, a, b, h.block_0)

-- a channel has blocks
pub some_count : (s : SegSizes) → IsShape s → 0 < block_count s
some_count s h =
    let f = facts s h in
    let a : blocks_on s 0 ≤ blocks_on s 0 * blocks_on s 1 = le-mul_of_pos_right (blocks_on s 0) f.on_1 in
    let b : blocks_on s 0 * blocks_on s 1 ≤ blocks_on s 0 * blocks_on s 1 * blocks_on s 2 = le-mul_of_pos_right (blocks_on s 0 * blocks_on s 1) f.on_2 in
    omega (arith, a, b, f.on_0)

-- the padded voxels times the channels
pub padded_is : (s : SegSizes) → padded_in s ≡ padded s * s.channels
padded_is s =
    let e : padded_in s ≡ rounded (size s 0) (block s 0) * rounded (size s 1) (block s 1) * rounded (size s 2) (block s 2) * s.channels =
    ap (λ v. rounded v (block s 0) * rounded (min (size s 1) (size s 1)) (block s 1) * rounded (min (size s 2) (size s 2)) (block s 2) * s.channels) (min-self (size s 0))
    ∙ ap (λ v. rounded (size s 0) (block s 0) * rounded v (block s 1) * rounded (min (size s 2) (size s 2)) (block s 2) * s.channels) (min-self (size s 1))
    ∙ ap (λ v. rounded (size s 0) (block s 0) * rounded (size s 1) (block s 1) * rounded v (block s 2) * s.channels) (min-self (size s 2)) in
    e ∙ omega arith

-- what bounds the voxels of all channels bounds those of one
pub padded_le : (s : SegSizes) (m : ℕ) → IsShape s → padded_in s ≤ m → (padded s * s.channels ≤ m) × (padded s ≤ m)
padded_le s m h limit =
    let e = padded_is s in
    let l : padded s ≤ padded s * s.channels = le-mul_of_pos_right (padded s) h.some_channels in
    (omega (arith, e, limit), omega (arith, e, l, limit))
