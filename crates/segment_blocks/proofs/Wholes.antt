-- Blocks make channels, and channels a chunk.
use Rattle.std.proofs.Common.{◌≡◌, ℕ, ◌+◌, ◌-◌, ◌*◌, ◌/◌, ◌%◌, ◌<◌, ◌≤◌, List, arith, refl, ap, ◌∙◌, sym, subst, inl, inr, ⊎_elim}
use Rattle.std.proofs.lemmas.Bool.{cases_lt}
use Rattle.std.proofs.lemmas.Nat.{div-add-mod', le-div, row_fits, div_below, mod_below, div-mul-add, mod-mul-add, same_from_place}
use Rattle.std.proofs.Math.Nat.{mod-add-div}
use Rattle.vol_spec.specs.SegSizes.{SegSizes}
use Rattle.vol_spec.specs.SegBlocks.{size, block, blocks_on, block_count, block_voxels, block_of, number_in, in_chunk, x_of, y_of, z_of, num, width, InChunk}
use Rattle.segment_blocks.specs.Shape.{place, InBlock, IsShape}
use Rattle.vol_spec.specs.Raw.{digit, number}
use Rattle.vol_spec.specs.SegChunks.{entry, seg_at}
use Rattle.segment_blocks.specs.Filled.{Filled}
use Rattle.segment_blocks.specs.Whole.{Where, OfBlock, OfBlocks, OfChannels, place_of, entry_of}
use Rattle.segment_blocks.proofs.Blocks.{tests, tests_back}
use Rattle.segment_blocks.proofs.Fills.{filled_more, filled_via}

pub named : (bytes : List ℕ) (s : SegSizes) (c k : ℕ) (old new : List ℕ) → Filled (InBlock s k) (place s c k) (entry bytes s c k) (width s) old new
    → Filled (OfBlock s c k) (place_of s) (entry_of bytes s) (width s) old new
named bytes s c k old new f =
    filled_via (InBlock s k) (OfBlock s c k) (place s c k) (place_of s) (entry bytes s c k) (entry_of bytes s) (width s) old new f
    (λ a h. (a.n, subst (λ q. InBlock s q a.n) h.1 h.2, ap (λ q. place s q a.k a.n) h.0 ∙ ap (λ q. place s c q a.n) h.1, sym (ap (λ q. entry bytes s q a.k a.n) h.0 ∙ ap (λ q. entry bytes s c q a.n) h.1)))
    (λ n i. (record { c = c; k = k; n = n }, (refl, refl, i), refl))

-- one value is that of one voxel
pub record Same (a b : Where) : Type 0 where
  pub c : a.c ≡ b.c
  pub k : a.k ≡ b.k

pub inside : (s : SegSizes) (k n : ℕ) → InBlock s k n → (x_of s k n < size s 0) × (y_of s k n < size s 1) × (z_of s k n < size s 2)
unfolding in_chunk
inside s k n i = tests (x_of s k n) (size s 0) (y_of s k n) (size s 1) (z_of s k n) (size s 2) i.inside

pub block_again : (s : SegSizes) (k : ℕ) → k % blocks_on s 0 + blocks_on s 0 * (k / blocks_on s 0 % blocks_on s 1 + blocks_on s 1 * (k / blocks_on s 0 / blocks_on s 1)) ≡ k
block_again s k = ap (λ q. k % blocks_on s 0 + blocks_on s 0 * q) (mod-add-div (k / blocks_on s 0) (blocks_on s 1)) ∙ mod-add-div k (blocks_on s 0)

pub deep : (s : SegSizes) (n : ℕ) → IsShape s → n < block_voxels s → n / block s 0 / block s 1 < block s 2
deep s n h ln =
    let a : n / block s 0 < block s 2 * block s 1 = div_below n (block s 0) (block s 2 * block s 1) h.block_0.0 (omega arith) in
    div_below (n / block s 0) (block s 1) (block s 2) h.block_1.0 a

pub one_place : (s : SegSizes) (a b : Where) → IsShape s → InBlock s a.k a.n → InBlock s b.k b.n → place_of s a ≡ place_of s b → Same a b
one_place s a b h ia ib e =
    let ta = inside s a.k a.n ia in
    let tb = inside s b.k b.n ib in
    let px = same_from_place (y_of s a.k a.n + size s 1 * (z_of s a.k a.n + size s 2 * a.c)) (x_of s a.k a.n) (y_of s b.k b.n + size s 1 * (z_of s b.k b.n + size s 2 * b.c)) (x_of s b.k b.n) (size s 0) ta.0 tb.0 (omega arith) in
    let py = same_from_place (z_of s a.k a.n + size s 2 * a.c) (y_of s a.k a.n) (z_of s b.k b.n + size s 2 * b.c) (y_of s b.k b.n) (size s 1) ta.1 tb.1 (omega (arith, px.0)) in
    let pz = same_from_place a.c (z_of s a.k a.n) b.c (z_of s b.k b.n) (size s 2) ta.2 tb.2 (omega (arith, py.0)) in
    let kx = same_from_place (a.k % blocks_on s 0) (a.n % block s 0) (b.k % blocks_on s 0) (b.n % block s 0) (block s 0) (mod_below a.n (block s 0) h.block_0.0) (mod_below b.n (block s 0) h.block_0.0) px.1 in
    let ky = same_from_place (a.k / blocks_on s 0 % blocks_on s 1) (a.n / block s 0 % block s 1) (b.k / blocks_on s 0 % blocks_on s 1) (b.n / block s 0 % block s 1) (block s 1) (mod_below (a.n / block s 0) (block s 1) h.block_1.0) (mod_below (b.n / block s 0) (block s 1) h.block_1.0) py.1 in
    let kz = same_from_place (a.k / blocks_on s 0 / blocks_on s 1) (a.n / block s 0 / block s 1) (b.k / blocks_on s 0 / blocks_on s 1) (b.n / block s 0 / block s 1) (block s 2) (deep s a.n h ia.below) (deep s b.n h ib.below) pz.1 in
    record {
      c = pz.0;
      k = sym (block_again s a.k)
          ∙ ap (λ q. q + blocks_on s 0 * (a.k / blocks_on s 0 % blocks_on s 1 + blocks_on s 1 * (a.k / blocks_on s 0 / blocks_on s 1))) kx.0
          ∙ ap (λ q. b.k % blocks_on s 0 + blocks_on s 0 * (q + blocks_on s 1 * (a.k / blocks_on s 0 / blocks_on s 1))) ky.0
          ∙ ap (λ q. b.k % blocks_on s 0 + blocks_on s 0 * (b.k / blocks_on s 0 % blocks_on s 1 + blocks_on s 1 * q)) kz.0
          ∙ block_again s b.k;
    }

pub blocks_more : (bytes : List ℕ) (s : SegSizes) (c k : ℕ) (old cur new : List ℕ) → IsShape s
    → Filled (OfBlocks s c k) (place_of s) (entry_of bytes s) (width s) old cur → Filled (OfBlock s c k) (place_of s) (entry_of bytes s) (width s) cur new
    → Filled (OfBlocks s c (k + 1)) (place_of s) (entry_of bytes s) (width s) old new
blocks_more bytes s c k old cur new h f g =
    filled_more (OfBlocks s c k) (OfBlock s c k) (OfBlocks s c (k + 1)) (place_of s) (entry_of bytes s) (width s) old cur new f g
    (λ a b p q e. let same = one_place s a b h p.2 q.2 e in omega (arith, same.k, p.1, q.1))
    (λ a r. ⊎_elim (λ (l : a.k < k). inl (r.0, l, r.2)) (λ (m : k ≤ a.k). inr (r.0, omega (arith, r.1), r.2)) (cases_lt a.k k))
    (λ a p. (p.0, omega (arith, p.1), p.2))
    (λ a q. (q.0, omega (arith, q.1), q.2))

pub channels_more : (bytes : List ℕ) (s : SegSizes) (c : ℕ) (old cur new : List ℕ) → IsShape s
    → Filled (OfChannels s c) (place_of s) (entry_of bytes s) (width s) old cur → Filled (OfBlocks s c (block_count s)) (place_of s) (entry_of bytes s) (width s) cur new
    → Filled (OfChannels s (c + 1)) (place_of s) (entry_of bytes s) (width s) old new
channels_more bytes s c old cur new h f g =
    filled_more (OfChannels s c) (OfBlocks s c (block_count s)) (OfChannels s (c + 1)) (place_of s) (entry_of bytes s) (width s) old cur new f g
    (λ a b p q e. let same = one_place s a b h p.2 q.2 e in omega (arith, same.c, p.0, q.0))
    (λ a r. ⊎_elim (λ (l : a.c < c). inl (l, r.1, r.2)) (λ (m : c ≤ a.c). inr (omega (arith, r.0), r.1, r.2)) (cases_lt a.c c))
    (λ a p. (omega (arith, p.0), p.1, p.2))
    (λ a q. (omega (arith, q.0), q.1, q.2))

-- a place on an axis lies in one of its blocks
covered : (q s b : ℕ) → 0 < b → q < s → q / b < (s + b - 1) / b
covered q s b pb h =
    let whole = div-add-mod' q b in
    let less = mod_below q b pb in
    let up : q / b + 1 ≤ (s + b - 1) / b = le-div (q / b + 1) (s + b - 1) b pb (omega arith) in
    omega arith

below_3 : (x y z a b c : ℕ) → x < a → y < b → z < c → x + a * (y + b * z) < a * b * c
below_3 x y z a b c hx hy hz =
    let e : z * b + b ≤ c * b = row_fits z b c b hz (omega arith) in
    let f : (z * b + y) * a + a ≤ (c * b) * a = row_fits (z * b + y) a (c * b) a (omega arith) (omega arith) in
    omega arith

-- the parts of x + a * (y + b * z)
parts : (x y z a b : ℕ) → x < a → y < b → ((x + a * (y + b * z)) % a ≡ x) × ((x + a * (y + b * z)) / a % b ≡ y) × ((x + a * (y + b * z)) / a / b ≡ z)
parts x y z a b hx hy =
    let e : x + a * (y + b * z) ≡ (z * b + y) * a + x = omega arith in
    let m : (x + a * (y + b * z)) % a ≡ x = ap (λ q. q % a) e ∙ mod-mul-add (z * b + y) a x hx in
    let d : (x + a * (y + b * z)) / a ≡ z * b + y = ap (λ q. q / a) e ∙ div-mul-add (z * b + y) a x hx in
    (m, ap (λ q. q % b) d ∙ mod-mul-add z b y hy, ap (λ q. q / b) d ∙ div-mul-add z b y hy)

-- each voxel of the chunk is one of a block
pub record Found (s : SegSizes) (x y z c : ℕ) : Type 0 where
  pub block : block_of s x y z < block_count s
  pub is : InBlock s (block_of s x y z) (number_in s x y z)
  pub spot : num s x y z c ≡ place s c (block_of s x y z) (number_in s x y z)

pub found : (s : SegSizes) (x y z c : ℕ) → IsShape s → InChunk s x y z → Found s x y z c
unfolding in_chunk
found s x y z c h i =
    let gx = covered x (size s 0) (block s 0) h.block_0.0 i.on_x in
    let gy = covered y (size s 1) (block s 1) h.block_1.0 i.on_y in
    let gz = covered z (size s 2) (block s 2) h.block_2.0 i.on_z in
    let mx = mod_below x (block s 0) h.block_0.0 in
    let my = mod_below y (block s 1) h.block_1.0 in
    let mz = mod_below z (block s 2) h.block_2.0 in
    let k : ℕ = block_of s x y z in
    let n : ℕ = number_in s x y z in
    let pk = parts (x / block s 0) (y / block s 1) (z / block s 2) (blocks_on s 0) (blocks_on s 1) gx gy in
    let pn = parts (x % block s 0) (y % block s 1) (z % block s 2) (block s 0) (block s 1) mx my in
    let ex : x_of s k n ≡ x = ap (λ q. q * block s 0 + n % block s 0) pk.0 ∙ ap (λ q. x / block s 0 * block s 0 + q) pn.0 ∙ div-add-mod' x (block s 0) in
    let ey : y_of s k n ≡ y = ap (λ q. q * block s 1 + n / block s 0 % block s 1) pk.1 ∙ ap (λ q. y / block s 1 * block s 1 + q) pn.1 ∙ div-add-mod' y (block s 1) in
    let ez : z_of s k n ≡ z = ap (λ q. q * block s 2 + n / block s 0 / block s 1) pk.2 ∙ ap (λ q. z / block s 2 * block s 2 + q) pn.2 ∙ div-add-mod' z (block s 2) in
    record {
      block = below_3 _ _ _ (blocks_on s 0) (blocks_on s 1) (blocks_on s 2) gx gy gz;
      is = record { below = below_3 _ _ _ (block s 0) (block s 1) (block s 2) mx my mz; inside = tests_back (x_of s k n) (size s 0) (y_of s k n) (size s 1) (z_of s k n) (size s 2) (omega (arith, ex, i.on_x)) (omega (arith, ey, i.on_y)) (omega (arith, ez, i.on_z)) };
      spot = sym (ap (λ q. q + size s 0 * (y_of s k n + size s 1 * (z_of s k n + size s 2 * c))) ex
          ∙ ap (λ q. x + size s 0 * (q + size s 1 * (z_of s k n + size s 2 * c))) ey
          ∙ ap (λ q. x + size s 0 * (y + size s 1 * (q + size s 2 * c))) ez);
    }

pub read_all : (bytes : List ℕ) (s : SegSizes) (old new : List ℕ) → IsShape s → Filled (OfChannels s s.channels) (place_of s) (entry_of bytes s) (width s) old new
    → (x y z c : ℕ) → InChunk s x y z → c < s.channels → digit new (width s) (num s x y z c) ≡ seg_at bytes s x y z c
read_all bytes s old new h f x y z c i lc =
    let t = found s x y z c h i in
    let a : Where = record { c = c; k = block_of s x y z; n = number_in s x y z } in
    ap (digit new (width s)) t.spot ∙ ap number (f.placed a (lc, t.block, t.is))
