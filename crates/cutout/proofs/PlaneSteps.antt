-- Values of planes of a box, and of channels, one more.
use Rattle.std.proofs.Common.{◌≡◌, ◌∙◌, ◌≤◌, ◌<◌, ◌+◌, ◌*◌, ◌++◌, ℕ, zero, suc, ℤ, pos, ◌+ℤ◌, ◌-ℤ◌, ◌≤ℤ◌, ◌<ℤ◌, nat_abs, [], length-append, Ok, arith, ap, sym, lit<, ⊎_elim}
use Rattle.std.proofs.lemmas.Bool.{cases_lt}
use Rattle.std.proofs.lemmas.Int.{ints}
use Rattle.vol_base.proofs.Axes.{by_axis}
use Rattle.vol_base.specs.declared.boxes.Box3.{Box3}
use Rattle.vol_base.specs.Boxes.{at, Covers, end, from_begin, num, size, voxels}
use Rattle.vol_base.specs.Outside.{Objects}
use Rattle.vol_spec.proofs.RawSteps.{voxel_fits}
use Rattle.vol_spec.specs.Chunks.{value_in}
use Rattle.vol_spec.specs.Raw.{digit, number}
use Rattle.vol_spec.specs.Types.{Bytes, Name}
use Rattle.vol_spec.specs.declared.scale.Scale.{Scale}
use Rattle.cutout.proofs.JoinSteps.{joined_bytes, value-left, value-right}
use Rattle.cutout.specs.Layers.{planes}
use Rattle.cutout.specs.Streaming.{HasChannels}

-- a position on the axis z, by where some planes end
lower_place : (b p : ℤ) (n k : ℕ) → (b +ℤ pos 0) ≤ℤ p → nat_abs (p -ℤ b) < n → ((b +ℤ pos 0) ≤ℤ p) × (p <ℤ ((b +ℤ pos 0) +ℤ pos n))
lower_place b p n k low lt = (low, omega (arith, ints))

upper_place : (b p : ℤ) (n k : ℕ) → (b +ℤ pos 0) ≤ℤ p → p <ℤ ((b +ℤ pos 0) +ℤ pos (n + k)) → n ≤ nat_abs (p -ℤ b)
    → ((b +ℤ pos n) ≤ℤ p) × (p <ℤ ((b +ℤ pos n) +ℤ pos k)) × (nat_abs (p -ℤ (b +ℤ pos 0)) ≡ n + nat_abs (p -ℤ (b +ℤ pos n)))
upper_place b p n k low high ge = (omega (arith, ints), omega (arith, ints), omega (arith, ints))

-- the number of a voxel in channel 0, by how many planes there are
num_alike : (x y z s0 s1 a b c : ℕ) → c < 1 → x + s0 * (y + s1 * (z + a * c)) ≡ x + s0 * (y + s1 * (z + b * c))
num_alike x y z s0 s1 a b zero h = omega arith
num_alike x y z s0 s1 a b (suc c) h = absurd (omega arith)

num_above : (x y z n k s0 s1 m c : ℕ) → c < 1 → z ≡ n + k → x + s0 * (y + s1 * (z + m * c)) ≡ s0 * s1 * n + (x + s0 * (y + s1 * (k + m * c)))
num_above x y z n k s0 s1 m zero h e = rw e (omega arith)
num_above x y z n k s0 s1 m (suc c) h e = absurd (omega arith)

-- no planes have no values
no_place : (b p : ℤ) → (b +ℤ pos 0) ≤ℤ p → p <ℤ ((b +ℤ pos 0) +ℤ pos 0) → ⊥
no_place b p low high = omega (arith, ints)

pub planes_none : (m : Objects) (dataset : Name) (s : Scale) (b : Box3) (channel : ℕ) → HasChannels m dataset s (planes b 0 0) channel 1 []
planes_none m dataset s b channel = record {
  len = omega arith;
  small = λ i. lit< tt;
  values = λ p c covered low. absurd (let h = covered 2 (lit< tt) in no_place (at b.begin 2) (at p 2) h.0 h.1);
}

-- planes and those above them
pub planes_more : (m : Objects) (dataset : Name) (s : Scale) (b : Box3) (channel n k : ℕ) (xs ys : Bytes)
    → HasChannels m dataset s (planes b 0 n) channel 1 xs → HasChannels m dataset s (planes b n k) channel 1 ys → HasChannels m dataset s (planes b 0 (n + k)) channel 1 (xs ++ ys)
planes_more m dataset s b channel n k xs ys low high = record {
  len = omega (arith, length-append xs ys, low.len, high.len);
  small = joined_bytes xs ys low.small high.small;
  values = λ p c covered one.
      ⊎_elim (λ (lt : from_begin b p 2 < n).
      let own : Covers (planes b 0 n) p = by_axis (λ axis. (at (planes b 0 n).begin axis ≤ℤ at p axis) × (at p axis <ℤ end (planes b 0 n) axis)) (covered 0 (lit< tt)) (covered 1 (lit< tt)) (lower_place (at b.begin 2) (at p 2) n k (covered 2 (lit< tt)).0 lt) in
      let alike : num (planes b 0 (n + k)) p c ≡ num (planes b 0 n) p c = num_alike (from_begin b p 0) (from_begin b p 1) (from_begin (planes b 0 n) p 2) (size b 0) (size b 1) (n + k) n c one in
      let fits = voxel_fits (planes b 0 n) 1 s.width p c own one in
      low.values p c own one ∙ ap (λ v. Ok (number v)) (sym (value-left s.width (num (planes b 0 n) p c) xs ys (omega (arith, fits, low.len)))) ∙ ap (λ i. Ok (digit (xs ++ ys) s.width i)) (sym alike))
      (λ (ge : n ≤ from_begin b p 2).
      let place = upper_place (at b.begin 2) (at p 2) n k (covered 2 (lit< tt)).0 (covered 2 (lit< tt)).1 ge in
      let own : Covers (planes b n k) p = by_axis (λ axis. (at (planes b n k).begin axis ≤ℤ at p axis) × (at p axis <ℤ end (planes b n k) axis)) (covered 0 (lit< tt)) (covered 1 (lit< tt)) (place.0, place.1) in
      let above : num (planes b 0 (n + k)) p c ≡ size b 0 * size b 1 * n + num (planes b n k) p c =
      num_above (from_begin b p 0) (from_begin b p 1) (from_begin (planes b 0 n) p 2) n (from_begin (planes b n k) p 2) (size b 0) (size b 1) (n + k) c one place.2
      ∙ ap (λ v. size b 0 * size b 1 * n + v) (num_alike (from_begin b p 0) (from_begin b p 1) (from_begin (planes b n k) p 2) (size b 0) (size b 1) (n + k) k c one) in
      high.values p c own one ∙ ap (λ v. Ok (number v)) (sym (value-right s.width (size b 0 * size b 1 * n) (num (planes b n k) p c) (num (planes b 0 (n + k)) p c) xs ys (omega (arith, low.len)) above)))
      (cases_lt (from_begin b p 2) n);
}

-- no channels have no values
pub channels_none : (m : Objects) (dataset : Name) (s : Scale) (b : Box3) → HasChannels m dataset s b 0 0 []
channels_none m dataset s b = record { len = omega arith; small = λ i. lit< tt; values = λ p c covered low. absurd (omega (arith, low)) }

-- channels and the next one
num_next : (x y z s0 s1 s2 n c : ℕ) → c ≡ n → x + s0 * (y + s1 * (z + s2 * c)) ≡ s0 * s1 * s2 * n + (x + s0 * (y + s1 * (z + s2 * 0)))
num_next x y z s0 s1 s2 n c e = rw e (omega arith)

pub channels_more : (m : Objects) (dataset : Name) (s : Scale) (b : Box3) (n : ℕ) (xs ys : Bytes)
    → HasChannels m dataset s b 0 n xs → HasChannels m dataset s b n 1 ys → HasChannels m dataset s b 0 (n + 1) (xs ++ ys)
channels_more m dataset s b n xs ys low high = record {
  len = omega (arith, length-append xs ys, low.len, high.len);
  small = joined_bytes xs ys low.small high.small;
  values = λ p c covered less.
      ⊎_elim (λ (lt : c < n).
      let fits = voxel_fits b n s.width p c covered lt in
      low.values p c covered lt ∙ ap (λ v. Ok (number v)) (sym (value-left s.width (num b p c) xs ys (omega (arith, fits, low.len)))))
      (λ (ge : n ≤ c).
      let same : c ≡ n = omega (arith, ge, less) in
      let channel : 0 + c ≡ n + 0 = omega (arith, same) in
      let next : num b p c ≡ voxels b * n + num b p 0 = num_next (from_begin b p 0) (from_begin b p 1) (from_begin b p 2) (size b 0) (size b 1) (size b 2) n c same in
      ap (value_in m dataset s p) channel ∙ high.values p 0 covered (lit< tt)
      ∙ ap (λ v. Ok (number v)) (sym (value-right s.width (voxels b * n) (num b p 0) (num b p c) xs ys (omega (arith, low.len)) next)))
      (cases_lt c n);
}
