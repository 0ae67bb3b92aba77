-- The values of a box, one by one.
use Rattle.std.proofs.Common.{◌≡◌, ℕ, zero, suc, ◌+◌, ◌-◌, ◌*◌, ◌^◌, ◌<◌, ◌≤◌, ◌⊎◌, List, [], length, take, drop, slice_index, refl, ap, ◌∙◌, sym, arith, lit<, ⊎_elim}
use Rattle.std.proofs.lemmas.Bool.{cases_lt}
use Rattle.std.proofs.lemmas.List.{drop_all, length-drop, take_all}
use Rattle.std.proofs.Math.Logic.{∥∥₁_elim}
use Rattle.std.proofs.Math.Nat.{mul-le-mul_left}
use Rattle.std.proofs.Math.Seq.{drop-cons, take-nil}
use Rattle.std.proofs.Props.{props}
use Rattle.byteorder.specs.Endian.{little_from, little_number}
use Rattle.vol_base.specs.declared.boxes.Box3.{Box3}
use Rattle.vol_base.specs.Boxes.{size, value, voxels, IsSome}
use Rattle.vol_spec.specs.BoxValues.{channel_of}
use Rattle.vol_spec.specs.Grid.{Inside}
use Rattle.vol_spec.specs.Limits.{IsWidth}
use Rattle.vol_spec.specs.declared.scale.Scale.{Scale}
use Rattle.vol_spec.specs.Raw.{digit, number, raw_len}
use Rattle.vol_spec.proofs.CutSteps.{in_channels}
use Rattle.compare_values.specs.Differences.{IsFirst}

-- a number of some bytes, the lowest first
little_is : (w i : ℕ) (xs : List ℕ) → i + w ≤ length xs → little_from i w xs ≡ number (take w (drop i xs))
little_is zero i xs h = refl
little_is (suc w) i xs h =
    let rest : little_from (suc i) w xs ≡ number (take w (drop (suc i) xs)) = little_is w (suc i) xs (omega arith) in
    let cons = drop-cons xs i 0 (omega arith) in
    ap (λ n. slice_index xs i + 256 * n) rest ∙ sym (ap (λ ys. number (take (suc w) ys)) cons)

-- the bytes of a value within the list
pub fits : (w n count : ℕ) → n < count → w * n + w ≤ w * count
fits w n count h =
    let more : w * (n + 1) ≤ w * count = mul-le-mul_left w (omega arith) in
    omega (arith, more)

pub read_is : (w n : ℕ) (xs : List ℕ) → w * n + w ≤ length xs → little_number w (drop (w * n) xs) ≡ digit xs w n
read_is w n xs h = little_is w 0 (drop (w * n) xs) (omega (arith, length-drop (w * n) xs))

pub read_rest : (w n : ℕ) (xs : List ℕ) → w * n + w ≤ length xs → little_number w (take (length xs - w * n) (drop (w * n) xs)) ≡ digit xs w n
read_rest w n xs h = ap (little_number w) (take_all (length xs - w * n) (drop (w * n) xs) (omega (arith, length-drop (w * n) xs))) ∙ read_is w n xs h

-- the first value that differs is one of the lists
none_behind : (w n count : ℕ) (xs : List ℕ) → length xs ≡ w * count → count ≤ n → value w xs n ≡ []
none_behind w n count xs len h =
    let more : w * count ≤ w * n = mul-le-mul_left w h in
    ap (take w) (drop_all (w * n) xs (omega (arith, len, more))) ∙ take-nil w

pub within : (w n count : ℕ) (a b : List ℕ) → length a ≡ w * count → length b ≡ w * count → IsFirst w a b n → n < count
within w n count a b la lb first =
    ⊎_elim (λ (lt : n < count). lt)
    (λ (ge : count ≤ n). absurd (first.there (none_behind w n count a la ge ∙ sym (none_behind w n count b lb ge))))
    (cases_lt n count)

pub count_is : (b : Box3) (channels w n : ℕ) → n ≡ raw_len b channels w → n ≡ w * (voxels b * channels)
count_is b channels w n e = omega (arith, e)

pub channel_below : (b : Box3) (channels n : ℕ) → IsSome b → n < voxels b * channels → channel_of b n < channels
channel_below b channels n some h = in_channels (size b 0) (size b 1) (size b 2) channels n (some 0 (lit< tt)) (some 1 (lit< tt)) (some 2 (lit< tt)) h

-- a value has one to eight bytes
pub width_fits : (w : ℕ) → ∥ IsWidth w ∥₁ → (1 ≤ w) × (w ≤ 8)
width_fits w h = ∥∥₁_elim h (hlevel props) (λ (is : IsWidth w).
    ⊎_elim (λ (one : w ≡ 1). (omega arith, omega arith)) (λ (rest : (w ≡ 2) ⊎ ((w ≡ 4) ⊎ (w ≡ 8))).
    ⊎_elim (λ (two : w ≡ 2). (omega arith, omega arith)) (λ (more : (w ≡ 4) ⊎ (w ≡ 8)).
    ⊎_elim (λ (four : w ≡ 4). (omega arith, omega arith)) (λ (eight : w ≡ 8). (omega arith, omega arith)) more) rest) is)

-- what is known of the first value that differs, over a box of a scale
pub record IsThere (s : Scale) (b : Box3) (found wanted : List ℕ) (n : ℕ) : Type 0 where
  pub within : n < voxels b * s.channels
  pub found_fits : s.width * n + s.width ≤ length found
  pub wanted_fits : s.width * n + s.width ≤ length wanted
  pub channel : channel_of b n < 2 ^ 32

pub is_there : (s : Scale) (b : Box3) (found wanted : List ℕ) (n : ℕ) → Inside s b → length found ≡ raw_len b s.channels s.width → length wanted ≡ raw_len b s.channels s.width → IsFirst s.width found wanted n → IsThere s b found wanted n
is_there s b found wanted n inside lf lw first =
    let cf = count_is b s.channels s.width (length found) lf in
    let cw = count_is b s.channels s.width (length wanted) lw in
    let below = within s.width n (voxels b * s.channels) found wanted cf cw first in
    let fit = fits s.width n (voxels b * s.channels) below in
    let channel = channel_below b s.channels n inside.some below in
    let few = s.channels_ok in
    record { within = below; found_fits = omega (arith, fit, cf); wanted_fits = omega (arith, fit, cw); channel = omega (arith, channel, few) }
