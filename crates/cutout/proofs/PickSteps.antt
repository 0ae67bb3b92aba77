-- The values of some channels among those of all.
use Rattle.std.proofs.Common.{◌≡◌, ◌∙◌, ◌≤◌, ◌<◌, ◌+◌, ◌-◌, ◌*◌, ◌/◌, ℕ, length, take, drop, arith, ap, length-take, length-drop}
use Rattle.std.proofs.Math.Nat.{mul-le-mul_right}
use Rattle.std.proofs.Math.Seq.{drop-drop}
use Rattle.std.proofs.lemmas.Grind.{common_steps}
use Rattle.std.proofs.lemmas.List.{drop-take}
use Rattle.std.proofs.lemmas.Nat.{div-mul-add}
use Rattle.vol_base.specs.declared.boxes.Box3.{Box3}
use Rattle.vol_base.specs.Boxes.{Covers, num, value, voxels}
use Rattle.vol_spec.proofs.RawSteps.{voxel_fits}
use Rattle.vol_spec.specs.Raw.{raw_len}
use Rattle.vol_spec.specs.Types.{Bytes, Position}
use Rattle.cutout.specs.declared.channels.Channels.{Channels}

-- the bytes of one channel
pub one_channel : (v channels w len : ℕ) → 1 ≤ channels → len ≡ v * channels * w → len / channels ≡ v * w
one_channel v channels w len some e =
    let turned : len ≡ v * w * channels + 0 = omega (arith, e) in
    ap (λ k. k / channels) turned ∙ div-mul-add (v * w) channels 0 some

-- some channels lie within all
pub record Fits (first count channels one len : ℕ) : Type 0 where
  pub begin : first * one ≤ len
  pub end : first * one + count * one ≤ len
  pub picked : count * one ≤ len

pub fits : (first count channels one len : ℕ) → first + count ≤ channels → len ≡ one * channels → Fits first count channels one len
fits first count channels one len few e =
    let all : (first + count) * one ≤ channels * one = mul-le-mul_right one few in
    record { begin = omega (arith, all, e); end = omega (arith, all, e); picked = omega (arith, all, e) }

pub pick_fits : (b : Box3) (channels w first count len : ℕ) → 1 ≤ channels → len ≡ raw_len b channels w → first + count ≤ channels → Fits first count channels (len / channels) len
pick_fits b channels w first count len some e few =
    let one : len / channels * channels ≡ voxels b * w * channels = ap (λ o. o * channels) (one_channel (voxels b) channels w len some e) in
    fits first count channels (len / channels) len few (omega (arith, one, e))

-- w bytes in a part of a list
shorter : (w k : ℕ) (zs : Bytes) → w ≤ k → take w (take k zs) ≡ take w zs
shorter w k zs l = grind (arith, common_steps)

in_front : (w n i : ℕ) (ys : Bytes) → i + w ≤ n → take w (drop i (take n ys)) ≡ take w (drop i ys)
in_front w n i ys l =
    let more : n ≡ i + (n - i) = omega (arith, l) in
    ap (λ k. take w (drop i (take k ys))) more ∙ ap (take w) (drop-take i (n - i) ys) ∙ shorter w (n - i) (drop i ys) (omega (arith, l))

inner : (w n k i : ℕ) (xs : Bytes) → i + w ≤ n → take w (drop i (take n (drop k xs))) ≡ take w (drop (k + i) xs)
inner w n k i xs h =
    in_front w n i (drop k xs) h ∙ ap (take w) (drop-drop i k xs)

-- a value among those of some channels is one among those of all
pub picked_value : (b : Box3) (w first count : ℕ) (bytes : Bytes) (p : Position) (c : ℕ) → Covers b p → c < count
    → value w (take (count * (voxels b * w)) (drop (first * (voxels b * w)) bytes)) (num b p c) ≡ value w bytes (num b p (first + c))
picked_value b w first count bytes p c covered low =
    let fit : w * num b p c + w ≤ raw_len b count w = voxel_fits b count w p c covered low in
    let place : first * (voxels b * w) + w * num b p c ≡ w * num b p (first + c) = omega arith in
    inner w (count * (voxels b * w)) (first * (voxels b * w)) (w * num b p c) bytes (omega (arith, fit))
    ∙ ap (λ k. take w (drop k bytes)) place

-- how many bytes they have
pub picked_len : (b : Box3) (channels w : ℕ) (some : Channels) (bytes picked : Bytes) → some.first + some.count ≤ channels → length bytes ≡ raw_len b channels w
    → picked ≡ take (some.count * (voxels b * w)) (drop (some.first * (voxels b * w)) bytes)
    → (length picked ≡ raw_len b some.count w) × (length picked ≤ length bytes)
picked_len b channels w some bytes picked few len is =
    let fit = fits some.first some.count channels (voxels b * w) (length bytes) few (omega (arith, len)) in
    let count : length picked ≡ some.count * (voxels b * w) =
    ap length is ∙ omega (arith, fit.end, length-take (some.count * (voxels b * w)) (drop (some.first * (voxels b * w)) bytes), length-drop (some.first * (voxels b * w)) bytes) in
    (omega (arith, count), omega (arith, count, fit.picked))
