-- Small shapes keep the limits.
use Rattle.std.proofs.Common.{ℕ, ◌+◌, ◌-◌, ◌*◌, ◌^◌, ◌≤◌, min, Bool, true, false, arith}
use Rattle.std.proofs.lemmas.Nat.{mul-le, div-add-mod'}
use Rattle.std.proofs.Math.Nat.{min-le_left}
use Rattle.vol_spec.specs.Limits.{rounded}
use Rattle.vol_spec.specs.SegSizes.{width_of}

rounded_small : (s b : ℕ) → s ≤ 32 → b ≤ 33 → rounded (min s s) b ≤ 64
rounded_small s b hs hb =
    let e = div-add-mod' (min s s + b - 1) b in
    let m = min-le_left s s in
    omega arith

pub padded_small : (x y z p q r n : ℕ) → x ≤ 32 → y ≤ 32 → z ≤ 32 → p ≤ 33 → q ≤ 33 → r ≤ 33 → n ≤ 4
    → rounded (min x x) p * rounded (min y y) q * rounded (min z z) r * n ≤ 2 ^ 20
padded_small x y z p q r n hx hy hz hp hq hr hn =
    let a : rounded (min x x) p * rounded (min y y) q ≤ 64 * 64 = mul-le _ _ _ _ (rounded_small x p hx hp) (rounded_small y q hy hq) in
    let b : rounded (min x x) p * rounded (min y y) q * rounded (min z z) r ≤ 64 * 64 * 64 = mul-le _ _ _ _ a (rounded_small z r hz hr) in
    let c : rounded (min x x) p * rounded (min y y) q * rounded (min z z) r * n ≤ 64 * 64 * 64 * 4 = mul-le _ _ _ _ b hn in
    omega (arith, c)

width_small : (wide : Bool) → width_of wide ≤ 8
width_small true = omega arith
width_small false = omega arith

pub raw_small : (x y z n : ℕ) (wide : Bool) → x ≤ 32 → y ≤ 32 → z ≤ 32 → n ≤ 4 → min x x * min y y * min z z * n * width_of wide ≤ 2 ^ 27
raw_small x y z n wide hx hy hz hn =
    let mx : min x x ≤ 32 = omega (arith, min-le_left x x) in
    let my : min y y ≤ 32 = omega (arith, min-le_left y y) in
    let mz : min z z ≤ 32 = omega (arith, min-le_left z z) in
    let a : min x x * min y y ≤ 32 * 32 = mul-le _ _ _ _ mx my in
    let b : min x x * min y y * min z z ≤ 32 * 32 * 32 = mul-le _ _ _ _ a mz in
    let c : min x x * min y y * min z z * n ≤ 32 * 32 * 32 * 4 = mul-le _ _ _ _ b hn in
    let d : min x x * min y y * min z z * n * width_of wide ≤ 32 * 32 * 32 * 4 * 8 = mul-le _ _ _ _ c (width_small wide) in
    omega (arith, d)
