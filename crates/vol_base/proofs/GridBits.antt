-- The bits of a grid's codes, one bit of the axes after the other.
use Rattle.std.proofs.Common.{◌≡◌, ℕ, suc, ◌+◌, ◌-◌, ◌<◌, ◌≤◌, Bool, true, false, if◌then◌else◌, List, ◌∷◌, length, arith, refl, ap, ◌∙◌, lit≤}
use Rattle.std.specs.Prelude.{filter, flat_map}
use Rattle.std.specs.List.{range_with_len}
use Rattle.vol_base.specs.Grids.{is_pair, axes_of, pairs}

-- how many bits there are from bit i of the axes on
abbrev pub bits_from : List ℕ → ℕ → ℕ
bits_from size i = length (filter (is_pair size) (flat_map axes_of (range_with_len i (40 - i))))

one_counted : (size : List ℕ) (p : ℕ × ℕ) (ps : List (ℕ × ℕ)) (b : Bool) → is_pair size p ≡ b
    → length (filter (is_pair size) (p ∷ ps)) ≡ (if b then 1 else 0) + length (filter (is_pair size) ps)
one_counted size p ps true e = rw e (omega arith)
one_counted size p ps false e = rw e (omega arith)

pub bits_from-more : (size : List ℕ) (i : ℕ) → i < 40
    → bits_from size i ≡ (if is_pair size (i, 0) then 1 else 0) + ((if is_pair size (i, 1) then 1 else 0) + ((if is_pair size (i, 2) then 1 else 0) + bits_from size (i + 1)))
bits_from-more size i h =
    let e : 40 - i ≡ suc (40 - (i + 1)) = omega arith in
    let ps : List (ℕ × ℕ) = flat_map axes_of (range_with_len (i + 1) (40 - (i + 1))) in
    ap (λ n. length (filter (is_pair size) (flat_map axes_of (range_with_len i n)))) e
    ∙ one_counted size (i, 0) ((i, 1) ∷ (i, 2) ∷ ps) _ refl
    ∙ ap (λ n. (if is_pair size (i, 0) then 1 else 0) + n) (one_counted size (i, 1) ((i, 2) ∷ ps) _ refl
    ∙ ap (λ n. (if is_pair size (i, 1) then 1 else 0) + n) (one_counted size (i, 2) ps _ refl))

pub at_most_one : (b : Bool) → (if b then 1 else 0) ≤ 1
at_most_one true = lit≤ tt
at_most_one false = lit≤ tt

pub bits_step : (size : List ℕ) (i count total x y z : ℕ) → i < 40 → count + bits_from size i ≡ total
    → x ≡ (if is_pair size (i, 0) then 1 else 0) → y ≡ (if is_pair size (i, 1) then 1 else 0) → z ≡ (if is_pair size (i, 2) then 1 else 0)
    → (count + (x + y + z) + bits_from size (i + 1) ≡ total) × (x ≤ 1) × (y ≤ 1) × (z ≤ 1)
bits_step size i count total x y z h was ex ey ez =
    let more : bits_from size i ≡ x + (y + (z + bits_from size (i + 1))) = rw (ex, ey, ez) (bits_from-more size i h) in
    (omega arith, rw ex (at_most_one (is_pair size (i, 0))), rw ey (at_most_one (is_pair size (i, 1))), rw ez (at_most_one (is_pair size (i, 2))))

pub bits_from-0 : (size : List ℕ) → bits_from size 0 ≡ length (pairs size)
unfolding pairs
bits_from-0 size = refl
