-- What two boxes have in common, as one box.
use Rattle.std.proofs.Common.{◌≡◌, ◌↔◌, inl, inr, ℕ, ◌<◌, ℤ, pos, ◌+ℤ◌, ◌-ℤ◌, ◌≤ℤ◌, ◌<ℤ◌, nat_abs, Bool, true, false, List, [], ◌∷◌, length, refl, arith, lit<}
use Rattle.std.specs.Prelude.{int_lt, slice_index_or}
use Rattle.std.specs.Int.{int_max, int_min}
use Rattle.std.proofs.lemmas.Int.{clamps, ints}
use Rattle.vol_base.specs.declared.boxes.Box3.{Box3}
use Rattle.vol_base.specs.Boxes.{at, end, size, Covers, IsSome, Within}
use Rattle.voxel_raw.specs.Common.{IsCommon, IsOn}
use Rattle.voxel_raw.proofs.CommonSteps.{IsGap, common_box, common_is}
use Rattle.voxel_raw.proofs.Parts.{covers_some, lies_in}
use Rattle.chunk_grid.proofs.GridSteps.{three}
use Rattle.chunk_grid.proofs.MeetSteps.{int_lt-from}
use Rattle.size_laws.specs.Findings.{common}

gap_is : (low high : ℤ) → IsGap low high (nat_abs (int_max (pos 0) (high -ℤ low)))
gap_is low high = by (int_lt low high) refl
  where
    by : (b : Bool) → int_lt low high ≡ b → IsGap low high (nat_abs (int_max (pos 0) (high -ℤ low)))
    by true e = let h : low <ℤ high = int_lt-from low high e in inr (h, omega (arith, ints, clamps, h))
    by false e = let h : high ≤ℤ low = grind (arith, ints) in inl (h, omega (arith, ints, clamps, h))

common_on : (a b : Box3) (axis : ℕ) (x : ℤ) → IsOn (int_max (at a.begin axis) (at b.begin axis)) (nat_abs (int_max (pos 0) (int_min (end a axis) (end b axis) -ℤ int_max (at a.begin axis) (at b.begin axis)))) x
    ↔ (IsOn (at a.begin axis) (size a axis) x × IsOn (at b.begin axis) (size b axis) x)
common_on a b axis x =
    common_is (at a.begin axis) (size a axis) (at b.begin axis) (size b axis) (int_max (at a.begin axis) (at b.begin axis)) (int_min (end a axis) (end b axis)) _ refl refl
    (gap_is (int_max (at a.begin axis) (at b.begin axis)) (int_min (end a axis) (end b axis))) x

-- the box of what is common
pub common_both : (a b : Box3) → IsCommon a b (common a b)
common_both a b = common_box a b (common a b) (common_on a b 0) (common_on a b 1) (common_on a b 2)

pub common_left : (a b : Box3) → Within (common a b) a
common_left a b p covered = (((common_both a b).both p).0 covered).0

pub common_right : (a b : Box3) → Within (common a b) b
common_right a b p covered = (((common_both a b).both p).0 covered).1

pub common_covers : (a b : Box3) (p : List ℤ) → Covers a p → Covers b p → Covers (common a b) p
common_covers a b p ha hb = ((common_both a b).both p).1 (ha, hb)

pub common_some : (a b : Box3) (p : List ℤ) → Covers a p → Covers b p → IsSome (common a b)
common_some a b p ha hb = covers_some (common a b) p (common_covers a b p ha hb)

-- boxes that have the same positions, some of them, are one
three_places : (xs : List ℤ) (a b c : ℤ) → length xs ≡ 3 → slice_index_or xs 0 (pos 0) ≡ a → slice_index_or xs 1 (pos 0) ≡ b → slice_index_or xs 2 (pos 0) ≡ c → xs ≡ a ∷ b ∷ c ∷ []
three_places [] a b c len x y z = absurd (omega arith)
three_places (u ∷ []) a b c len x y z = absurd (omega arith)
three_places (u ∷ v ∷ []) a b c len x y z = absurd (omega arith)
three_places (u ∷ v ∷ w ∷ []) a b c len x y z = λ i. x i ∷ y i ∷ z i ∷ []
three_places (u ∷ v ∷ w ∷ t ∷ ts) a b c len x y z = absurd (omega arith)

same_begin : (a b : ℤ) (n m : ℕ) → a ≤ℤ b → b ≤ℤ a → a ≡ b
same_begin a b n m h k = omega (arith, ints)

same_size : (a b : ℤ) (n m : ℕ) → a ≡ b → (a +ℤ pos n) ≤ℤ (b +ℤ pos m) → (b +ℤ pos m) ≤ℤ (a +ℤ pos n) → n ≡ m
same_size a b n m e h k = omega (arith, ints)

module _ (a b : Box3) (some_a : IsSome a) (some_b : IsSome b) (ab : Within a b) (ba : Within b a) where
  begins : (axis : ℕ) → axis < 3 → at a.begin axis ≡ at b.begin axis
  begins axis l = same_begin _ _ 0 0 (lies_in b a some_b ba axis l).0 (lies_in a b some_a ab axis l).0

  sizes : (axis : ℕ) → axis < 3 → size a axis ≡ size b axis
  sizes axis l = same_size _ _ _ _ (begins axis l) (lies_in a b some_a ab axis l).1 (lies_in b a some_b ba axis l).1

pub common_same : (a b r : Box3) (p : List ℤ) → Covers a p → Covers b p → length r.begin ≡ 3 → length r.size ≡ 3 → IsCommon a b r → r ≡ common a b
common_same a b r p ha hb begin_len size_len is =
    let some_r : IsSome r = covers_some r p ((is.both p).1 (ha, hb)) in
    let some_c : IsSome (common a b) = common_some a b p ha hb in
    let rc : Within r (common a b) = λ q covered. let two = (is.both q).0 covered in common_covers a b q two.0 two.1 in
    let cr : Within (common a b) r = λ q covered. (is.both q).1 (common_left a b q covered, common_right a b q covered) in
    let begin : r.begin ≡ (common a b).begin =
    three_places r.begin _ _ _ begin_len (begins r (common a b) some_r some_c rc cr 0 (lit< tt)) (begins r (common a b) some_r some_c rc cr 1 (lit< tt)) (begins r (common a b) some_r some_c rc cr 2 (lit< tt)) in
    let long : r.size ≡ (common a b).size =
    three r.size _ _ _ size_len (sizes r (common a b) some_r some_c rc cr 0 (lit< tt)) (sizes r (common a b) some_r some_c rc cr 1 (lit< tt)) (sizes r (common a b) some_r some_c rc cr 2 (lit< tt)) in
    λ i. record { begin = begin i; size = long i }
