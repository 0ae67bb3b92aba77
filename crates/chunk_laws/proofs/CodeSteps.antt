-- Two cells of a grid have two codes.
use Rattle.std.proofs.Common.{◌≡◌, ℕ, zero, suc, ◌+◌, ◌/◌, ◌%◌, ◌^◌, ◌<◌, ◌≤◌, nat_lt, Bool, true, false, List, slice_index, arith, refl, ap, ◌∙◌, sym, subst, lit<, add-one}
use Rattle.std.proofs.Math.Nat.{div-div-eq-div-mul, div-one, pow-suc, pow-succ'}
use Rattle.std.proofs.lemmas.Bool.Decides.{nat_tests}
use Rattle.std.proofs.lemmas.Nat.{mod_below}
use Rattle.vol_base.specs.Grids.{AreSizes, is_pair}
use Rattle.vol_spec.specs.Codes.{IsInGrid, bit_of, code_of}
use Rattle.morton_code.proofs.Steps.{below, code_from, code_from-more, code_from-0, same_cells}

-- a number with a bit below it tells both
below_tells : (b : Bool) (x y m n : ℕ) → x < 2 → y < 2 → below b x m ≡ below b y n → (b ≡ true → x ≡ y) × (m ≡ n)
below_tells true x y m n hx hy e = (λ t. omega arith, omega arith)
below_tells false x y m n hx hy e = (λ t. absurd (cc t), e)

bit_small : (cell : List ℕ) (p : ℕ × ℕ) → bit_of cell p < 2
bit_small cell p = mod_below (slice_index cell p.1 / 2 ^ p.0) 2 (lit< tt)

-- on the three axes
record SameBits (size a b : List ℕ) (i : ℕ) : Type 0 where
  x : is_pair size (i, 0) ≡ true → bit_of a (i, 0) ≡ bit_of b (i, 0)
  y : is_pair size (i, 1) ≡ true → bit_of a (i, 1) ≡ bit_of b (i, 1)
  z : is_pair size (i, 2) ≡ true → bit_of a (i, 2) ≡ bit_of b (i, 2)
  rest : code_from size a (i + 1) ≡ code_from size b (i + 1)

same_bits : (size a b : List ℕ) (i : ℕ) → i < 40 → code_from size a i ≡ code_from size b i → SameBits size a b i
same_bits size a b i h e =
    let parts = sym (code_from-more size a i h) ∙ e ∙ code_from-more size b i h in
    let one = below_tells (is_pair size (i, 0)) (bit_of a (i, 0)) (bit_of b (i, 0)) _ _ (bit_small a (i, 0)) (bit_small b (i, 0)) parts in
    let two = below_tells (is_pair size (i, 1)) (bit_of a (i, 1)) (bit_of b (i, 1)) _ _ (bit_small a (i, 1)) (bit_small b (i, 1)) one.1 in
    let three = below_tells (is_pair size (i, 2)) (bit_of a (i, 2)) (bit_of b (i, 2)) _ _ (bit_small a (i, 2)) (bit_small b (i, 2)) two.1 in
    record { x = one.0; y = two.0; z = three.0; rest = three.1 }

same_from : (size a b : List ℕ) → code_from size a 0 ≡ code_from size b 0 → (i : ℕ) → i ≤ 40 → code_from size a i ≡ code_from size b i
same_from size a b e zero h = e
same_from size a b e (suc i) h =
    let was : code_from size a i ≡ code_from size b i = same_from size a b e i (omega arith) in
    let bits : SameBits size a b i = same_bits size a b i (omega arith) was in
    subst (λ k. code_from size a k ≡ code_from size b k) (add-one i) bits.rest

-- a number is known by its bits
bits_tell : (n x y : ℕ) → x < 2 ^ n → y < 2 ^ n → ((i : ℕ) → i < n → x / 2 ^ i % 2 ≡ y / 2 ^ i % 2) → x ≡ y
bits_tell zero x y h k same = omega arith
bits_tell (suc n) x y h k same =
    let up = pow-suc 2 n in
    let low : x % 2 ≡ y % 2 = ap (λ q. q % 2) (sym (div-one x)) ∙ same 0 (omega arith) ∙ ap (λ q. q % 2) (div-one y) in
    let high : x / 2 ≡ y / 2 = bits_tell n (x / 2) (y / 2) (omega arith) (omega arith) (λ i l.
    ap (λ q. q % 2) (one_on x i) ∙ same (suc i) (omega arith) ∙ ap (λ q. q % 2) (sym (one_on y i))) in
    omega arith
  where
    one_on : (x i : ℕ) → x / 2 / 2 ^ i ≡ x / 2 ^ suc i
    one_on x i = div-div-eq-div-mul x 2 (2 ^ i) ∙ ap (λ p. x / p) (sym (pow-succ' 2 i))

none_there : (x m : ℕ) → x < m → x / m ≡ 0
none_there x m h = grind arith

-- coordinates below a size with the same bits, of those that count
axis_tells : (size x y : ℕ) → size ≤ 2 ^ 40 → x < size → y < size → ((i : ℕ) → i < 40 → nat_lt (2 ^ i) size ≡ true → x / 2 ^ i % 2 ≡ y / 2 ^ i % 2) → x ≡ y
axis_tells size x y limit hx hy same = bits_tell 40 x y (omega arith) (omega arith) (λ i h. by i h (nat_lt (2 ^ i) size) refl)
  where
    by : (i : ℕ) → i < 40 → (t : Bool) → nat_lt (2 ^ i) size ≡ t → x / 2 ^ i % 2 ≡ y / 2 ^ i % 2
    by i h true e = same i h e
    by i h false e =
        let le : size ≤ 2 ^ i = grind (arith, nat_tests) in
        let zx : x / 2 ^ i ≡ 0 = none_there x (2 ^ i) (omega arith) in
        let zy : y / 2 ^ i ≡ 0 = none_there y (2 ^ i) (omega arith) in
        ap (λ q. q % 2) (zx ∙ sym zy)

pub code_of-tells : (size a b : List ℕ) → AreSizes size → IsInGrid size a → IsInGrid size b → code_of size a ≡ code_of size b → a ≡ b
code_of-tells size a b sizes ha hb e =
    let zero_same : code_from size a 0 ≡ code_from size b 0 = code_from-0 size a ∙ e ∙ sym (code_from-0 size b) in
    let bits = λ (i : ℕ) (h : i < 40). same_bits size a b i h (same_from size a b zero_same i (omega arith)) in
    same_cells a b ha.axes hb.axes
    (axis_tells (slice_index size 0) (slice_index a 0) (slice_index b 0) (sizes 0 (lit< tt)).1 (ha.below 0 (lit< tt)) (hb.below 0 (lit< tt)) (λ i h. (bits i h).x))
    (axis_tells (slice_index size 1) (slice_index a 1) (slice_index b 1) (sizes 1 (lit< tt)).1 (ha.below 1 (lit< tt)) (hb.below 1 (lit< tt)) (λ i h. (bits i h).y))
    (axis_tells (slice_index size 2) (slice_index a 2) (slice_index b 2) (sizes 2 (lit< tt)).1 (ha.below 2 (lit< tt)) (hb.below 2 (lit< tt)) (λ i h. (bits i h).z))
