-- Two cells of a grid with one code are one cell.
use Rattle.std.proofs.Common.{◌≡◌, ℕ, zero, suc, ◌+◌, ◌/◌, ◌%◌, ◌^◌, ◌<◌, ◌≤◌, nat_lt, Bool, true, false, List, slice_index, arith, refl, ap, ◌∙◌, sym, lit<}
use Rattle.std.proofs.Math.Nat.{div-eq_of_lt, div-div-eq-div-mul}
use Rattle.std.proofs.lemmas.Grind.{pow_more}
use Rattle.std.proofs.lemmas.Nat.{mod_below}
use borrow.Author.Tests.{ltb-false}
use Rattle.vol_base.specs.Grids.{is_pair, AreSizes}
use Rattle.vol_spec.specs.Codes.{bit_of, code_of, IsInGrid}
use Rattle.morton_code.proofs.Steps.{code_from, code_from-more, code_from-0, below, same_cells}
use Rattle.vol_base.proofs.Axes.{by_axis}

-- a number tells the lowest bit, where it counts, and what is above it
split : (t : Bool) (bit other n m : ℕ) → bit < 2 → other < 2 → below t bit n ≡ below t other m → (t ≡ true → bit ≡ other) × (n ≡ m)
split true bit other n m b o e = (λ _. omega arith, omega arith)
split false bit other n m b o e = (λ t. cc, e)

-- two coordinates are equal from a bit on where they are from the next bit on, and at this bit if it counts
joined : (s c d i : ℕ) → c < s → d < s → (nat_lt (2 ^ i) s ≡ true → c / 2 ^ i % 2 ≡ d / 2 ^ i % 2) → c / 2 ^ (i + 1) ≡ d / 2 ^ (i + 1) → c / 2 ^ i ≡ d / 2 ^ i
joined s c d i below_c below_d bit above = by (nat_lt (2 ^ i) s) refl
  where
    halves : (n : ℕ) → n / 2 ^ (i + 1) ≡ n / 2 ^ i / 2
    halves n = ap (λ k. n / k) (pow_more 2 i) ∙ sym (div-div-eq-div-mul n (2 ^ i) 2)

    by : (t : Bool) → nat_lt (2 ^ i) s ≡ t → c / 2 ^ i ≡ d / 2 ^ i
    by true t =
        let low : c / 2 ^ i % 2 ≡ d / 2 ^ i % 2 = bit t in
        let high : c / 2 ^ i / 2 ≡ d / 2 ^ i / 2 = sym (halves c) ∙ above ∙ halves d in
        omega arith
    by false t =
        let le : s ≤ 2 ^ i = ltb-false _ _ t in
        div-eq_of_lt (omega arith) ∙ sym (div-eq_of_lt (omega arith))

bit_below : (cell : List ℕ) (p : ℕ × ℕ) → bit_of cell p < 2
bit_below cell p = mod_below (slice_index cell p.1 / 2 ^ p.0) 2 (lit< tt)

-- equal numbers from bit i on come from equal coordinates from bit i on
same_from : (size a b : List ℕ) (i n : ℕ) → AreSizes size → IsInGrid size a → IsInGrid size b → i + n ≡ 40 → code_from size a i ≡ code_from size b i
    → (axis : ℕ) → axis < 3 → slice_index a axis / 2 ^ i ≡ slice_index b axis / 2 ^ i
same_from size a b i zero sizes is_a is_b e same axis h =
    let end : i ≡ 40 = omega arith in
    let none : (cell : List ℕ) → IsInGrid size cell → slice_index cell axis / 2 ^ i ≡ 0 = λ cell is.
    ap (λ k. slice_index cell axis / 2 ^ k) end ∙ div-eq_of_lt (omega (arith, is.below axis h, sizes axis h)) in
    none a is_a ∙ sym (none b is_b)
same_from size a b i (suc n) sizes is_a is_b e same axis h =
    let here = sym (code_from-more size a i (omega arith)) ∙ same ∙ code_from-more size b i (omega arith) in
    let x = split (is_pair size (i, 0)) _ _ _ _ (bit_below a (i, 0)) (bit_below b (i, 0)) here in
    let y = split (is_pair size (i, 1)) _ _ _ _ (bit_below a (i, 1)) (bit_below b (i, 1)) x.1 in
    let z = split (is_pair size (i, 2)) _ _ _ _ (bit_below a (i, 2)) (bit_below b (i, 2)) y.1 in
    let above = same_from size a b (i + 1) n sizes is_a is_b (omega arith) z.1 in
    by_axis (λ axis. slice_index a axis / 2 ^ i ≡ slice_index b axis / 2 ^ i)
    (joined _ _ _ i (is_a.below 0 (lit< tt)) (is_b.below 0 (lit< tt)) x.0 (above 0 (lit< tt)))
    (joined _ _ _ i (is_a.below 1 (lit< tt)) (is_b.below 1 (lit< tt)) y.0 (above 1 (lit< tt)))
    (joined _ _ _ i (is_a.below 2 (lit< tt)) (is_b.below 2 (lit< tt)) z.0 (above 2 (lit< tt)))
    axis h

pub one_cell : (size a b : List ℕ) → AreSizes size → IsInGrid size a → IsInGrid size b → code_of size a ≡ code_of size b → a ≡ b
one_cell size a b sizes is_a is_b same =
    let all = same_from size a b 0 40 sizes is_a is_b refl (code_from-0 size a ∙ same ∙ sym (code_from-0 size b)) in
    let whole = λ (axis : ℕ) (h : axis < 3). let t : slice_index a axis ≡ slice_index b axis = omega (arith, all axis h) in t in
    same_cells a b is_a.axes is_b.axes (whole 0 (lit< tt)) (whole 1 (lit< tt)) (whole 2 (lit< tt))
