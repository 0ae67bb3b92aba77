-- Codes, one bit of the axes after the other.
use Rattle.std.proofs.Common.{IsTrue, ◌↔◌, nat_eq, rules, ◌≡◌, ℕ, zero, suc, ◌+◌, ◌-◌, ◌*◌, ◌/◌, ◌%◌, ◌^◌, ◌<◌, ◌≤◌, nat_lt, Bool, true, false, if◌then◌else◌, List, [], ◌∷◌, length, map, slice_index, arith, refl, ap, ◌∙◌, sym, lit<, ⊎_elim, subst}
use Rattle.std.specs.Prelude.{filter, flat_map}
use Rattle.std.specs.List.{range_with_len}
use Rattle.std.proofs.Math.Nat.{mod-eq_of_lt, mul-le-mul_left}
use Rattle.std.proofs.Math.Pow.{pow_mono}
use Rattle.std.proofs.lemmas.Grind.{pow_more}
use Rattle.std.proofs.lemmas.Bool.{cases_lt, le-ltb}
use Rattle.std.proofs.lemmas.Nat.{mod_below, mod-pow-add, leading_length}
use Rattle.std.specs.Int.Count.{count_leading_zeros}
use borrow.Author.Tests.{ltb-false}
use Rattle.vol_base.specs.Grids.{is_pair, axes_of, pairs}
use Rattle.vol_spec.specs.Codes.{bit_of, number, code_of, IsInGrid}
use Rattle.morton_code.specs.declared.codes.Taken.{Taken}

abbrev Pair : Type 0
Pair = ℕ × ℕ

-- the number of the bits from bit i of the axes on
abbrev pub code_from : List ℕ → List ℕ → ℕ → ℕ
code_from size cell i = number (map (bit_of cell) (filter (is_pair size) (flat_map axes_of (range_with_len i (40 - i)))))

-- a bit below a number, where it counts
abbrev pub below : Bool → ℕ → ℕ → ℕ
below b bit n = if b then bit + 2 * n else n

one_more : (size cell : List ℕ) (p : Pair) (ps : List Pair) (b : Bool) → is_pair size p ≡ b
    → number (map (bit_of cell) (filter (is_pair size) (p ∷ ps))) ≡ below b (bit_of cell p) (number (map (bit_of cell) (filter (is_pair size) ps)))
one_more size cell p ps true e = rw e refl
one_more size cell p ps false e = rw e refl

three_more : (size cell : List ℕ) (i : ℕ) (ps : List Pair)
    → number (map (bit_of cell) (filter (is_pair size) ((i, 0) ∷ (i, 1) ∷ (i, 2) ∷ ps)))
    ≡ below (is_pair size (i, 0)) (bit_of cell (i, 0)) (below (is_pair size (i, 1)) (bit_of cell (i, 1)) (below (is_pair size (i, 2)) (bit_of cell (i, 2)) (number (map (bit_of cell) (filter (is_pair size) ps)))))
three_more size cell i ps =
    one_more size cell (i, 0) ((i, 1) ∷ (i, 2) ∷ ps) _ refl
    ∙ ap (below (is_pair size (i, 0)) (bit_of cell (i, 0))) (one_more size cell (i, 1) ((i, 2) ∷ ps) _ refl
    ∙ ap (below (is_pair size (i, 1)) (bit_of cell (i, 1))) (one_more size cell (i, 2) ps _ refl))

-- one bit of the three axes
pub code_from-more : (size cell : List ℕ) (i : ℕ) → i < 40
    → code_from size cell i ≡ below (is_pair size (i, 0)) (bit_of cell (i, 0)) (below (is_pair size (i, 1)) (bit_of cell (i, 1)) (below (is_pair size (i, 2)) (bit_of cell (i, 2)) (code_from size cell (i + 1))))
code_from-more size cell i h =
    let e : 40 - i ≡ suc (40 - (i + 1)) = omega arith in
    ap (λ n. number (map (bit_of cell) (filter (is_pair size) (flat_map axes_of (range_with_len i n))))) e
    ∙ three_more size cell i (flat_map axes_of (range_with_len (i + 1) (40 - (i + 1))))

-- the same in 64 bits
pub below_64 : (b : Bool) (bit c n : ℕ) → c ≡ n % 2 ^ 64 → (if b then (bit + 2 * c) % 2 ^ 64 else c) ≡ below b bit n % 2 ^ 64
below_64 true bit c n e = omega arith
below_64 false bit c n e = e

pub code_step : (size cell : List ℕ) (i c z y x : ℕ) → i < 40 → c ≡ code_from size cell (i + 1) % 2 ^ 64
    → z ≡ (if is_pair size (i, 2) then (bit_of cell (i, 2) + 2 * c) % 2 ^ 64 else c)
    → y ≡ (if is_pair size (i, 1) then (bit_of cell (i, 1) + 2 * z) % 2 ^ 64 else z)
    → x ≡ (if is_pair size (i, 0) then (bit_of cell (i, 0) + 2 * y) % 2 ^ 64 else y)
    → x ≡ code_from size cell i % 2 ^ 64
code_step size cell i c z y x h e ez ey ex =
    ex ∙ below_64 (is_pair size (i, 0)) (bit_of cell (i, 0)) y _ (ey ∙ below_64 (is_pair size (i, 1)) (bit_of cell (i, 1)) z _ (ez ∙ below_64 (is_pair size (i, 2)) (bit_of cell (i, 2)) c _ e))
    ∙ ap (λ n. n % 2 ^ 64) (sym (code_from-more size cell i h))

-- a number of so many bits
pub number-below : (cell : List ℕ) (ps : List Pair) → number (map (bit_of cell) ps) < 2 ^ length ps
number-below cell [] = lit< tt
number-below cell (p ∷ ps) =
    let rest = number-below cell ps in
    let bit : bit_of cell p < 2 = mod_below (slice_index cell p.1 / 2 ^ p.0) 2 (lit< tt) in
    let one_longer : length (p ∷ ps) ≡ length ps + 1 = omega arith in
    let more : 2 ^ length (p ∷ ps) ≡ 2 ^ length ps * 2 = ap (λ n. 2 ^ n) one_longer ∙ pow_more 2 (length ps) in
    omega arith

pub code-fits : (size cell : List ℕ) → length (pairs size) ≤ 64 → code_of size cell % 2 ^ 64 ≡ code_of size cell
code-fits size cell h =
    let low = number-below cell (pairs size) in
    let top : 2 ^ length (pairs size) ≤ 2 ^ 64 = pow_mono h in
    mod-eq_of_lt (omega arith)

-- what is taken back
abbrev pub taken : Bool → ℕ → ℕ → ℕ → Taken
taken b rest coordinate i = if b then (record { rest = rest / 2; coordinate = coordinate + 2 ^ i * (rest % 2) }) else record { rest = rest; coordinate = coordinate }

pub taken_one : (s c i rest got n : ℕ) → c < s → got ≡ c % 2 ^ i → rest ≡ below (nat_lt (2 ^ i) s) (c / 2 ^ i % 2) n
    → ((taken (nat_lt (2 ^ i) s) rest got i).rest ≡ n) × ((taken (nat_lt (2 ^ i) s) rest got i).coordinate ≡ c % 2 ^ (i + 1))
taken_one s c i rest got n in_size e r = by (nat_lt (2 ^ i) s) refl r
  where
    by : (b : Bool) → nat_lt (2 ^ i) s ≡ b → rest ≡ below b (c / 2 ^ i % 2) n
        → ((taken b rest got i).rest ≡ n) × ((taken b rest got i).coordinate ≡ c % 2 ^ (i + 1))
    by true t r =
        let bit : c / 2 ^ i % 2 < 2 = mod_below (c / 2 ^ i) 2 (lit< tt) in
        let low : rest % 2 ≡ c / 2 ^ i % 2 = omega arith in
        let up : c % 2 ^ (1 + i) ≡ (c / 2 ^ i % 2) * 2 ^ i + c % 2 ^ i = mod-pow-add c 1 i in
        let swap : 1 + i ≡ i + 1 = omega arith in
        let same : c % 2 ^ (1 + i) ≡ c % 2 ^ (i + 1) = ap (λ k. c % 2 ^ k) swap in
        let product : 2 ^ i * (rest % 2) ≡ (c / 2 ^ i % 2) * 2 ^ i = ap (λ k. 2 ^ i * k) low ∙ (omega arith) in
        (omega arith, omega arith)
    by false t r =
        let le : s ≤ 2 ^ i = ltb-false _ _ t in
        let more : 2 ^ i ≤ 2 ^ (i + 1) = pow_mono (omega arith) in
        let a : c % 2 ^ i ≡ c = mod-eq_of_lt (omega arith) in
        let b : c % 2 ^ (i + 1) ≡ c = mod-eq_of_lt (omega arith) in
        (r, e ∙ a ∙ sym b)

triple : (cell : List ℕ) → length cell ≡ 3 → cell ≡ slice_index cell 0 ∷ slice_index cell 1 ∷ slice_index cell 2 ∷ []
triple [] h = absurd (omega arith)
triple (a ∷ []) h = absurd (omega arith)
triple (a ∷ b ∷ []) h = absurd (omega arith)
triple (a ∷ b ∷ c ∷ []) h = refl
triple (a ∷ b ∷ c ∷ d ∷ ds) h = absurd (omega arith)

pub same_cells : (a b : List ℕ) → length a ≡ 3 → length b ≡ 3 → slice_index a 0 ≡ slice_index b 0 → slice_index a 1 ≡ slice_index b 1 → slice_index a 2 ≡ slice_index b 2 → a ≡ b
same_cells a b len_a len_b x y z =
    let e : slice_index a 0 ∷ slice_index a 1 ∷ slice_index a 2 ∷ [] ≡ slice_index b 0 ∷ slice_index b 1 ∷ slice_index b 2 ∷ [] = rw (x, y, z) refl in
    triple a len_a ∙ e ∙ sym (triple b len_b)

-- what the code of a cell was taken apart to, where no axis has further bits
pub taken_all : (size cell : List ℕ) (top x y z : ℕ) → ((axis : ℕ) → axis < 3 → slice_index size axis ≤ 2 ^ top) → IsInGrid size cell
    → x ≡ slice_index cell 0 % 2 ^ top → y ≡ slice_index cell 1 % 2 ^ top → z ≡ slice_index cell 2 % 2 ^ top
    → x ∷ y ∷ z ∷ [] ≡ cell
taken_all size cell top x y z sizes is ex ey ez =
    let whole = λ (a : ℕ) (h : a < 3). mod-eq_of_lt {n = slice_index cell a} {m = 2 ^ top} (omega (arith, is.below a h, sizes a h)) in
    let x_is : x ≡ slice_index cell 0 = ex ∙ whole 0 (lit< tt) in
    let y_is : y ≡ slice_index cell 1 = ey ∙ whole 1 (lit< tt) in
    let z_is : z ≡ slice_index cell 2 = ez ∙ whole 2 (lit< tt) in
    rw (x_is, y_is, z_is) (sym (triple cell is.axes))

pub taken_small : (b : Bool) (rest got i : ℕ) → got < 2 ^ i → (taken b rest got i).coordinate < 2 ^ (i + 1)
taken_small true rest got i h =
    let bit : rest % 2 < 2 = mod_below rest 2 (lit< tt) in
    let up : 2 ^ (i + 1) ≡ 2 ^ i * 2 = pow_more 2 i in
    let at_most : 2 ^ i * (rest % 2) ≤ 2 ^ i * 1 = mul-le-mul_left (2 ^ i) (omega arith) in
    omega arith
taken_small false rest got i h =
    let up : 2 ^ (i + 1) ≡ 2 ^ i * 2 = pow_more 2 i in
    omega arith

-- one bit of the three axes is taken
pub taken_step : (size cell : List ℕ) (i rest x y z : ℕ) (tx ty tz : Taken) → i < 40 → IsInGrid size cell
    → (rest ≡ code_from size cell i) × (x ≡ slice_index cell 0 % 2 ^ i) × (y ≡ slice_index cell 1 % 2 ^ i) × (z ≡ slice_index cell 2 % 2 ^ i)
    → tx ≡ taken (is_pair size (i, 0)) rest x i → ty ≡ taken (is_pair size (i, 1)) tx.rest y i → tz ≡ taken (is_pair size (i, 2)) ty.rest z i
    → (tz.rest ≡ code_from size cell (i + 1)) × (tx.coordinate ≡ slice_index cell 0 % 2 ^ (i + 1)) × (ty.coordinate ≡ slice_index cell 1 % 2 ^ (i + 1)) × (tz.coordinate ≡ slice_index cell 2 % 2 ^ (i + 1))
taken_step size cell i rest x y z tx ty tz h is was ex ey ez =
    let one = taken_one (slice_index size 0) (slice_index cell 0) i rest x _ (is.below 0 (lit< tt)) was.1 (was.0 ∙ code_from-more size cell i h) in
    let two = taken_one (slice_index size 1) (slice_index cell 1) i tx.rest y _ (is.below 1 (lit< tt)) was.2 (ap (λ (t : Taken). t.rest) ex ∙ one.0) in
    let three = taken_one (slice_index size 2) (slice_index cell 2) i ty.rest z _ (is.below 2 (lit< tt)) was.3 (ap (λ (t : Taken). t.rest) ey ∙ two.0) in
    (ap (λ (t : Taken). t.rest) ez ∙ three.0, ap (λ (t : Taken). t.coordinate) ex ∙ one.1, ap (λ (t : Taken). t.coordinate) ey ∙ two.1, ap (λ (t : Taken). t.coordinate) ez ∙ three.1)

pub same_number : (a b : ℕ) → (IsTrue (nat_eq a b) → a ≡ b) × (a ≡ b → IsTrue (nat_eq a b))
same_number a b = (λ t. search (rules, t), λ e. search (rules, e))

pub not_true : {P : Type 0} → (b : Bool) → IsTrue b ↔ P → b ≡ false → P → ⊥
not_true true h e p = cc
not_true false h e p = let t : false ≡ true = h.1 p in cc

pub code_from-0 : (size cell : List ℕ) → code_from size cell 0 ≡ code_of size cell
unfolding pairs
code_from-0 size cell = refl

-- how many bits the numbers below a size have
pub height : (size : ℕ) → 1 ≤ size → size ≤ 2 ^ 40 → (64 - count_leading_zeros 64 (size - 1) ≤ 40) × (size ≤ 2 ^ (64 - count_leading_zeros 64 (size - 1)))
height size some small =
    let long = leading_length 64 (size - 1) (omega arith) in
    let same : 64 - count_leading_zeros 64 (size - 1) ≡ long.0 = omega (arith, long.1) in
    let above : size ≤ 2 ^ long.0 = omega (arith, long.2) in
    let short : long.0 ≤ 40 = ⊎_elim (λ (lt : long.0 < 41). omega arith)
    (λ (ge : 41 ≤ long.0). let more : 2 ^ 41 ≤ 2 ^ long.0 = pow_mono ge in absurd (omega (arith, long.3)))
    (cases_lt long.0 41) in
    (omega arith, subst (λ n. size ≤ 2 ^ n) (sym same) above)

-- no axis has a bit that its size doesn't reach
not_pair : (size : List ℕ) (i top axis : ℕ) → top ≤ i → slice_index size axis ≤ 2 ^ top → is_pair size (i, axis) ≡ false
not_pair size i top axis h small =
    let more : 2 ^ top ≤ 2 ^ i = pow_mono h in
    le-ltb (2 ^ i) (slice_index size axis) (omega arith)

pub code_from-top : (size cell : List ℕ) (top i n : ℕ) → ((axis : ℕ) → axis < 3 → slice_index size axis ≤ 2 ^ top) → top ≤ i → i + n ≡ 40 → code_from size cell i ≡ 0
code_from-top size cell top i zero sizes h e =
    let end : i ≡ 40 = omega arith in
    ap (code_from size cell) end
code_from-top size cell top i (suc n) sizes h e =
    code_from-more size cell i (omega arith)
    ∙ ap (λ b. below b (bit_of cell (i, 0)) (below (is_pair size (i, 1)) (bit_of cell (i, 1)) (below (is_pair size (i, 2)) (bit_of cell (i, 2)) (code_from size cell (i + 1))))) (not_pair size i top 0 h (sizes 0 (lit< tt)))
    ∙ ap (λ b. below b (bit_of cell (i, 1)) (below (is_pair size (i, 2)) (bit_of cell (i, 2)) (code_from size cell (i + 1)))) (not_pair size i top 1 h (sizes 1 (lit< tt)))
    ∙ ap (λ b. below b (bit_of cell (i, 2)) (code_from size cell (i + 1))) (not_pair size i top 2 h (sizes 2 (lit< tt)))
    ∙ code_from-top size cell top (i + 1) n sizes (omega arith) (omega arith)
