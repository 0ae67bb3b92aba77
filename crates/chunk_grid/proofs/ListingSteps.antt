-- What the list of the cells that meet a part has in it.
use Rattle.std.proofs.Common.{◌≡◌, ◌≢◌, ℕ, zero, suc, ◌+◌, ◌-◌, ◌*◌, ◌/◌, ◌%◌, ◌<◌, ◌≤◌, List, [], ◌∷◌, Bool, true, false, cond, map, get_or, refl, ap, ◌∙◌, sym, subst, arith, lit<}
use Rattle.std.specs.Prelude.{filter, ◌↔◌, IsTrue, All, AllPairs, Contains, ℤ, ◌≤ℤ◌, ◌<ℤ◌, int_lt, slice_index}
use Rattle.std.specs.Int.{int_max, int_min}
use Rattle.std.specs.List.{range_with_len}
use Rattle.std.proofs.lemmas.Bool.{and_from, and_parts}
use Rattle.std.proofs.lemmas.Int.{ints, clamps}
use Rattle.std.proofs.lemmas.Nat.{mod_below, div_below, div-mul-add, mod-mul-add, mul-add-lt}
use Rattle.std.proofs.Math.Nat.{mod-add-div}
use Rattle.std.proofs.lemmas.List.Elements.{All-filter, All-weaker, filter_passes}
use Rattle.std.proofs.lemmas.List.Kept.{AllPairs-filter}
use Rattle.std.proofs.lemmas.List.FromFn.{length-map-range_with_len, get_or-map-range_with_len}
use Rattle.vol_base.proofs.Axes.{by_axis}
use Rattle.vol_base.specs.declared.boxes.Box3.{Box3}
use Rattle.vol_base.specs.Boxes.{at, end, on_axes, Covers}
use Rattle.vol_spec.specs.Grid.{whole, Inside, cells_on, IsCell, cell_box, cell_at, Meets, meets, meets_on, numbers_on, cells_in}
use Rattle.vol_spec.specs.declared.scale.Scale.{Scale}
use Rattle.chunk_grid.specs.Walks.{cell_by_number}
use Rattle.chunk_grid.proofs.AxisSteps.{counted}
use Rattle.chunk_grid.proofs.MeetSteps.{overlaps, overlap_from, is_true, true_from}
use Rattle.chunk_grid.proofs.BlockSteps.{product_numbers}
use Rattle.chunk_grid.proofs.GridSteps.{three, cell_at-IsCell, cell_at-Covers, cell_at-only}

-- one axis of two boxes with a position in common
axis_true : (a b c d p : ℤ) → a ≤ℤ p → p <ℤ c → b ≤ℤ p → p <ℤ d → int_lt (int_max a b) (int_min c d) ≡ true
axis_true a b c d p ap pc bp pd = overlaps a b c d (omega (arith, ints)) (omega (arith, ints)) (omega (arith, ints)) (omega (arith, ints))

-- and a position from the test
axis_from : (a b c d : ℤ) → int_lt (int_max a b) (int_min c d) ≡ true → ((a ≤ℤ int_max a b) × (int_max a b <ℤ c)) × ((b ≤ℤ int_max a b) × (int_max a b <ℤ d))
axis_from a b c d e =
    let h = overlap_from a b c d e in
    let ac = h.0 in
    let ad = h.1 in
    let bc = h.2 in
    let bd = h.3 in
    ((omega (arith, ints, clamps), omega (arith, ints, clamps)), (omega (arith, ints, clamps), omega (arith, ints, clamps)))

pub meets-true : (s : Scale) (b : Box3) (cell : List ℕ) → Meets s cell b → meets s b cell ≡ true
meets-true s b cell (p, own, part) =
    let on : (axis : ℕ) → axis < 3 → meets_on (cell_box s cell) b axis ≡ true =
    λ axis l. axis_true (at (cell_box s cell).begin axis) (at b.begin axis) (end (cell_box s cell) axis) (end b axis) (at p axis) (own axis l).0 (own axis l).1 (part axis l).0 (part axis l).1 in
    and_from _ _ (on 0 (lit< tt)) (and_from _ _ (on 1 (lit< tt)) (and_from _ _ (on 2 (lit< tt)) refl))

pub Meets-from : (s : Scale) (b : Box3) (cell : List ℕ) → meets s b cell ≡ true → Meets s cell b
Meets-from s b cell e =
    let first = and_parts _ _ e in
    let second = and_parts _ _ first.1 in
    let third = and_parts _ _ second.1 in
    let x = axis_from (at (cell_box s cell).begin 0) (at b.begin 0) (end (cell_box s cell) 0) (end b 0) first.0 in
    let y = axis_from (at (cell_box s cell).begin 1) (at b.begin 1) (end (cell_box s cell) 1) (end b 1) second.0 in
    let z = axis_from (at (cell_box s cell).begin 2) (at b.begin 2) (end (cell_box s cell) 2) (end b 2) third.0 in
    let p : List ℤ = on_axes (λ axis. int_max (at (cell_box s cell).begin axis) (at b.begin axis)) in (
      p,
      by_axis (λ axis. (at (cell_box s cell).begin axis ≤ℤ at p axis) × (at p axis <ℤ end (cell_box s cell) axis)) x.0 y.0 z.0,
      by_axis (λ axis. (at b.begin axis ≤ℤ at p axis) × (at p axis <ℤ end b axis)) x.1 y.1 z.1,
    )

-- the cells of the grid by their numbers
abbrev pub whole_count : Scale → List ℕ
whole_count s = cells_on s 0 ∷ cells_on s 1 ∷ cells_on s 2 ∷ []

abbrev pub all_cells : Scale → ℕ → List ℕ
all_cells s = cell_by_number (0 ∷ 0 ∷ 0 ∷ []) (whole_count s)

abbrev pub all_count : Scale → ℕ
all_count s = cells_on s 0 * cells_on s 1 * cells_on s 2

pub numbered : (s : Scale) → numbers_on (cells_on s) ≡ map (all_cells s) (range_with_len 0 (all_count s))
numbered s = product_numbers 0 0 0 (cells_on s 0) (cells_on s 1) (cells_on s 2)

pub some_cells : (s : Scale) (axis : ℕ) → axis < 3 → 1 ≤ (slice_index s.size axis + slice_index s.chunk axis - 1) / slice_index s.chunk axis
some_cells s axis l = (counted (slice_index s.size axis) (slice_index s.chunk axis) (s.size_ok axis l).0 (s.chunk_ok axis l).0).0

-- a list over numbers
All-numbers : {X : Type 0} (P : X → Type 0) (f : ℕ → X) (n : ℕ) → ((i : ℕ) → i < n → P (f i)) → All P (map f (range_with_len 0 n))
All-numbers P f n h k d l =
    let below : k < n = omega (arith, l, length-map-range_with_len f 0 n) in
    let at_k : 0 + k ≡ k = omega arith in
    subst P (sym (get_or-map-range_with_len f 0 n k k d below at_k)) (h k below)

pub AllPairs-numbers : {X : Type 0} (R : X → X → Type 0) (f : ℕ → X) (n : ℕ) → ((i j : ℕ) → i < j → j < n → R (f i) (f j)) → AllPairs R (map f (range_with_len 0 n))
AllPairs-numbers R f n h i j d l m =
    let below : j < n = omega (arith, m, length-map-range_with_len f 0 n) in
    let at_i : 0 + i ≡ i = omega arith in
    let at_j : 0 + j ≡ j = omega arith in
    subst (λ x. R x (get_or (map f (range_with_len 0 n)) j d)) (sym (get_or-map-range_with_len f 0 n i i d (omega arith) at_i))
    (subst (R (f i)) (sym (get_or-map-range_with_len f 0 n j j d below at_j)) (h i j l below))

Contains-numbers : {X : Type 0} (f : ℕ → X) (n i : ℕ) (x : X) → i < n → f i ≡ x → Contains (map f (range_with_len 0 n)) x
Contains-numbers f n i x l e =
    let at_i : 0 + i ≡ i = omega arith in
    (i, omega (arith, l, length-map-range_with_len f 0 n), get_or-map-range_with_len f 0 n i i x l at_i ∙ e)

pub Contains-cons : {X : Type 0} (y : X) (xs : List X) (x : X) → Contains xs x → Contains (y ∷ xs) x
Contains-cons y xs x (k, l, e) = (suc k, omega arith, e)

kept : {X : Type 0} (b : Bool) (y : X) (xs : List X) (x : X) → Contains xs x → Contains (cond b (y ∷ xs) xs) x
kept true y xs x h = Contains-cons y xs x h
kept false y xs x h = h

pub Contains-filter : {X : Type 0} (p : X → Bool) (xs : List X) (x : X) → Contains xs x → p x ≡ true → Contains (filter p xs) x
Contains-filter p [] x (k, l, e) h = absurd (omega arith)
Contains-filter p (y ∷ ys) x (zero, l, e) h = rw (e, h) (zero, omega arith, refl)
Contains-filter p (y ∷ ys) x (suc k, l, e) h = kept (p y) y (filter p ys) x (Contains-filter p ys x (k, omega arith, e) h)

-- the number of a cell
pub parts_below : (m n o i : ℕ) → 0 < m → 0 < n → i < m * n * o → (i % m < m) × (i / m % n < n) × (i / m / n < o)
parts_below m n o i hm hn h =
    let row : i / m < o * n = div_below i m (o * n) hm (omega arith) in
    (mod_below i m hm, mod_below (i / m) n hn, div_below (i / m) n o hn row)

number_of : (m n o x y z : ℕ) → x < m → y < n → z < o → (((z * n + y) * m + x) % m ≡ x) × (((z * n + y) * m + x) / m % n ≡ y) × (((z * n + y) * m + x) / m / n ≡ z) × ((z * n + y) * m + x < m * n * o)
number_of m n o x y z hx hy hz =
    let row : ((z * n + y) * m + x) / m ≡ z * n + y = div-mul-add (z * n + y) m x hx in
    let plane : z * n + y < n * o = mul-add-lt z n y o hz hy in
    let all : (z * n + y) * m + x < m * (n * o) = mul-add-lt (z * n + y) m x (n * o) plane hx in
    let turn : m * (n * o) ≡ m * n * o = omega arith in
    (mod-mul-add (z * n + y) m x hx, ap (λ q. q % n) row ∙ mod-mul-add z n y hy, ap (λ q. q / n) row ∙ div-mul-add z n y hy, omega arith)

from_parts : (m n i j : ℕ) → 0 + i % m ≡ 0 + j % m → 0 + i / m % n ≡ 0 + j / m % n → 0 + i / m / n ≡ 0 + j / m / n → i ≡ j
from_parts m n i j ex ey ez =
    let x : i % m ≡ j % m = omega arith in
    let y : i / m % n ≡ j / m % n = omega arith in
    let z : i / m / n ≡ j / m / n = omega arith in
    let row : i / m ≡ j / m = sym (mod-add-div (i / m) n) ∙ ap (λ q. q + n * (i / m / n)) y ∙ ap (λ q. j / m % n + n * q) z ∙ mod-add-div (j / m) n in
    sym (mod-add-div i m) ∙ ap (λ q. q + m * (i / m)) x ∙ ap (λ q. j % m + m * q) row ∙ mod-add-div j m

pub All-numbers_on : (s : Scale) → All (IsCell s) (numbers_on (cells_on s))
All-numbers_on s =
    subst (All (IsCell s)) (sym (numbered s)) (All-numbers (IsCell s) (all_cells s) (all_count s) (λ i h.
    let parts = parts_below (cells_on s 0) (cells_on s 1) (cells_on s 2) i (some_cells s 0 (lit< tt)) (some_cells s 1 (lit< tt)) h in
    let x : 0 + i % cells_on s 0 < cells_on s 0 = let l = parts.0 in omega arith in
    let y : 0 + i / cells_on s 0 % cells_on s 1 < cells_on s 1 = let l = parts.1 in omega arith in
    let z : 0 + i / cells_on s 0 / cells_on s 1 < cells_on s 2 = let l = parts.2 in omega arith in
    record { axes = refl; below = by_axis (λ axis. slice_index (all_cells s i) axis < cells_on s axis) x y z }))

pub AllPairs-numbers_on : (s : Scale) → AllPairs (λ a b. a ≢ b) (numbers_on (cells_on s))
AllPairs-numbers_on s =
    subst (AllPairs (λ a b. a ≢ b)) (sym (numbered s)) (AllPairs-numbers (λ a b. a ≢ b) (all_cells s) (all_count s) (λ i j l h e.
    let same : i ≡ j = from_parts (cells_on s 0) (cells_on s 1) i j (ap (λ c. slice_index c 0) e) (ap (λ c. slice_index c 1) e) (ap (λ c. slice_index c 2) e) in
    omega arith))

pub Contains-numbers_on : (s : Scale) (cell : List ℕ) → IsCell s cell → Contains (numbers_on (cells_on s)) cell
Contains-numbers_on s cell h =
    let x : ℕ = slice_index cell 0 in
    let y : ℕ = slice_index cell 1 in
    let z : ℕ = slice_index cell 2 in
    let m : ℕ = cells_on s 0 in
    let n : ℕ = cells_on s 1 in
    let i : ℕ = (z * n + y) * m + x in
    let parts = number_of m n (cells_on s 2) x y z (h.below 0 (lit< tt)) (h.below 1 (lit< tt)) (h.below 2 (lit< tt)) in
    let ex : x ≡ 0 + i % m = let e = parts.0 in omega arith in
    let ey : y ≡ 0 + i / m % n = let e = parts.1 in omega arith in
    let ez : z ≡ 0 + i / m / n = let e = parts.2 in omega arith in
    subst (λ cs. Contains cs cell) (sym (numbered s)) (Contains-numbers (all_cells s) (all_count s) i cell parts.3 (sym (three cell _ _ _ h.axes ex ey ez)))

-- what the list tells
pub Meets-meets : (s : Scale) (b : Box3) (cell : List ℕ) → Meets s cell b ↔ IsTrue (meets s b cell)
Meets-meets s b cell = (λ h. is_true _ (meets-true s b cell h), λ t. Meets-from s b cell (true_from _ t))

pub cells_in-IsCell : (s : Scale) (b : Box3) → All (IsCell s) (cells_in s b)
cells_in-IsCell s b = All-filter (meets s b) (IsCell s) (numbers_on (cells_on s)) (All-numbers_on s)

pub cells_in-Meets : (s : Scale) (b : Box3) → All (λ cell. Meets s cell b) (cells_in s b)
cells_in-Meets s b = All-weaker (λ cell. meets s b cell ≡ true) (λ cell. Meets s cell b) (Meets-from s b) (cells_in s b) (filter_passes (meets s b) (numbers_on (cells_on s)))

pub cells_in-Contains : (s : Scale) (b : Box3) (cell : List ℕ) → IsCell s cell → Meets s cell b → Contains (cells_in s b) cell
cells_in-Contains s b cell h m = Contains-filter (meets s b) (numbers_on (cells_on s)) cell (Contains-numbers_on s cell h) (meets-true s b cell m)

pub cells_in-once : (s : Scale) (b : Box3) → AllPairs (λ a c. a ≢ c) (cells_in s b)
cells_in-once s b = AllPairs-filter (λ a c. a ≢ c) (meets s b) (numbers_on (cells_on s)) (AllPairs-numbers_on s)

pub cells_in-covered : (s : Scale) (b : Box3) (p : List ℤ) → Inside s b → Covers b p → Contains (cells_in s b) (cell_at s p)
cells_in-covered s b p h covers =
    let in_whole : Covers (whole s) p = h.within p covers in
    cells_in-Contains s b (cell_at s p) (cell_at-IsCell s p in_whole) (p, cell_at-Covers s p in_whole, covers)

pub cells_in-only : (s : Scale) (b : Box3) (p : List ℤ) → Inside s b → Covers b p → All (λ cell. Covers (cell_box s cell) p ↔ (cell ≡ cell_at s p)) (cells_in s b)
cells_in-only s b p h covers =
    All-weaker (IsCell s) (λ cell. Covers (cell_box s cell) p ↔ (cell ≡ cell_at s p))
    (λ cell is. (λ own. cell_at-only s p cell is.axes own, λ e. subst (λ c. Covers (cell_box s c) p) (sym e) (cell_at-Covers s p (h.within p covers))))
    (cells_in s b) (cells_in-IsCell s b)
