-- Lists of cells in the order of the grid.
use Rattle.std.proofs.Common.{◌≡◌, ℕ, zero, suc, ◌+◌, ◌*◌, ◌/◌, ◌%◌, ◌<◌, ◌≤◌, List, [], ◌∷◌, Bool, true, lit<, refl, ap, ◌∙◌, sym, subst, arith}
use Rattle.std.specs.Prelude.{filter, slice_index, All, AllPairs, Contains}
use Rattle.std.proofs.Math.Nat.{mod-add-div, mul-le-mul_left}
use Rattle.std.proofs.lemmas.List.Elements.{All-filter, All-contains, filter_passes}
use Rattle.std.proofs.lemmas.List.Kept.{AllPairs-filter}
use Rattle.vol_base.specs.declared.boxes.Box3.{Box3}
use Rattle.vol_spec.specs.Grid.{cells_on, IsCell, numbers_on}
use Rattle.vol_spec.specs.StoredCells.{cell_number, AreInOrder, met, met_cells}
use Rattle.vol_spec.specs.declared.scale.Scale.{Scale}
use Rattle.chunk_grid.proofs.GridSteps.{three}
use Rattle.chunk_grid.proofs.ListingSteps.{Contains-cons, all_cells, all_count, numbered, AllPairs-numbers, Contains-filter, All-numbers_on, Contains-numbers_on}

-- the number of a block's n-th cell is n
numbered_cell : (m n i : ℕ) → (0 + i % m) + m * ((0 + i / m % n) + n * (0 + i / m / n)) ≡ i
numbered_cell m n i =
    let row : i / m % n + n * (i / m / n) ≡ i / m = mod-add-div (i / m) n in
    let e : (0 + i % m) + m * ((0 + i / m % n) + n * (0 + i / m / n)) ≡ i % m + m * (i / m % n + n * (i / m / n)) = omega arith in
    e ∙ ap (λ q. i % m + m * q) row ∙ mod-add-div i m

number_rises : (s : Scale) (i j : ℕ) → i < j → cell_number s (all_cells s i) < cell_number s (all_cells s j)
number_rises s i j h =
    let a : cell_number s (all_cells s i) ≡ i = numbered_cell (cells_on s 0) (cells_on s 1) i in
    let b : cell_number s (all_cells s j) ≡ j = numbered_cell (cells_on s 0) (cells_on s 1) j in
    subst (λ k. k < cell_number s (all_cells s j)) (sym a) (subst (λ k. i < k) (sym b) h)

-- all cells of the grid are in order,
pub AreInOrder-numbers_on : (s : Scale) → AreInOrder s (numbers_on (cells_on s))
AreInOrder-numbers_on s = record {
  each = All-numbers_on s;
  rising = subst (AllPairs (λ a b. cell_number s a < cell_number s b)) (sym (numbered s)) (AllPairs-numbers (λ a b. cell_number s a < cell_number s b) (all_cells s) (all_count s) (λ i j l h. number_rises s i j l));
}

-- and so are those that pass a test
pub AreInOrder-filter : (s : Scale) (p : List ℕ → Bool) (cells : List (List ℕ)) → AreInOrder s cells → AreInOrder s (filter p cells)
AreInOrder-filter s p cells h = record {
  each = All-filter p (IsCell s) cells h.each;
  rising = AllPairs-filter (λ a b. cell_number s a < cell_number s b) p cells h.rising;
}

pub AreInOrder-met_cells : (s : Scale) (writes : List (Box3 × List ℕ)) → AreInOrder s (met_cells s writes)
unfolding met_cells
AreInOrder-met_cells s writes = AreInOrder-filter s (met s writes) (numbers_on (cells_on s)) (AreInOrder-numbers_on s)

-- two rising lists with the same elements are one
head_first : {X : Type 0} (f : X → ℕ) (x y : X) (xs : List X) → AllPairs (λ a b. f a < f b) (x ∷ xs) → Contains xs y → f x < f y
head_first f x y xs rising (k, l, e) = subst (λ z. f x < f z) e (rising 0 (suc k) y (omega arith) (omega arith))

tail_rises : {X : Type 0} (f : X → ℕ) (x : X) (xs : List X) → AllPairs (λ a b. f a < f b) (x ∷ xs) → AllPairs (λ a b. f a < f b) xs
tail_rises f x xs rising i j d l h = rising (suc i) (suc j) d (omega arith) (omega arith)

heads_same : {X : Type 0} (f : X → ℕ) (x y : X) (xs ys : List X) → AllPairs (λ a b. f a < f b) (x ∷ xs) → AllPairs (λ a b. f a < f b) (y ∷ ys)
    → Contains (y ∷ ys) x → Contains (x ∷ xs) y → x ≡ y
heads_same f x y xs ys rx ry (zero, l, e) cy = sym e
heads_same f x y xs ys rx ry (suc k, l, e) (zero, m, g) = g
heads_same f x y xs ys rx ry (suc k, l, e) (suc j, m, g) =
    let a : f y < f x = head_first f y x ys ry (k, omega arith, e) in
    let b : f x < f y = head_first f x y xs rx (j, omega arith, g) in
    absurd (omega arith)

in_tail : {X : Type 0} (f : X → ℕ) (y z : X) (ys : List X) → f y < f z → Contains (y ∷ ys) z → Contains ys z
in_tail f y z ys h (zero, l, e) = let same : f y ≡ f z = ap f e in absurd (omega arith)
in_tail f y z ys h (suc k, l, e) = (k, omega arith, e)

none_in : {X : Type 0} (x : X) → Contains [] x → ⊥
none_in x (k, l, e) = absurd (omega arith)

pub rising_same : {X : Type 0} (f : X → ℕ) (xs ys : List X) → AllPairs (λ a b. f a < f b) xs → AllPairs (λ a b. f a < f b) ys
    → ((x : X) → Contains xs x → Contains ys x) → ((x : X) → Contains ys x → Contains xs x) → xs ≡ ys
rising_same f [] [] rx ry to from = refl
rising_same f [] (y ∷ ys) rx ry to from = absurd (none_in y (from y (0, omega arith, refl)))
rising_same f (x ∷ xs) [] rx ry to from = absurd (none_in x (to x (0, omega arith, refl)))
rising_same {X} f (x ∷ xs) (y ∷ ys) rx ry to from =
    let same : x ≡ y = heads_same f x y xs ys rx ry (to x (0, omega arith, refl)) (from y (0, omega arith, refl)) in
    let heads : f x ≡ f y = ap f same in
    let rest : xs ≡ ys = rising_same f xs ys (tail_rises f x xs rx) (tail_rises f y ys ry)
    (λ z c. let h : f x < f z = head_first f x z xs rx c in in_tail f y z ys (omega arith) (to z (Contains-cons x xs z c)))
    (λ z c. let h : f y < f z = head_first f y z ys ry c in in_tail f x z xs (omega arith) (from z (Contains-cons y ys z c))) in
    cc

-- cells in order are the list of all that pass a test, where they pass it and each cell that passes it is one of them
pub cells_in_order : (s : Scale) (p : List ℕ → Bool) (cells : List (List ℕ)) → AreInOrder s cells → All (λ cell. p cell ≡ true) cells
    → ((cell : List ℕ) → IsCell s cell → p cell ≡ true → Contains cells cell) → cells ≡ filter p (numbers_on (cells_on s))
cells_in_order s p cells order passes every =
    let all : AreInOrder s (filter p (numbers_on (cells_on s))) = AreInOrder-filter s p (numbers_on (cells_on s)) (AreInOrder-numbers_on s) in
    rising_same (cell_number s) cells (filter p (numbers_on (cells_on s))) order.rising all.rising
    (λ cell c. Contains-filter p (numbers_on (cells_on s)) cell (Contains-numbers_on s cell (All-contains (IsCell s) cells cell order.each c)) (All-contains (λ cell. p cell ≡ true) cells cell passes c))
    (λ cell c. every cell (All-contains (IsCell s) (filter p (numbers_on (cells_on s))) cell all.each c) (All-contains (λ cell. p cell ≡ true) (filter p (numbers_on (cells_on s))) cell (filter_passes p (numbers_on (cells_on s))) c))

-- a number with a digit below m
pub digit_less : (m x q y r : ℕ) → x < m → q < r → x + m * q < y + m * r
digit_less m x q y r l h =
    let up : m * (q + 1) ≤ m * r = mul-le-mul_left m (omega arith) in
    omega arith

pub digit_same : (m x q y r : ℕ) → x < m → y < m → x + m * q ≡ y + m * r → (x ≡ y) × (q ≡ r)
digit_same m x q y r lx ly e =
    let not_below : q < r → ⊥ = λ h. let l = digit_less m x q y r lx h in omega arith in
    let not_above : r < q → ⊥ = λ h. let l = digit_less m y r x q ly h in omega arith in
    let same : q ≡ r = omega arith in
    let f : m * q ≡ m * r = ap (λ k. m * k) same in
    (omega arith, same)

-- a cell of the grid is known by its number
pub cell_known : (s : Scale) (a b : List ℕ) → IsCell s a → IsCell s b → cell_number s a ≡ cell_number s b → a ≡ b
cell_known s a b ha hb e =
    let x = digit_same (cells_on s 0) (slice_index a 0) _ (slice_index b 0) _ (ha.below 0 (lit< tt)) (hb.below 0 (lit< tt)) e in
    let y = digit_same (cells_on s 1) (slice_index a 1) _ (slice_index b 1) _ (ha.below 1 (lit< tt)) (hb.below 1 (lit< tt)) x.1 in
    three a _ _ _ ha.axes x.0 y.0 y.1 ∙ sym (three b _ _ _ hb.axes refl refl refl)
