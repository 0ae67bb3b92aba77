-- The pairs of one cell, in a list of pairs.
use Rattle.std.proofs.Common.{◌≡◌, ℕ, zero, suc, ◌+◌, ◌<◌, ◌≤◌, List, [], ◌∷◌, ◌++◌, length, take, drop, map, get_or, Bool, true, false, cond, refl, sym, ap, ◌∙◌, subst, arith, append_assoc}
use Rattle.std.specs.Prelude.{◌==◌, All, AllPairs, Contains, filter, nat_lt, nat_le, slice_index_or}
use Rattle.std.specs.List.Sorted.{IsNonDecreasingBy, IsPartitionPoint, IsPermutation, IsStableByKey, ties}
use Rattle.std.proofs.lemmas.List.Sorted.{All-permutation}
use Rattle.std.specs.Ordering.{is_lt, nat_cmp}
use Rattle.std.proofs.lemmas.Bool.Decides.{nat_tests}
use Rattle.std.proofs.lemmas.List.{append-nil, map-append, take-append-drop, length-map, length-take, length-drop, get_or-map, get_or-take, get_or-drop, take_more}
use Rattle.std.proofs.lemmas.List.Elements.{All-append, All-head, All-map, All-nil, All-tail, All-weaker, All-filter, All-contains, filter-append, filter_agree, filter_passes}
use Rattle.std.proofs.lemmas.List.Kept.{AllPairs-filter}
use Rattle.vol_base.specs.declared.boxes.Box3.{Box3}
use Rattle.vol_spec.specs.Grid.{cells_in, cells_on, IsCell, meets, numbers_on}
use Rattle.vol_spec.specs.StoredCells.{cell_number}
use Rattle.vol_spec.specs.declared.scale.Scale.{Scale}
use Rattle.chunk_grid.proofs.ListSteps.{filter-map}
use Rattle.chunk_grid.proofs.ListingSteps.{All-numbers_on, cells_in-IsCell, Contains-filter, Contains-numbers_on}
use Rattle.chunk_grid.proofs.OrderSteps.{AreInOrder-numbers_on, cell_known, rising_same}
use Rattle.write_plan.specs.Pairs.{ArePairs, cell_count, pair_of, pairs_from, run_of, writes_of_run}
use Rattle.write_plan.specs.WriteLists.{BoxWrite, write_in, writes_in}
use Rattle.write_plan.specs.declared.writes.Write.{Write}
use Rattle.write_plan.specs.declared.pairs.Pair.{Pair}
use Rattle.write_plan.proofs.NumberSteps.{cell_number-below}

-- filters
pub filter_none : {X : Type 0} (p : X → Bool) (xs : List X) → All (λ x. p x ≡ false) xs → filter p xs ≡ []
filter_none p [] h = refl
filter_none p (x ∷ xs) h = rw (All-head (λ x. p x ≡ false) x xs h) (filter_none p xs (All-tail (λ x. p x ≡ false) x xs h))

pub filter_every : {X : Type 0} (p : X → Bool) (xs : List X) → All (λ x. p x ≡ true) xs → filter p xs ≡ xs
filter_every p [] h = refl
filter_every p (x ∷ xs) h = rw (All-head (λ x. p x ≡ true) x xs h) (ap (λ ys. x ∷ ys) (filter_every p xs (All-tail (λ x. p x ≡ true) x xs h)))

filter_step : {X : Type 0} (a b : Bool) (p q : X → Bool) (x : X) (xs : List X) → p x ≡ a → q x ≡ b → filter p (filter q xs) ≡ filter q (filter p xs)
    → filter p (cond b (x ∷ filter q xs) (filter q xs)) ≡ filter q (cond a (x ∷ filter p xs) (filter p xs))
filter_step true true p q x xs ea eb h = rw (ea, eb) (ap (λ ys. x ∷ ys) h)
filter_step true false p q x xs ea eb h = rw (eb) h
filter_step false true p q x xs ea eb h = rw (ea) h
filter_step false false p q x xs ea eb h = h

pub filter_turn : {X : Type 0} (p q : X → Bool) (xs : List X) → filter p (filter q xs) ≡ filter q (filter p xs)
filter_turn p q [] = refl
filter_turn p q (x ∷ xs) = filter_step (p x) (q x) p q x xs refl refl (filter_turn p q xs)

pub same_number : (a b : ℕ) → a ≡ b → (a == b) ≡ true
same_number a b e = grind (arith, nat_tests)

pub number_from : (a b : ℕ) → (a == b) ≡ true → a ≡ b
number_from a b e = grind (arith, nat_tests)

single_rises : {X : Type 0} (n : X → ℕ) (x : X) → AllPairs (λ a b. n a < n b) (x ∷ [])
single_rises n x i j d l m = absurd (omega arith)

in_single : {X : Type 0} (x y : X) → Contains (x ∷ []) y → y ≡ x
in_single x y (zero, l, e) = sym e
in_single x y (suc k, l, e) = absurd (omega arith)

-- the one cell of the grid with a cell's number
only_cell : (s : Scale) (cell : List ℕ) → IsCell s cell → filter (λ x. cell_number s x == cell_number s cell) (numbers_on (cells_on s)) ≡ cell ∷ []
only_cell s cell is =
    let test : List ℕ → Bool = λ x. cell_number s x == cell_number s cell in
    rising_same (cell_number s) (filter test (numbers_on (cells_on s))) (cell ∷ [])
    (AllPairs-filter (λ a b. cell_number s a < cell_number s b) test (numbers_on (cells_on s)) (AreInOrder-numbers_on s).rising) (single_rises (cell_number s) cell)
    (λ x h.
    let own : IsCell s x = All-contains (IsCell s) _ x (All-filter test (IsCell s) _ (All-numbers_on s)) h in
    let passes : test x ≡ true = All-contains (λ y. test y ≡ true) _ x (filter_passes test _) h in
    let e : x ≡ cell = cell_known s x cell own is (number_from _ _ passes) in
    (0, omega arith, sym e))
    (λ x h.
    let e : x ≡ cell = in_single cell x h in
    subst (λ y. Contains (filter test (numbers_on (cells_on s))) y) (sym e) (Contains-filter test (numbers_on (cells_on s)) cell (Contains-numbers_on s cell is) (same_number _ _ refl)))

one_run : (s : Scale) (b : Box3) (first : ℕ) (cell : List ℕ) → IsCell s cell
    → run_of (map (pair_of s first) (cells_in s b)) (cell_number s cell) ≡ map (pair_of s first) (cond (meets s b cell) (cell ∷ []) [])
one_run s b first cell is =
    filter-map (λ pair. pair.number == cell_number s cell) (pair_of s first) (cells_in s b)
    ∙ ap (map (pair_of s first)) (filter_turn (λ x. cell_number s x == cell_number s cell) (meets s b) (numbers_on (cells_on s)) ∙ ap (filter (meets s b)) (only_cell s cell is))

joined : (m : Bool) (all : List BoxWrite) (d w : BoxWrite) (s : Scale) (first : ℕ) (cell : List ℕ) (ws : List BoxWrite) → slice_index_or all first d ≡ w
    → writes_of_run all d (map (pair_of s first) (cond m (cell ∷ []) [])) ++ ws ≡ cond m (w ∷ ws) ws
joined true all d w s first cell ws e = ap (λ x. x ∷ ws) e
joined false all d w s first cell ws e = refl

-- the writes of a cell's pairs are those that meet it, in order
runs_from : (s : Scale) (all : List BoxWrite) (d : BoxWrite) (cell : List ℕ) → IsCell s cell → (first : ℕ) (ws : List BoxWrite)
    → ((k : ℕ) → k < length ws → slice_index_or all (first + k) d ≡ slice_index_or ws k d)
    → writes_of_run all d (run_of (pairs_from s first ws) (cell_number s cell)) ≡ filter (λ w. meets s w.0 cell) ws
runs_from s all d cell is first [] at = refl
runs_from s all d cell is first (w ∷ ws) at =
    let none : first + 0 ≡ first = omega arith in
    let here : slice_index_or all first d ≡ w = ap (λ k. slice_index_or all k d) (sym none) ∙ at 0 (omega arith) in
    let rest = runs_from s all d cell is (first + 1) ws (λ k l.
    let e : (first + 1) + k ≡ first + suc k = omega arith in
    ap (λ j. slice_index_or all j d) e ∙ at (suc k) (omega arith)) in
    ap (writes_of_run all d) (filter-append (λ pair. pair.number == cell_number s cell) (map (pair_of s first) (cells_in s w.0)) (pairs_from s (first + 1) ws))
    ∙ map-append (λ (pair : Pair). slice_index_or all pair.write d) (run_of (map (pair_of s first) (cells_in s w.0)) (cell_number s cell)) (run_of (pairs_from s (first + 1) ws) (cell_number s cell))
    ∙ ap (λ ps. writes_of_run all d ps ++ writes_of_run all d (run_of (pairs_from s (first + 1) ws) (cell_number s cell))) (one_run s w.0 first cell is)
    ∙ ap (λ ys. writes_of_run all d (map (pair_of s first) (cond (meets s w.0 cell) (cell ∷ []) [])) ++ ys) rest
    ∙ joined (meets s w.0 cell) all d w s first cell (filter (λ w. meets s w.0 cell) ws) here

pub listed_runs : (s : Scale) (ws : List BoxWrite) (d : BoxWrite) (cell : List ℕ) → IsCell s cell
    → writes_of_run ws d (run_of (pairs_from s 0 ws) (cell_number s cell)) ≡ filter (λ w. meets s w.0 cell) ws
listed_runs s ws d cell is = runs_from s ws d cell is 0 ws (λ k l. let e : 0 + k ≡ k = omega arith in ap (λ j. slice_index_or ws j d) e)

-- a stable sort by the number leaves the pairs of each cell as they were
tied : (a b : ℕ) → ties (λ (x y : ℕ). is_lt (nat_cmp x y)) a b ≡ (b == a)
tied a b = grind (arith, nat_tests)

pub stable_runs : (old new : List Pair) (number : ℕ) → IsStableByKey (λ (pair : Pair). pair.number) nat_cmp old new → run_of new number ≡ run_of old number
stable_runs old new number stable =
    let wanted : Pair = record { number = number; write = 0 } in
    let same : (pair : Pair) → ties (λ (x y : Pair). is_lt (nat_cmp x.number y.number)) wanted pair ≡ (pair.number == number) = λ pair. tied number pair.number in
    sym (filter_agree _ _ same new) ∙ stable wanted ∙ filter_agree _ _ same old

-- a part of a list of pairs in order
less_from : (a b : ℕ) → nat_lt a b ≡ true → (a == b) ≡ false
less_from a b e = grind (arith, nat_tests)

more_from : (a b : ℕ) → nat_le a b ≡ false → (a == b) ≡ false
more_from a b e = grind (arith, nat_tests)

equal_from : (a b : ℕ) → nat_lt a b ≡ false → nat_le a b ≡ true → (a == b) ≡ true
equal_from a b e f = grind (arith, nat_tests)

pub part_is_run : (ps : List Pair) (number i j : ℕ)
    → IsPartitionPoint (λ (pair : Pair). nat_lt pair.number number ≡ true) (λ (pair : Pair). nat_lt pair.number number ≡ false) ps i
    → IsPartitionPoint (λ (pair : Pair). nat_le pair.number number ≡ true) (λ (pair : Pair). nat_le pair.number number ≡ false) (drop i ps) j
    → i ≤ length ps → j ≤ length (drop i ps)
    → take j (drop i ps) ≡ run_of ps number
part_is_run ps number i j p q li lj =
    let test : Pair → Bool = λ pair. pair.number == number in
    let a : filter test (take i ps) ≡ [] = filter_none test (take i ps) (λ k d l.
    let low : k < i = omega (arith, l, length-take i ps) in
    ap test (get_or-take i ps k d low) ∙ less_from _ _ (p.0 k d (omega arith) low)) in
    let b : filter test (take j (drop i ps)) ≡ take j (drop i ps) = filter_every test (take j (drop i ps)) (λ k d l.
    let low : k < j = omega (arith, l, length-take j (drop i ps)) in
    let high : i + k < length ps = omega (arith, lj, li, low, length-drop i ps) in
    ap test (get_or-take j (drop i ps) k d low) ∙ equal_from _ _ (ap (λ (pair : Pair). nat_lt pair.number number) (get_or-drop i ps k d) ∙ p.1 (i + k) d (omega arith) high) (q.0 k d (omega arith) low)) in
    let e : filter test (drop j (drop i ps)) ≡ [] = filter_none test (drop j (drop i ps)) (λ k d l.
    let high : j + k < length (drop i ps) = omega (arith, l, lj, length-drop j (drop i ps)) in
    ap test (get_or-drop j (drop i ps) k d) ∙ more_from _ _ (q.1 (j + k) d (omega arith) high)) in
    sym (ap (filter test) (sym (take-append-drop i ps)) ∙ filter-append test (take i ps) (drop i ps) ∙ ap (λ xs. xs ++ filter test (drop i ps)) a
    ∙ ap (filter test) (sym (take-append-drop j (drop i ps))) ∙ filter-append test (take j (drop i ps)) (drop j (drop i ps)) ∙ ap (λ xs. filter test (take j (drop i ps)) ++ xs) e ∙ append-nil (filter test (take j (drop i ps))) ∙ b)

-- the pairs of one write more
pairs_append : (s : Scale) (first : ℕ) (ws vs : List BoxWrite) → pairs_from s first (ws ++ vs) ≡ pairs_from s first ws ++ pairs_from s (first + length ws) vs
pairs_append s first [] vs = let e : first ≡ first + 0 = omega arith in ap (λ k. pairs_from s k vs) e
pairs_append s first (w ∷ ws) vs =
    let e : (first + 1) + length ws ≡ first + suc (length ws) = omega arith in
    ap (λ ps. map (pair_of s first) (cells_in s w.0) ++ ps) (pairs_append s (first + 1) ws vs ∙ ap (λ k. pairs_from s (first + 1) ws ++ pairs_from s k vs) e)
    ∙ sym (append_assoc (map (pair_of s first) (cells_in s w.0)) (pairs_from s (first + 1) ws) (pairs_from s (first + suc (length ws)) vs))

pub pairs_next : (s : Scale) (ws : List Write) (i : ℕ) (w : Write) → i < length ws → w ≡ get_or ws i w
    → pairs_from s 0 (take (i + 1) (writes_in ws)) ≡ pairs_from s 0 (take i (writes_in ws)) ++ map (pair_of s i) (cells_in s w.part)
pairs_next s ws i w l is =
    let long : i < length (writes_in ws) = omega (arith, l, length-map ws write_in) in
    let at_i : get_or (writes_in ws) i (write_in w) ≡ write_in w = get_or-map write_in ws i w (write_in w) l ∙ ap write_in (sym is) in
    let e : 0 + length (take i (writes_in ws)) ≡ i = omega (arith, length-take i (writes_in ws)) in
    ap (pairs_from s 0) (take_more (writes_in ws) i (write_in w) long ∙ ap (λ v. take i (writes_in ws) ++ v ∷ []) at_i)
    ∙ pairs_append s 0 (take i (writes_in ws)) (write_in w ∷ [])
    ∙ ap (λ k. pairs_from s 0 (take i (writes_in ws)) ++ (map (pair_of s k) (cells_in s w.part) ++ [])) e
    ∙ ap (λ ps. pairs_from s 0 (take i (writes_in ws)) ++ ps) (append-nil (map (pair_of s i) (cells_in s w.part)))

-- what holds of each pair
within_from : (s : Scale) (first : ℕ) (ws : List BoxWrite) (n : ℕ) → first + length ws ≤ n → All (λ (pair : Pair). pair.write < n) (pairs_from s first ws)
within_from s first [] n l = All-nil (λ (pair : Pair). pair.write < n)
within_from s first (w ∷ ws) n l =
    All-append (λ (pair : Pair). pair.write < n) (map (pair_of s first) (cells_in s w.0)) (pairs_from s (first + 1) ws)
    (All-map (λ (pair : Pair). pair.write < n) (pair_of s first) (cells_in s w.0) (λ k d h. omega arith))
    (within_from s (first + 1) ws n (omega arith))

pub listed_within : (s : Scale) (ws : List BoxWrite) → All (λ (pair : Pair). pair.write < length ws) (pairs_from s 0 ws)
listed_within s ws = within_from s 0 ws (length ws) (omega arith)

below_from : (s : Scale) (first : ℕ) (ws : List BoxWrite) → All (λ (pair : Pair). pair.number < cell_count s) (pairs_from s first ws)
below_from s first [] = All-nil (λ (pair : Pair). pair.number < cell_count s)
below_from s first (w ∷ ws) =
    All-append (λ (pair : Pair). pair.number < cell_count s) (map (pair_of s first) (cells_in s w.0)) (pairs_from s (first + 1) ws)
    (All-map (λ (pair : Pair). pair.number < cell_count s) (pair_of s first) (cells_in s w.0) (All-weaker (IsCell s) (λ cell. cell_number s cell < cell_count s) (cell_number-below s) (cells_in s w.0) (cells_in-IsCell s w.0)))
    (below_from s (first + 1) ws)

pub listed_below : (s : Scale) (ws : List BoxWrite) → All (λ (pair : Pair). pair.number < cell_count s) (pairs_from s 0 ws)
listed_below s ws = below_from s 0 ws

pub pairs_sorted : (s : Scale) (ws : List BoxWrite) (old new : List Pair) → old ≡ pairs_from s 0 ws → IsPermutation old new → IsNonDecreasingBy (λ (pair : Pair). pair.number) new
    → IsStableByKey (λ (pair : Pair). pair.number) nat_cmp old new → ArePairs s ws new
pairs_sorted s ws old new is moved ordered stable =
    let moves : IsPermutation (pairs_from s 0 ws) new = subst (λ ps. IsPermutation ps new) is moved in
    record {
      within = All-permutation (λ (pair : Pair). pair.write < length ws) _ new moves (listed_within s ws);
      below = All-permutation (λ (pair : Pair). pair.number < cell_count s) _ new moves (listed_below s ws);
      ordered = ordered;
      runs = λ cell d own. ap (writes_of_run ws d) (stable_runs old new (cell_number s cell) stable ∙ ap (λ ps. run_of ps (cell_number s cell)) is) ∙ listed_runs s ws d cell own;
    }
