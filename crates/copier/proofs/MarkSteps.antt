-- Marking cells.
use Rattle.std.proofs.Common.{◌≡◌, ◌≢◌, ℕ, ◌<◌, ◌≤◌, ◌^◌, ◌++◌, List, [], ◌∷◌, Bool, true, false, ◌||◌, ◌&&◌, length, Option, Some, None, IfSome, refl, ap, ◌∙◌, sym, arith}
use Rattle.std.specs.Prelude.{All, Contains, cond, filter, slice_index_or}
use Rattle.std.specs.List.{list_any, range_with_len, slice_set}
use Rattle.std.specs.Str.{bytes_eq}
use Rattle.std.proofs.lemmas.List.{get_or-set_same, get_or-set_other, length-map}
use Rattle.std.proofs.lemmas.List.Elements.{All-contains, All-head, All-tail, All-weaker, filter-append, filter_passes}
use Rattle.std.proofs.lemmas.List.Folds.{list_any-append, list_any_at}
use Rattle.std.proofs.lemmas.List.FromFn.{length-range_with_len}
use Rattle.std.proofs.lemmas.Slice.Eq.{bytes_eq-Decides}
use Rattle.vol_base.specs.Boxes.{Covers}
use Rattle.vol_base.specs.Outside.{Objects}
use Rattle.vol_base.specs.declared.boxes.Box3.{Box3}
use Rattle.vol_spec.specs.Grid.{Inside, IsCell, cell_box, cells_in, cells_on, meets, numbers_on, whole}
use Rattle.vol_spec.specs.StoredCells.{AreInOrder, cell_number}
use Rattle.vol_spec.specs.declared.scale.Scale.{Scale}
use Rattle.chunk_grid.proofs.GridSteps.{Covers-begin, cell_box-IsSome, cell_box-Within}
use Rattle.chunk_grid.proofs.ListingSteps.{All-numbers_on, Contains-cons, Contains-filter, Contains-numbers_on, all_cells, all_count, meets-true, numbered}
use Rattle.chunk_grid.proofs.OrderSteps.{AreInOrder-filter, AreInOrder-numbers_on, cell_known}
use Rattle.chunk_laws.specs.Told.{is_listed}
use Rattle.write_plan.proofs.NumberSteps.{cell_number-below}
use Rattle.write_plan.specs.Pairs.{cell_count}
use Rattle.copier.specs.Marks.{AddsMarks, AreMarked, marked}

-- the cells that meet the whole scale are those of the grid
filter_all : {X : Type 0} (p : X → Bool) (xs : List X) → All (λ x. p x ≡ true) xs → filter p xs ≡ xs
filter_all p [] h = refl
filter_all p (x ∷ xs) h = rw (All-head (λ y. p y ≡ true) x xs h) (ap (λ ys. x ∷ ys) (filter_all p xs (All-tail (λ y. p y ≡ true) x xs h)))

whole_meets : (s : Scale) (cell : List ℕ) → IsCell s cell → meets s (whole s) cell ≡ true
whole_meets s cell is =
    let covered : Covers (cell_box s cell) (cell_box s cell).begin = Covers-begin (cell_box s cell) (cell_box-IsSome s cell is) in
    meets-true s (whole s) cell ((cell_box s cell).begin, covered, cell_box-Within s cell (cell_box s cell).begin covered)

pub cells_whole : (s : Scale) → cells_in s (whole s) ≡ numbers_on (cells_on s)
cells_whole s =
    filter_all (meets s (whole s)) (numbers_on (cells_on s)) (All-weaker (IsCell s) (λ cell. meets s (whole s) cell ≡ true) (whole_meets s) (numbers_on (cells_on s)) (All-numbers_on s))

pub inside_whole : (s : Scale) → Inside s (whole s)
inside_whole s = record { some = λ axis h. let some = (s.size_ok axis h).0 in omega (arith, some); within = λ p c. c }

-- as many as the product of its counts
pub count_numbers : (s : Scale) → length (numbers_on (cells_on s)) ≡ cell_count s
count_numbers s = ap length (numbered s) ∙ length-map (range_with_len 0 (all_count s)) (all_cells s) ∙ length-range_with_len 0 (all_count s)

pub count_whole : (s : Scale) → length (cells_in s (whole s)) ≡ cell_count s
count_whole s = ap length (cells_whole s) ∙ count_numbers s

-- no more pass a test than there are
filter_few : {X : Type 0} (p : X → Bool) (xs : List X) → length (filter p xs) ≤ length xs
filter_few p [] = omega arith
filter_few p (x ∷ xs) = by (p x) (filter_few p xs)
  where
    by : (b : Bool) → length (filter p xs) ≤ length xs → length (cond b (x ∷ filter p xs) (filter p xs)) ≤ length (x ∷ xs)
    by true h = omega arith
    by false h = omega arith

pub few_pass : (s : Scale) (p : List ℕ → Bool) → cell_count s ≤ 2 ^ 22 → length (filter p (numbers_on (cells_on s))) ≤ 2 ^ 22
few_pass s p few = let most = filter_few p (numbers_on (cells_on s)) in let count = count_numbers s in omega (arith, most, count, few)

-- a cell is listed exactly where it is one of the cells
pub listed_at : (cells : List (List ℕ)) (cell : List ℕ) → Contains cells cell → is_listed cells cell ≡ true
listed_at cells cell (k, l, at) = list_any_at (λ c. bytes_eq c cell) cells k cell l (ap (λ c. bytes_eq c cell) at ∙ (bytes_eq-Decides cell cell).1 refl)

pub listed_from : (cells : List (List ℕ)) (cell : List ℕ) → is_listed cells cell ≡ true → Contains cells cell
listed_from [] cell e = absurd (cc e)
listed_from (x ∷ cells) cell e = by (bytes_eq x cell) refl (listed_from cells cell) e
  where
    by : (b : Bool) → bytes_eq x cell ≡ b → (is_listed cells cell ≡ true → Contains cells cell) → (b || is_listed cells cell) ≡ true → Contains (x ∷ cells) cell
    by true is later h = (0, omega arith, (bytes_eq-Decides x cell).0 is)
    by false is later h = Contains-cons x cells cell (later h)

-- of those that pass a test, exactly where it passes
pub listed_in : (p : List ℕ → Bool) (cells : List (List ℕ)) (cell : List ℕ) → Contains cells cell → is_listed (filter p cells) cell ≡ p cell
listed_in p cells cell c = by (p cell) refl (is_listed (filter p cells) cell) refl
  where
    by : (a : Bool) → p cell ≡ a → (b : Bool) → is_listed (filter p cells) cell ≡ b → b ≡ a
    by true e true f = refl
    by false e false f = refl
    by true e false f = let yes = listed_at (filter p cells) cell (Contains-filter p cells cell c e) in cc (yes, f)
    by false e true f =
        let passes : p cell ≡ true = All-contains (λ x. p x ≡ true) (filter p cells) cell (filter_passes p cells) (listed_from (filter p cells) cell f) in
        cc (passes, e)

-- marking one cell more
or_none : (a b : Bool) → (a || (b || (false || false))) ≡ (a || b)
or_none true b = refl
or_none false true = refl
or_none false false = refl

or_same : (a b : Bool) → (a || (b || (true || false))) ≡ true
or_same true b = refl
or_same false true = refl
or_same false false = refl

or_more : (a b c : Bool) → ((a || b) || c) ≡ (a || (b || c))
or_more true b c = refl
or_more false b c = refl

or_false : (a : Bool) → a ≡ (a || false)
or_false true = refl
or_false false = refl

pub no_marks : (s : Scale) (marks : List Bool) → AddsMarks s (is_listed []) marks marks
no_marks s marks cell is = or_false (marked s marks cell)

pub mark_more : (s : Scale) (done : List (List ℕ)) (cell : List ℕ) (old now : List Bool) (number : ℕ) → IsCell s cell → number ≡ cell_number s cell → length now ≡ cell_count s
    → AddsMarks s (is_listed done) old now → AddsMarks s (is_listed (done ++ cell ∷ [])) old (slice_set now number true)
mark_more s done cell old now number is at len h c in_grid =
    by (bytes_eq cell c) refl ∙ sym (ap (λ b. marked s old c || b) (list_any-append (λ x. bytes_eq x c) done (cell ∷ [])))
  where
    inside : number < length now
    inside = let low = cell_number-below s cell is in omega (arith, low, at, len)

    by : (b : Bool) → bytes_eq cell c ≡ b → marked s (slice_set now number true) c ≡ (marked s old c || (is_listed done c || (b || false)))
    by true e =
        let same : cell_number s c ≡ number = ap (cell_number s) (sym ((bytes_eq-Decides cell c).0 e)) ∙ sym at in
        ap (λ k. slice_index_or (slice_set now number true) k false) same ∙ get_or-set_same now number true false inside ∙ sym (or_same (marked s old c) (is_listed done c))
    by false e =
        let other : cell_number s c ≢ number = λ same. let known : c ≡ cell = cell_known s c cell in_grid is (same ∙ at) in let yes = (bytes_eq-Decides cell c).1 (sym known) in absurd (cc (yes, e)) in
        get_or-set_other now number (cell_number s c) true false other ∙ h c in_grid ∙ sym (or_none (marked s old c) (is_listed done c))

-- the cells that meet a box are marked
pub marked_all : (s : Scale) (part : Box3) (old new : List Bool) → AddsMarks s (is_listed (cells_in s part)) old new → AddsMarks s (meets s part) old new
marked_all s part old new h cell is = h cell is ∙ ap (λ b. marked s old cell || b) (listed_in (meets s part) (numbers_on (cells_on s)) cell (Contains-numbers_on s cell is))

-- a cell of the source that it has nothing of marks nothing, another one its box
pub unstored_in : (o : Option Objects) (there : Objects → Bool) (s : Scale) (test : List ℕ → Bool) (marks : List Bool) → IfSome o (λ m. false ≡ there m) → IfSome o (λ m. AddsMarks s (λ c. there m && test c) marks marks)
unstored_in None there s test marks h = tt
unstored_in (Some m) there s test marks h = λ cell is. or_false (marked s marks cell) ∙ ap (λ b. marked s marks cell || (b && test cell)) h

pub stored_in : (o : Option Objects) (there : Objects → Bool) (s : Scale) (test : List ℕ → Bool) (old new : List Bool) → IfSome o (λ m. true ≡ there m) → AddsMarks s test old new → IfSome o (λ m. AddsMarks s (λ c. there m && test c) old new)
stored_in None there s test old new h marks = tt
stored_in (Some m) there s test old new h marks = λ cell is. marks cell is ∙ ap (λ b. marked s old cell || (b && test cell)) h

-- one cell of the source more
any_more : {X : Type 0} (p q : X → Bool) (xs : List X) (x : X) → list_any p (filter q (xs ++ x ∷ [])) ≡ (list_any p (filter q xs) || (q x && p x))
any_more p q xs x = ap (list_any p) (filter-append q xs (x ∷ [])) ∙ list_any-append p (filter q xs) (filter q (x ∷ [])) ∙ ap (λ b. list_any p (filter q xs) || b) (by (q x))
  where
    by : (b : Bool) → list_any p (cond b (x ∷ []) []) ≡ (b && p x)
    by true = sym (or_false (p x))
    by false = refl

pub source_more : (to : Scale) (box : List ℕ → Box3) (there : List ℕ → Bool) (done : List (List ℕ)) (cell : List ℕ) (old mid new : List Bool)
    → AddsMarks to (λ c. list_any (λ source. meets to (box source) c) (filter there done)) old mid → AddsMarks to (λ c. there cell && meets to (box cell) c) mid new
    → AddsMarks to (λ c. list_any (λ source. meets to (box source) c) (filter there (done ++ cell ∷ []))) old new
source_more to box there done cell old mid new h k c is =
    k c is ∙ ap (λ b. b || (there cell && meets to (box cell) c)) (h c is)
    ∙ or_more (marked to old c) (list_any (λ source. meets to (box source) c) (filter there done)) (there cell && meets to (box cell) c)
    ∙ ap (λ b. marked to old c || b) (sym (any_more (λ source. meets to (box source) c) there done cell))

pub no_source : (to : Scale) (box : List ℕ → Box3) (there : List ℕ → Bool) (marks : List Bool) → AddsMarks to (λ c. list_any (λ source. meets to (box source) c) (filter there [])) marks marks
no_source to box there marks c is = or_false (marked to marks c)

-- where nothing was marked before, exactly what passes the test is
pub from_clear : (s : Scale) (test : List ℕ → Bool) (old new : List Bool) → length old ≡ cell_count s → All (λ mark. mark ≡ false) old → AddsMarks s test old new → AreMarked s test new
from_clear s test old new len clear h cell is =
    let low = cell_number-below s cell is in
    h cell is ∙ ap (λ b. b || test cell) (clear (cell_number s cell) false (omega (arith, low, len)))

-- tests that agree on the cells of the grid pass the same
filter_same : {X : Type 0} (p q : X → Bool) (xs : List X) → All (λ x. p x ≡ q x) xs → filter p xs ≡ filter q xs
filter_same p q [] h = refl
filter_same p q (x ∷ xs) h =
    ap (λ b. cond b (x ∷ filter p xs) (filter p xs)) (All-head (λ y. p y ≡ q y) x xs h)
    ∙ ap (λ ys. cond (q x) (x ∷ ys) ys) (filter_same p q xs (All-tail (λ y. p y ≡ q y) x xs h))

pub marked_list : (s : Scale) (test : List ℕ → Bool) (marks : List Bool) → AreMarked s test marks → filter (marked s marks) (numbers_on (cells_on s)) ≡ filter test (numbers_on (cells_on s))
marked_list s test marks h =
    filter_same (marked s marks) test (numbers_on (cells_on s)) (All-weaker (IsCell s) (λ cell. marked s marks cell ≡ test cell) h (numbers_on (cells_on s)) (All-numbers_on s))

pub pass_in_order : (s : Scale) (p : List ℕ → Bool) → AreInOrder s (filter p (numbers_on (cells_on s)))
pass_in_order s p = AreInOrder-filter s p (numbers_on (cells_on s)) (AreInOrder-numbers_on s)

-- one cell of a list more
pub list_more : (p : List ℕ → Bool) (done list now : List (List ℕ)) (cell : List ℕ) (b : Bool) → b ≡ p cell → list ≡ filter p done → now ≡ list ++ cond b (cell ∷ []) [] → now ≡ filter p (done ++ cell ∷ [])
list_more p done list now cell b e h new =
    new ∙ ap (λ xs. xs ++ cond b (cell ∷ []) []) h ∙ ap (λ a. filter p done ++ cond a (cell ∷ []) []) e ∙ sym (filter-append p done (cell ∷ []))
