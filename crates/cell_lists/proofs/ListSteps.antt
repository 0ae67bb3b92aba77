-- Cells that are listed in any order are as many as those that pass the test, and the same in the order of their keys.
use Rattle.std.proofs.Common.{◌≡◌, ◌≢◌, ℕ, suc, ◌+◌, ◌<◌, ◌≤◌, ◌==◌, Bool, true, false, ◌&&◌, ◌||◌, List, [], ◌∷◌, ◌++◌, length, length-append, get_or, map, refl, ap, ◌∙◌, sym, subst, arith, ◌⊎◌, inl, inr, ⊎_elim}
use Rattle.std.specs.Prelude.{AllPairs, Contains, filter}
use Rattle.std.specs.List.{list_any}
use Rattle.std.specs.Str.{bytes_eq}
use Rattle.std.proofs.lemmas.Bool.{cases_lt}
use Rattle.std.proofs.lemmas.Bool.Decides.{nat_tests}
use Rattle.std.proofs.lemmas.List.{get_or_at, get_or_append_left, get_or_default}
use Rattle.std.proofs.lemmas.List.Elements.{All-append, All-cons, All-contains, All-nil, filter_passes}
use Rattle.std.proofs.lemmas.List.Folds.{list_any_at}
use Rattle.std.proofs.lemmas.Slice.Eq.{bytes_eq-Decides}
use Rattle.vol_spec.specs.Grid.{IsCell, cells_on, numbers_on}
use Rattle.vol_spec.specs.StoredLists.{cell_key, in_key_order}
use Rattle.vol_spec.specs.declared.scale.Scale.{Scale}
use Rattle.chunk_grid.proofs.ListingSteps.{Contains-filter, Contains-numbers_on}
use Rattle.chunk_grid.proofs.OrderSteps.{AreInOrder-filter, AreInOrder-numbers_on}
use Rattle.chunk_laws.specs.Told.{is_listed}
use Rattle.write_plan.proofs.KeySteps.{distinct_cells, in_order-alike, key_known, length-in_key_order}
use Rattle.cell_lists.specs.Lists.{Lists}

same_cells : (s : Scale) (xs ys : List (List ℕ)) → ((c : List ℕ) → Contains xs c → Contains ys c) → ((c : List ℕ) → Contains ys c → Contains xs c)
    → ((c d : List ℕ) → Contains xs c → Contains xs d → cell_key s c ≡ cell_key s d → c ≡ d) → in_key_order s xs ≡ in_key_order s ys
unfolding in_key_order
same_cells s xs ys to back known = ap (map (λ (e : List ℕ × List ℕ). e.1)) (in_order-alike s (λ c. c) xs ys to back known)

module _ (s : Scale) (test : List ℕ → Bool) (cells : List (List ℕ)) (h : Lists s test cells) where
  -- in the order of their keys they are those of the grid that pass the test,
  pub Lists-order : in_key_order s cells ≡ in_key_order s (filter test (numbers_on (cells_on s)))
  Lists-order =
      same_cells s cells (filter test (numbers_on (cells_on s)))
      (λ c listed. Contains-filter test (numbers_on (cells_on s)) c (Contains-numbers_on s c (All-contains (IsCell s) cells c h.each listed)) (h.pass c listed))
      (λ c listed.
      h.all c (All-contains (IsCell s) (filter test (numbers_on (cells_on s))) c (AreInOrder-filter s test (numbers_on (cells_on s)) (AreInOrder-numbers_on s)).each listed)
      (All-contains (λ c. test c ≡ true) (filter test (numbers_on (cells_on s))) c (filter_passes test (numbers_on (cells_on s))) listed))
      (λ a b la lb e. key_known s a b (All-contains (IsCell s) cells a h.each la) (All-contains (IsCell s) cells b h.each lb) e)

  -- and they are as many
  pub Lists-count : length cells ≡ length (filter test (numbers_on (cells_on s)))
  Lists-count =
      let order = AreInOrder-filter s test (numbers_on (cells_on s)) (AreInOrder-numbers_on s) in
      sym (length-in_key_order s cells h.each h.distinct)
      ∙ ap length Lists-order
      ∙ length-in_key_order s (filter test (numbers_on (cells_on s))) order.each (distinct_cells s (filter test (numbers_on (cells_on s))) order)

-- cells in the order of the grid are such a list
pub Lists-filter : (s : Scale) (test : List ℕ → Bool) → Lists s test (filter test (numbers_on (cells_on s)))
Lists-filter s test =
    let order = AreInOrder-filter s test (numbers_on (cells_on s)) (AreInOrder-numbers_on s) in
    record {
      each = order.each;
      distinct = distinct_cells s (filter test (numbers_on (cells_on s))) order;
      pass = λ c listed. All-contains (λ c. test c ≡ true) (filter test (numbers_on (cells_on s))) c (filter_passes test (numbers_on (cells_on s))) listed;
      all = λ c is e. Contains-filter test (numbers_on (cells_on s)) c (Contains-numbers_on s c is) e;
    }

or_true : (a b : Bool) → b ≡ true → (a || b) ≡ true
or_true true b e = refl
or_true false b e = e

or_first : (a b : Bool) → a ≡ true → (a || b) ≡ true
or_first true b e = refl
or_first false b e = absurd (cc e)

-- tests that agree
pub Lists-along : (s : Scale) (p q : List ℕ → Bool) (cells : List (List ℕ)) → ((c : List ℕ) → p c ≡ q c) → Lists s p cells → Lists s q cells
Lists-along s p q cells same h = subst (λ t. Lists s t cells) (λ i c. same c i) h

-- a cell that is listed
pub listed_at : (cells : List (List ℕ)) (cell : List ℕ) → Contains cells cell → is_listed cells cell ≡ true
listed_at cells cell (k, l, e) = list_any_at (λ c. bytes_eq c cell) cells k cell l (ap (λ c. bytes_eq c cell) e ∙ (bytes_eq-Decides cell cell).1 refl)

pub listed_from : (cells : List (List ℕ)) (cell : List ℕ) → is_listed cells cell ≡ true → Contains cells cell
listed_from [] cell e = absurd (cc e)
listed_from (c ∷ cells) cell e = by (bytes_eq c cell) refl e (listed_from cells cell)
  where
    by : (b : Bool) → bytes_eq c cell ≡ b → (b || is_listed cells cell) ≡ true → (is_listed cells cell ≡ true → Contains cells cell) → Contains (c ∷ cells) cell
    by true same e later = (0, omega arith, (bytes_eq-Decides c cell).0 same)
    by false same e later = let (k, l, at) = later e in (suc k, omega arith, at)

front_contains : (xs ys : List (List ℕ)) (c : List ℕ) → Contains xs c → Contains (xs ++ ys) c
front_contains xs ys c (k, l, e) = let len = length-append xs ys in (k, omega arith, get_or_append_left xs ys c k l ∙ e)

end_contains : (xs : List (List ℕ)) (cell : List ℕ) → Contains (xs ++ cell ∷ []) cell
end_contains xs cell = let len = length-append xs (cell ∷ []) in (length xs, omega arith, get_or_at xs cell [] cell (length xs) refl)

either_contains : (xs : List (List ℕ)) (cell c : List ℕ) → Contains (xs ++ cell ∷ []) c → (P : Type 0) → (Contains xs c → P) → (cell ≡ c → P) → P
either_contains xs cell c (k, l, e) P front back =
    let len = length-append xs (cell ∷ []) in
    ⊎_elim (λ (lt : k < length xs). front (k, lt, sym (get_or_append_left xs (cell ∷ []) c k lt) ∙ e))
    (λ (ge : length xs ≤ k). let at : length xs ≡ k = omega arith in back (sym (get_or_at xs cell [] c k at) ∙ e)) (cases_lt k (length xs))

pub Lists-push : (s : Scale) (test : List ℕ → Bool) (cells : List (List ℕ)) (cell : List ℕ) → Lists s test cells → IsCell s cell → is_listed cells cell ≡ false → Lists s (λ c. test c || bytes_eq cell c) (cells ++ cell ∷ [])
Lists-push s test cells cell h is none = record {
  each = All-append (IsCell s) cells (cell ∷ []) h.each (All-cons (IsCell s) cell [] is (All-nil (IsCell s)));
  distinct = apart;
  pass = λ c listed.
      either_contains cells cell c listed ((test c || bytes_eq cell c) ≡ true) (λ front. or_first (test c) (bytes_eq cell c) (h.pass c front)) (λ same. or_true (test c) (bytes_eq cell c) ((bytes_eq-Decides cell c).1 same));
  all = λ c one t. by c one (test c) refl t;
}
  where
    by : (c : List ℕ) → IsCell s c → (b : Bool) → test c ≡ b → (b || bytes_eq cell c) ≡ true → Contains (cells ++ cell ∷ []) c
    by c one true f t = front_contains cells (cell ∷ []) c (h.all c one f)
    by c one false f t = subst (Contains (cells ++ cell ∷ [])) ((bytes_eq-Decides cell c).0 t) (end_contains cells cell)

    apart : AllPairs (λ a b. a ≢ b) (cells ++ cell ∷ [])
    apart i j d before low same = at (cases_lt j (length cells))
      where
        len : length (cells ++ cell ∷ []) ≡ length cells + 1
        len = length-append cells (cell ∷ [])

        at : (j < length cells) ⊎ (length cells ≤ j) → ⊥
        at (inl front) = h.distinct i j d before front (sym (get_or_append_left cells (cell ∷ []) d i (omega (arith, before, front))) ∙ same ∙ get_or_append_left cells (cell ∷ []) d j front)
        at (inr back) =
            let here : length cells ≡ j = omega (arith, back, low, len) in
            let left : i < length cells = omega (arith, before, here) in
            let it : get_or cells i d ≡ cell = sym (get_or_append_left cells (cell ∷ []) d i left) ∙ same ∙ get_or_at cells cell [] d j here in
            let listed : is_listed cells cell ≡ true = listed_at cells cell (i, left, get_or_default cells i cell d left ∙ it) in
            absurd (cc (listed, none))

pub or_again : (a b c : Bool) → ((a || b) || c) ≡ (a || (b || c))
or_again true b c = refl
or_again false b c = refl

pub or_none : (b : Bool) → (b || false) ≡ b
or_none true = refl
or_none false = refl

-- a test with the cells of an id more
pub Lists-same : (s : Scale) (p q : List ℕ → Bool) (cells : List (List ℕ)) → ((c : List ℕ) → IsCell s c → p c ≡ q c) → Lists s p cells → Lists s q cells
Lists-same s p q cells same h = record {
  each = h.each;
  distinct = h.distinct;
  pass = λ c listed. sym (same c (All-contains (IsCell s) cells c h.each listed)) ∙ h.pass c listed;
  all = λ c is e. h.all c is (same c is ∙ e);
}

pub equal_tests : (a b : Bool) → (a ≡ true → b ≡ true) → (b ≡ true → a ≡ true) → a ≡ b
equal_tests true true f g = refl
equal_tests false false f g = refl
equal_tests true false f g = sym (f refl)
equal_tests false true f g = g refl

pub number_is : (a b : ℕ) → (a == b) ≡ true → a ≡ b
number_is a b e = grind (arith, nat_tests)

pub is_number : (a b : ℕ) → a ≡ b → (a == b) ≡ true
is_number a b e = grind (arith, nat_tests)

pub never : (b : Bool) → (b ≡ true → ⊥) → b ≡ false
never true h = absurd (h refl)
never false h = refl

-- ids that belong into an index, of those of its rows
pub home_any : (p : ℕ → Bool) (xs : List ℕ) (x : ℕ) → list_any (λ id. x == id) (filter p xs) ≡ (p x && list_any (λ id. x == id) xs)
home_any p [] x = sym (off (p x))
  where
    off : (b : Bool) → (b && false) ≡ false
    off true = refl
    off false = refl
home_any p (y ∷ ys) x = by (p y) refl (x == y) refl (home_any p ys x)
  where
    by : (a : Bool) → p y ≡ a → (b : Bool) → (x == y) ≡ b → list_any (λ id. x == id) (filter p ys) ≡ (p x && list_any (λ id. x == id) ys)
        → list_any (λ id. x == id) (filter p (y ∷ ys)) ≡ (p x && ((x == y) || list_any (λ id. x == id) ys))
    by true e true f later =
        let same : p x ≡ true = ap p (number_is x y f) ∙ e in
        rw e (ap (λ b. b || list_any (λ id. x == id) (filter p ys)) f ∙ sym (ap (λ b. b && ((x == y) || list_any (λ id. x == id) ys)) same ∙ ap (λ b. b || list_any (λ id. x == id) ys) f))
    by true e false f later = rw e (ap (λ b. b || list_any (λ id. x == id) (filter p ys)) f ∙ later ∙ sym (ap (λ b. p x && (b || list_any (λ id. x == id) ys)) f))
    by false e true f later =
        let same : p x ≡ false = ap p (number_is x y f) ∙ e in
        rw e (later ∙ ap (λ b. b && list_any (λ id. x == id) ys) same ∙ sym (ap (λ b. b && ((x == y) || list_any (λ id. x == id) ys)) same))
    by false e false f later = rw e (later ∙ sym (ap (λ b. p x && (b || list_any (λ id. x == id) ys)) f))
