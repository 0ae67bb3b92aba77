-- Cells that are counted, one more.
use Rattle.std.proofs.Common.{◌≡◌, ◌≢◌, ℕ, suc, ◌+◌, ◌^◌, ◌<◌, ◌≤◌, ◌==◌, nat_lt, if◌then◌else◌, Bool, true, false, ◌||◌, List, [], ◌∷◌, ◌++◌, length, length-append, length-take, get_or, take, refl, ap, ◌∙◌, sym, subst, arith}
use Rattle.std.specs.Prelude.{AllPairs, Contains, Err, Ok, OnOk, Result, ⊤}
use Rattle.std.specs.List.{list_any}
use Rattle.std.specs.Str.{bytes_eq}
use Rattle.std.proofs.lemmas.Bool.Decides.{nat_tests}
use Rattle.std.proofs.lemmas.List.{get_or-take, take_all}
use Rattle.std.proofs.lemmas.List.Folds.{list_any_more}
use Rattle.std.proofs.lemmas.Slice.Eq.{bytes_eq-Decides}
use Rattle.vol_spec.specs.Grid.{IsCell}
use Rattle.vol_spec.specs.Places.{id_of}
use Rattle.vol_spec.specs.StoredCells.{met}
use Rattle.vol_spec.specs.Types.{Writes}
use Rattle.vol_spec.specs.declared.scale.Scale.{Scale}
use Rattle.chunk_laws.proofs.ShardLaw.{id_of-tells}
use Rattle.chunk_laws.specs.Told.{is_listed}
use Rattle.cell_lists.specs.Counted.{AreNew, Counts, CountsBut, IsShort, IsWhole}
use Rattle.cell_lists.specs.Lists.{AreDistinct, Lists}
use Rattle.cell_lists.specs.declared.found.FoundCells.{FoundCells}
use Rattle.cell_lists.proofs.ListSteps.{Lists-push, Lists-same, equal_tests, is_number, listed_from, never, number_is, or_again, or_none}

-- tests that agree on the grid
pub Counts-same : (s : Scale) (p q : List ℕ → Bool) (found : FoundCells) → ((c : List ℕ) → IsCell s c → p c ≡ q c) → Counts s p found → Counts s q found
Counts-same s p q found same h = record { all = h.all; listed = Lists-same s p q h.all same h.listed; counted = h.counted; kept = h.kept }

unlisted : (s : Scale) (test : List ℕ → Bool) (all : List (List ℕ)) (cell : List ℕ) → Lists s test all → test cell ≡ false → is_listed all cell ≡ false
unlisted s test all cell h none = never (is_listed all cell) (λ e. let passes = h.pass cell (listed_from all cell e) in absurd (cc (passes, none)))

-- one cell more, that is kept while they are few
pub count_one : (s : Scale) (test : List ℕ → Bool) (old new : FoundCells) (cell : List ℕ) → Counts s test old → IsCell s cell → test cell ≡ false → new.count ≡ old.count + 1
    → new.cells.items ≡ (if nat_lt old.count (2 ^ 22) then old.cells.items ++ cell ∷ [] else old.cells.items) → Counts s (λ c. test c || bytes_eq cell c) new
count_one s test old new cell h is none counted items = record {
  all = h.all ++ cell ∷ [];
  listed = Lists-push s test h.all cell h.listed is (unlisted s test h.all cell h.listed none);
  counted = (let len = length-append h.all (cell ∷ []) in omega (arith, counted, len, h.counted));
  kept = λ small. (let few : old.count < 2 ^ 22 = omega (arith, small, counted) in
      let yes : nat_lt old.count (2 ^ 22) ≡ true = grind (arith, nat_tests) in
      items ∙ ap (λ b. if b then old.cells.items ++ cell ∷ [] else old.cells.items) yes ∙ ap (λ xs. xs ++ cell ∷ []) (h.kept (omega (arith, few))));
}

-- and no more are kept than are counted
pub short_one : (old new : FoundCells) (cell : List ℕ) → IsShort old → new.count ≡ old.count + 1
    → new.cells.items ≡ (if nat_lt old.count (2 ^ 22) then old.cells.items ++ cell ∷ [] else old.cells.items) → IsShort new
short_one old new cell h counted items = by (nat_lt old.count (2 ^ 22)) refl
  where
    put : Bool → List (List ℕ)
    put b = if b then old.cells.items ++ cell ∷ [] else old.cells.items

    by : (b : Bool) → nat_lt old.count (2 ^ 22) ≡ b → IsShort new
    by true e =
        let low : old.count < 2 ^ 22 = grind (arith, nat_tests) in
        let len : length new.cells.items ≡ length old.cells.items + 1 = ap length (items ∙ ap put e) ∙ length-append old.cells.items (cell ∷ []) in
        record { counted = omega (arith, len, counted, h.counted); few = omega (arith, len, low, h.counted) }
    by false e =
        let len : length new.cells.items ≡ length old.cells.items = ap length (items ∙ ap put e) in
        record { counted = omega (arith, len, counted, h.counted); few = omega (arith, len, h.few) }

-- by its id
module _ (s : Scale) (test : List ℕ → Bool) (writes : Writes) (id : ℕ) where
  pub Counts-no_id : (found : FoundCells) → ((cell : List ℕ) → IsCell s cell → id_of s cell ≢ id) → Counts s test found → Counts s (λ c. test c || (id_of s c == id)) found
  Counts-no_id found none h =
      Counts-same s test (λ c. test c || (id_of s c == id)) found (λ c is. sym (ap (λ b. test c || b) (never (id_of s c == id) (λ e. none c is (number_is (id_of s c) id e))) ∙ or_none (test c))) h

  pub Counts-met : (found : FoundCells) (cell : List ℕ) → IsCell s cell → id_of s cell ≡ id → test cell ≡ true → Counts s test found → Counts s (λ c. test c || (id_of s c == id)) found
  Counts-met found cell is own passes h = Counts-same s test (λ c. test c || (id_of s c == id)) found (λ c one. by c one (id_of s c == id) refl) h
    where
      by : (c : List ℕ) → IsCell s c → (b : Bool) → (id_of s c == id) ≡ b → test c ≡ (test c || b)
      by c one false e = sym (or_none (test c))
      by c one true e =
          let same : cell ≡ c = id_of-tells s cell c is one (own ∙ sym (number_is (id_of s c) id e)) in
          let t : test c ≡ true = ap test (sym same) ∙ passes in
          t ∙ sym (ap (λ b. b || true) t)

  pub Counts-id : (found : FoundCells) (cell : List ℕ) → IsCell s cell → id_of s cell ≡ id → Counts s (λ c. test c || bytes_eq cell c) found → Counts s (λ c. test c || (id_of s c == id)) found
  Counts-id found cell is own h =
      Counts-same s (λ c. test c || bytes_eq cell c) (λ c. test c || (id_of s c == id)) found
      (λ c one.
      ap (λ b. test c || b)
      (equal_tests (bytes_eq cell c) (id_of s c == id) (λ same. is_number (id_of s c) id (ap (id_of s) (sym ((bytes_eq-Decides cell c).0 same)) ∙ own))
      (λ same. (bytes_eq-Decides cell c).1 (id_of-tells s cell c is one (own ∙ sym (number_is (id_of s c) id same))))))
      h

  -- what counting a cell says of its id
  pub Counts-ok_id : {E : Type 0} (r : Result ⊤ E) (old new : FoundCells) (cell : List ℕ) → IsCell s cell → id_of s cell ≡ id → met s writes cell ≡ false
      → OnOk r ((s : Scale) (test : List ℕ → Bool) → Counts s test old → IsCell s cell → test cell ≡ false → Counts s (λ c. test c || bytes_eq cell c) new)
      → OnOk r (Counts s test old → ((c : List ℕ) → IsCell s c → id_of s c ≡ id → test c ≡ met s writes c) → Counts s (λ c. test c || (id_of s c == id)) new)
  Counts-ok_id (Ok done) old new cell is own none counted = λ h free. Counts-id new cell is own (counted s test h is (free cell is own ∙ none))
  Counts-ok_id (Err fault) old new cell is own none counted = tt

pub all_tests : {E : Type 0} (r : Result ⊤ E) (A : (List ℕ → Bool) → Type 0) → ((test : List ℕ → Bool) → OnOk r (A test)) → OnOk r ((test : List ℕ → Bool) → A test)
all_tests (Ok done) A h = h
all_tests (Err fault) A h = tt

pub any_from : (ids : List ℕ) (x : ℕ) → list_any (λ id. x == id) ids ≡ true → Contains ids x
any_from [] x e = absurd (cc e)
any_from (y ∷ ids) x e = by (x == y) refl e (any_from ids x)
  where
    by : (b : Bool) → (x == y) ≡ b → (b || list_any (λ id. x == id) ids) ≡ true → (list_any (λ id. x == id) ids ≡ true → Contains ids x) → Contains (y ∷ ids) x
    by true same e later = (0, omega arith, sym (number_is x y same))
    by false same e later = let (k, l, at) = later e in (suc k, omega arith, at)

-- one of some ascending ids isn't among those before it
pub not_before : (ids : List ℕ) (i x : ℕ) → AllPairs (λ a b. a < b) ids → i < length ids → get_or ids i x ≡ x → list_any (λ id. x == id) (take i ids) ≡ false
not_before ids i x up low at = never (list_any (λ id. x == id) (take i ids)) (λ e. clash (any_from (take i ids) x e))
  where
    clash : Contains (take i ids) x → ⊥
    clash (k, l, e) =
        let len = length-take i ids in
        let before : k < i = omega (arith, l, len) in
        let here : get_or ids k x ≡ x = sym (get_or-take i ids k x before) ∙ e in
        let less : get_or ids k x < get_or ids i x = up k i x before low in
        omega (arith, less, here, at)

-- along some ids
module _ (s : Scale) (test : List ℕ → Bool) (writes : Writes) (ids : List ℕ) where
  pub count_free : (i id : ℕ) → AllPairs (λ a b. a < b) ids → AreNew s test writes ids → i < length ids → get_or ids i id ≡ id → (c : List ℕ) → IsCell s c → id_of s c ≡ id → (test c || list_any (λ k. id_of s c == k) (take i ids)) ≡ met s writes c
  count_free i id up new low at c is own =
      let x : ℕ = id_of s c in
      let here : get_or ids i x ≡ x = ap (get_or ids i) own ∙ at ∙ sym own in
      ap (λ b. test c || b) (not_before ids i x up low here) ∙ or_none (test c) ∙ new c is (i, low, here)

  pub Counts-more : (found : FoundCells) (i id : ℕ) → i < length ids → get_or ids i id ≡ id → Counts s (λ c. (test c || list_any (λ k. id_of s c == k) (take i ids)) || (id_of s c == id)) found → Counts s (λ c. test c || list_any (λ k. id_of s c == k) (take (i + 1) ids)) found
  Counts-more found i id low at h =
      Counts-same s (λ c. (test c || list_any (λ k. id_of s c == k) (take i ids)) || (id_of s c == id)) (λ c. test c || list_any (λ k. id_of s c == k) (take (i + 1) ids)) found
      (λ c is.
      or_again (test c) (list_any (λ k. id_of s c == k) (take i ids)) (id_of s c == id)
      ∙ ap (λ x. test c || (list_any (λ k. id_of s c == k) (take i ids) || (id_of s c == x))) (sym at)
      ∙ ap (λ b. test c || b) (sym (list_any_more (λ k. id_of s c == k) ids i id low))) h

  pub Counts-none : (found : FoundCells) → Counts s test found → Counts s (λ c. test c || list_any (λ (id : ℕ). id_of s c == id) []) found
  Counts-none found h = Counts-same s test (λ c. test c || false) found (λ c is. sym (or_none (test c))) h

  pub Counts-all : (found : FoundCells) (i : ℕ) → length ids ≤ i → Counts s (λ c. test c || list_any (λ id. id_of s c == id) (take i ids)) found → Counts s (λ c. test c || list_any (λ id. id_of s c == id) ids) found
  Counts-all found i past h = subst (λ xs. Counts s (λ c. test c || list_any (λ id. id_of s c == id) xs) found) (take_all i ids past) h

-- cells that are few are all kept
pub counts_whole : (s : Scale) (test : List ℕ → Bool) (found : FoundCells) → found.count ≤ 2 ^ 22 → Counts s test found → IsWhole s found
counts_whole s test found few h = record {
  distinct = subst (AreDistinct s) (sym (h.kept few)) (record { each = h.listed.each; distinct = h.listed.distinct });
  count = h.counted ∙ ap length (sym (h.kept few));
}

-- the cells of ascending ids that pass a test
pub counts_but : (s : Scale) (test there : List ℕ → Bool) (ids : List ℕ) (new : FoundCells) → ((c : List ℕ) → Contains ids (id_of s c) → there c ≡ true) → Counts s (λ c. test c || list_any (λ id. id_of s c == id) ids) new
    → CountsBut s test there new
counts_but s test there ids new passes h = record {
  more = λ c. test c || list_any (λ id. id_of s c == id) ids;
  counts = h;
  same = λ c is off.
      ap (λ b. test c || b) (never (list_any (λ id. id_of s c == id) ids) (λ e. (let yes = passes c (any_from ids (id_of s c) e) in absurd (cc (yes, off))))) ∙ or_none (test c);
}
