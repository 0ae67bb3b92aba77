-- Where no shard is refused, what was judged are all cells that are stored, and they are few.
use Rattle.std.proofs.Common.{◌≡◌, ℕ, zero, suc, ◌+◌, ◌/◌, ◌^◌, ◌<◌, ◌≤◌, ◌==◌, nat_lt, Bool, true, false, ◌&&◌, ◌||◌, if◌then◌else◌, List, [], ◌∷◌, length, map, take, slice_index, Option, Some, None, refl, ap, ◌∙◌, sym, subst, arith}
use Rattle.std.specs.Prelude.{All, Contains, Result, Ok, Err, filter}
use Rattle.std.specs.List.{list_any, range_with_len}
use Rattle.std.proofs.lemmas.Bool.Decides.{nat_tests}
use Rattle.std.proofs.lemmas.List.{get_or_default, take_all}
use Rattle.std.proofs.lemmas.List.Elements.{All-contains, All-contains_itself, All-head, All-tail, All-weaker, filter_passes}
use Rattle.std.proofs.lemmas.List.Folds.{list_any_at, list_any_none}
use Rattle.std.proofs.lemmas.List.FromFn.{get_or-range_with_len, length-range_with_len}
use Rattle.std.proofs.lemmas.Nat.{mod_below, pow_pos}
use Rattle.vol_base.specs.Outside.{Objects}
use Rattle.vol_base.specs.declared.boxes.Box3.{Box3}
use Rattle.vol_base.specs.declared.faults.Fault.{Fault}
use Rattle.vol_spec.specs.BoxValues.{first_some}
use Rattle.vol_spec.specs.CellNames.{cell_name}
use Rattle.vol_spec.specs.Chunks.{chunk_in}
use Rattle.vol_spec.specs.Copies.{is_there}
use Rattle.vol_spec.specs.Grid.{IsCell, cells_on, numbers_on}
use Rattle.vol_spec.specs.Places.{hashed, id_of, shard_of}
use Rattle.vol_spec.specs.ShardNames.{shard_name}
use Rattle.vol_spec.specs.StoredBytes.{object_by, object_of}
use Rattle.vol_spec.specs.StoredCells.{met, met_cells}
use Rattle.vol_spec.specs.declared.scale.Scale.{Scale}
use Rattle.vol_spec.specs.declared.sharding.Sharding.{Sharding}
use Rattle.chunk_grid.proofs.ListingSteps.{Contains-filter, Contains-numbers_on}
use Rattle.chunk_grid.proofs.NameSteps.{cell_name-injective}
use Rattle.chunk_grid.proofs.OrderSteps.{AreInOrder-met_cells, AreInOrder-numbers_on}
use Rattle.chunk_grid.proofs.StoredSteps.{met-listed}
use Rattle.chunk_laws.proofs.PutShards.{same_shard}
use Rattle.chunk_laws.specs.Told.{is_listed}
use Rattle.update_laws.proofs.ShardKept.{kept_there}
use Rattle.update_laws.proofs.UpdateSteps.{any_of, some_of}
use Rattle.update_laws.specs.Judged.{TooManyCells, cells_or_none, cells_with, has_met, kept_cells, refusal_at, refusal_by, refusal_in, refusal_of, touched_shards}
use Rattle.update_laws.specs.Kept.{kept}
use Rattle.update_laws.specs.Overlaid.{after_cells, is_after, is_touched}

-- tests that agree on each of some cells
filter_alike : (p q : List ℕ → Bool) (P : List ℕ → Type 0) (xs : List (List ℕ)) → ((x : List ℕ) → P x → p x ≡ q x) → All P xs → filter p xs ≡ filter q xs
filter_alike p q P [] same h = refl
filter_alike p q P (x ∷ xs) same h = by (p x) (q x) (same x (All-head P x xs h)) refl refl (filter_alike p q P xs same (All-tail P x xs h))
  where
    by : (a b : Bool) → p x ≡ q x → p x ≡ a → q x ≡ b → filter p xs ≡ filter q xs → filter p (x ∷ xs) ≡ filter q (x ∷ xs)
    by true true e f g rest = rw (f, g) (ap (λ ys. x ∷ ys) rest)
    by false false e f g rest = rw (f, g) rest
    by true false e f g rest = absurd (cc (e, f, g))
    by false true e f g rest = absurd (cc (e, f, g))

-- a number that passes a test is one of those that do
module _ (test : ℕ → Bool) (bound : ℕ) where
  within_range : (n : ℕ) → n < bound → Contains (range_with_len 0 bound) n
  within_range n low = let len = length-range_with_len 0 bound in (n, omega arith, get_or-range_with_len 0 bound n n low ∙ omega arith)

listed_number : (test : ℕ → Bool) (xs : List ℕ) (n : ℕ) → Contains xs n → test n ≡ true → Contains (filter test xs) n
listed_number test xs n c e = Contains-filter test xs n c e

same_number : (a b : ℕ) → (a == b) ≡ true → a ≡ b
same_number a b e = grind (arith, nat_tests)

number_same : (a b : ℕ) → a ≡ b → (a == b) ≡ true
number_same a b e = grind (arith, nat_tests)

pub left_of : (a b : Bool) → (a && b) ≡ true → a ≡ true
left_of true b e = refl
left_of false b e = absurd (cc e)

pub right_of : (a b : Bool) → (a && b) ≡ true → b ≡ true
right_of true b e = e
right_of false b e = absurd (cc e)

not_both : (b : Bool) → b ≡ true → b ≡ false → ⊥
not_both true e f = cc f
not_both false e f = cc e

to_false : (b : Bool) → (b ≡ true → ⊥) → b ≡ false
to_false true h = absurd (h refl)
to_false false h = refl

module _ (m : Objects) (dataset : List ℕ) (s : Scale) (sharding : Sharding) (is : s.sharding ≡ Some sharding) (writes : List (Box3 × List ℕ)) where
  shard : List ℕ → ℕ
  shard cell = shard_of sharding (id_of s cell)

  object_is : (cell : List ℕ) → object_of dataset s cell ≡ shard_name dataset s (shard_of sharding (id_of s cell))
  object_is cell = ap (λ o. object_by o dataset s cell) is

  -- a cell is touched exactly where its shard has a cell that a write meets
  touched_has : (cell : List ℕ) → is_touched dataset s writes cell ≡ true → has_met s sharding writes (shard_of sharding (id_of s cell)) ≡ true
  touched_has cell e =
      let (d, (k, l, at), same) = some_of (object_of dataset s) (object_of dataset s cell) (met_cells s writes) e in
      let one : shard_of sharding (id_of s d) ≡ shard_of sharding (id_of s cell) = same_shard dataset s sharding is (id_of s d) (id_of s cell) (sym (object_is d) ∙ same ∙ object_is cell) in
      list_any_at (λ c. shard_of sharding (id_of s c) == shard_of sharding (id_of s cell)) (met_cells s writes) k d l
      (ap (λ c. shard_of sharding (id_of s c) == shard_of sharding (id_of s cell)) at ∙ number_same (shard_of sharding (id_of s d)) (shard_of sharding (id_of s cell)) one)

  met_of : (n : ℕ) (cells : List (List ℕ)) → list_any (λ c. shard_of sharding (id_of s c) == n) cells ≡ true → (d : List ℕ) × Contains cells d × (shard_of sharding (id_of s d) ≡ n)
  met_of n [] e = absurd (cc e)
  met_of n (c ∷ cells) e = by (shard_of sharding (id_of s c) == n) refl e (met_of n cells)
    where
      by : (b : Bool) → (shard_of sharding (id_of s c) == n) ≡ b → (b || list_any (λ c. shard_of sharding (id_of s c) == n) cells) ≡ true
          → (list_any (λ c. shard_of sharding (id_of s c) == n) cells ≡ true → (d : List ℕ) × Contains cells d × (shard_of sharding (id_of s d) ≡ n))
          → (d : List ℕ) × Contains (c ∷ cells) d × (shard_of sharding (id_of s d) ≡ n)
      by true same e later = (c, (0, omega arith, refl), same_number (shard_of sharding (id_of s c)) n same)
      by false same e later = let (d, (k, l, at), one) = later e in (d, (suc k, omega arith, at), one)

  has_touched : (cell : List ℕ) (n : ℕ) → has_met s sharding writes n ≡ true → shard_of sharding (id_of s cell) ≡ n → is_touched dataset s writes cell ≡ true
  has_touched cell n e one =
      let (d, listed, same) = met_of n (met_cells s writes) e in
      any_of (object_of dataset s) (object_of dataset s cell) (met_cells s writes) d listed (object_is d ∙ ap (shard_name dataset s) (same ∙ sym one) ∙ sym (object_is cell))

  abbrev shards : List ℕ
  shards = touched_shards s sharding writes

  listed_shard : (cell : List ℕ) → is_touched dataset s writes cell ≡ true → Contains (touched_shards s sharding writes) (shard_of sharding (id_of s cell))
  listed_shard cell e =
      listed_number (has_met s sharding writes) (range_with_len 0 (2 ^ sharding.shard_bits)) (shard_of sharding (id_of s cell))
      (within_range (has_met s sharding writes) (2 ^ sharding.shard_bits) (shard_of sharding (id_of s cell)) (mod_below (hashed sharding (id_of s cell) / 2 ^ sharding.minishard_bits) (2 ^ sharding.shard_bits) (pow_pos sharding.shard_bits)))
      (touched_has cell e)

  module _ (sound : (n : ℕ) → Contains (touched_shards s sharding writes) n → (cells : List (List ℕ)) × (kept m dataset s sharding n ≡ Ok cells)) where
    kept_are : (n : ℕ) → Contains (touched_shards s sharding writes) n → kept_cells m dataset s sharding n ≡ filter (λ cell. (shard_of sharding (id_of s cell) == n) && is_there (chunk_in m dataset s cell)) (numbers_on (cells_on s))
    kept_are n c = let (cells, e) = sound n c in ap cells_or_none e ∙ kept_there s sharding is m dataset n cells e

    -- a cell is kept of a shard where it is there
    kept_has : (cell : List ℕ) → IsCell s cell → is_touched dataset s writes cell ≡ true → is_there (chunk_in m dataset s cell) ≡ true → list_any (λ n. is_listed (kept_cells m dataset s sharding n) cell) (touched_shards s sharding writes) ≡ true
    kept_has cell one e there =
        let (k, l, at) = listed_shard cell e in
        let pass : ((shard_of sharding (id_of s cell) == shard_of sharding (id_of s cell)) && is_there (chunk_in m dataset s cell)) ≡ true =
        ap (λ b. b && is_there (chunk_in m dataset s cell)) (number_same (shard_of sharding (id_of s cell)) (shard_of sharding (id_of s cell)) refl) ∙ there in
        let listed : is_listed (filter (λ c. (shard_of sharding (id_of s c) == shard_of sharding (id_of s cell)) && is_there (chunk_in m dataset s c)) (numbers_on (cells_on s))) cell ≡ true =
        any_of (λ c. c) cell (filter (λ c. (shard_of sharding (id_of s c) == shard_of sharding (id_of s cell)) && is_there (chunk_in m dataset s c)) (numbers_on (cells_on s))) cell
        (Contains-filter (λ c. (shard_of sharding (id_of s c) == shard_of sharding (id_of s cell)) && is_there (chunk_in m dataset s c)) (numbers_on (cells_on s)) cell (Contains-numbers_on s cell one) pass) refl in
        list_any_at (λ n. is_listed (kept_cells m dataset s sharding n) cell) (touched_shards s sharding writes) k (shard_of sharding (id_of s cell)) l
        (ap (λ n. is_listed (kept_cells m dataset s sharding n) cell) at ∙ ap (λ cells. is_listed cells cell) (kept_are (shard_of sharding (id_of s cell)) (listed_shard cell e)) ∙ listed)

    -- and is both touched and there where it is kept of one
    kept_from : (cell : List ℕ) (n : ℕ) → Contains (touched_shards s sharding writes) n → is_listed (kept_cells m dataset s sharding n) cell ≡ true → (is_touched dataset s writes cell && is_there (chunk_in m dataset s cell)) ≡ true
    kept_from cell n c e =
        let listed : is_listed (filter (λ c. (shard_of sharding (id_of s c) == n) && is_there (chunk_in m dataset s c)) (numbers_on (cells_on s))) cell ≡ true = ap (λ cells. is_listed cells cell) (sym (kept_are n c)) ∙ e in
        let (d, there, same) = some_of (λ c. c) cell (filter (λ c. (shard_of sharding (id_of s c) == n) && is_there (chunk_in m dataset s c)) (numbers_on (cells_on s))) listed in
        let pass : ((shard_of sharding (id_of s d) == n) && is_there (chunk_in m dataset s d)) ≡ true =
        All-contains (λ c. ((shard_of sharding (id_of s c) == n) && is_there (chunk_in m dataset s c)) ≡ true) (filter (λ c. (shard_of sharding (id_of s c) == n) && is_there (chunk_in m dataset s c)) (numbers_on (cells_on s))) d
        (filter_passes (λ c. (shard_of sharding (id_of s c) == n) && is_there (chunk_in m dataset s c)) (numbers_on (cells_on s))) there in
        let mine : ((shard_of sharding (id_of s cell) == n) && is_there (chunk_in m dataset s cell)) ≡ true = subst (λ c. ((shard_of sharding (id_of s c) == n) && is_there (chunk_in m dataset s c)) ≡ true) same pass in
        let one : shard_of sharding (id_of s cell) ≡ n = same_number (shard_of sharding (id_of s cell)) n (left_of (shard_of sharding (id_of s cell) == n) (is_there (chunk_in m dataset s cell)) mine) in
        let has : has_met s sharding writes n ≡ true = All-contains (λ n. has_met s sharding writes n ≡ true) (touched_shards s sharding writes) n (filter_passes (has_met s sharding writes) (range_with_len 0 (2 ^ sharding.shard_bits))) c in
        ap (λ b. b && is_there (chunk_in m dataset s cell)) (has_touched cell n has one) ∙ right_of (shard_of sharding (id_of s cell) == n) (is_there (chunk_in m dataset s cell)) mine

    pub kept_test : (cell : List ℕ) → IsCell s cell → list_any (λ n. is_listed (kept_cells m dataset s sharding n) cell) (touched_shards s sharding writes) ≡ (is_touched dataset s writes cell && is_there (chunk_in m dataset s cell))
    kept_test cell one = by (is_touched dataset s writes cell) refl (is_there (chunk_in m dataset s cell)) refl
      where
        none : (is_touched dataset s writes cell && is_there (chunk_in m dataset s cell)) ≡ false → list_any (λ n. is_listed (kept_cells m dataset s sharding n) cell) (touched_shards s sharding writes) ≡ false
        none e =
            list_any_none (λ n. is_listed (kept_cells m dataset s sharding n) cell) (touched_shards s sharding writes)
            (All-weaker (Contains (touched_shards s sharding writes)) (λ n. is_listed (kept_cells m dataset s sharding n) cell ≡ false)
            (λ n c. to_false (is_listed (kept_cells m dataset s sharding n) cell) (λ f. not_both (is_touched dataset s writes cell && is_there (chunk_in m dataset s cell)) (kept_from cell n c f) e))
            (touched_shards s sharding writes) (All-contains_itself (touched_shards s sharding writes)))

        by : (a : Bool) → is_touched dataset s writes cell ≡ a → (b : Bool) → is_there (chunk_in m dataset s cell) ≡ b
            → list_any (λ n. is_listed (kept_cells m dataset s sharding n) cell) (touched_shards s sharding writes) ≡ (is_touched dataset s writes cell && is_there (chunk_in m dataset s cell))
        by true e true f = kept_has cell one e f ∙ sym (ap (λ x. x && is_there (chunk_in m dataset s cell)) e ∙ f)
        by true e false f = let off = ap (λ x. x && is_there (chunk_in m dataset s cell)) e ∙ f in none off ∙ sym off
        by false e b f = let off : (is_touched dataset s writes cell && is_there (chunk_in m dataset s cell)) ≡ false = ap (λ x. x && is_there (chunk_in m dataset s cell)) e in none off ∙ sym off

    -- so with all shards that are written anew the cells are those that are stored
    pub all_cells : cells_with m dataset s sharding writes (touched_shards s sharding writes) ≡ after_cells m dataset s writes
    unfolding after_cells
    all_cells =
        filter_alike (λ cell. met s writes cell || list_any (λ n. is_listed (kept_cells m dataset s sharding n) cell) (touched_shards s sharding writes)) (is_after m dataset s writes) (IsCell s) (numbers_on (cells_on s))
        (λ cell one. ap (λ b. met s writes cell || b) (kept_test cell one)) (AreInOrder-numbers_on s).each

-- what is refused at none of some places
each_place : {Y : Type 0} (f : ℕ → Option Y) (a n : ℕ) → first_some (map f (range_with_len a n)) ≡ None → (k : ℕ) → k < n → f (a + k) ≡ None
each_place f a zero e k h = absurd (omega arith)
each_place {Y = Y} f a (suc n) e k h = by (f a) refl e k h (each_place f (a + 1) n)
  where
    by : (o : Option Y) → f a ≡ o → first_some (o ∷ map f (range_with_len (a + 1) n)) ≡ None → (k : ℕ) → k < suc n
        → (first_some (map f (range_with_len (a + 1) n)) ≡ None → (k : ℕ) → k < n → f ((a + 1) + k) ≡ None) → f (a + k) ≡ None
    by (Some y) is e k h later = absurd (cc e)
    by None is e zero h later = let on : a + 0 ≡ a = omega arith in ap f on ∙ is
    by None is e (suc k) h later = let on : a + suc k ≡ (a + 1) + k = omega arith in ap f on ∙ later e k (omega arith)

few_if : (b : Bool) (count : ℕ) → nat_lt (2 ^ 22) count ≡ b → (if b then Some (TooManyCells count) else None) ≡ None → count ≤ 2 ^ 22
few_if true count is e = absurd (cc e)
few_if false count is e = grind (arith, nat_tests)

accepted : (n : ℕ) (seen : Result (List (List ℕ)) (ℕ × Fault)) (count : ℕ) → refusal_of n seen count ≡ None → ((cells : List (List ℕ)) × (seen ≡ Ok cells)) × (count ≤ 2 ^ 22)
accepted n (Ok cells) count e = ((cells, refl), few_if (nat_lt (2 ^ 22) count) count refl e)
accepted n (Err fault) count e = absurd (cc e)

or_none : (b : Bool) → (b || false) ≡ b
or_none true = refl
or_none false = refl

-- in a sharded scale
module _ (m : Objects) (dataset : List ℕ) (s : Scale) (sharding : Sharding) (is : s.sharding ≡ Some sharding) (writes : List (Box3 × List ℕ)) (none : refusal_by (Some sharding) m dataset s writes ≡ None) where
  at_place : (k : ℕ) → k < length (touched_shards s sharding writes) → ((cells : List (List ℕ)) × (kept m dataset s sharding (slice_index (touched_shards s sharding writes) k) ≡ Ok cells))
      × (length (cells_with m dataset s sharding writes (take (k + 1) (touched_shards s sharding writes))) ≤ 2 ^ 22)
  at_place k low =
      let on : 0 + k ≡ k = omega arith in
      accepted (slice_index (touched_shards s sharding writes) k) (kept m dataset s sharding (slice_index (touched_shards s sharding writes) k)) (length (cells_with m dataset s sharding writes (take (k + 1) (touched_shards s sharding writes))))
      (ap (refusal_at m dataset s sharding writes) (sym on) ∙ each_place (refusal_at m dataset s sharding writes) 0 (length (touched_shards s sharding writes)) none k low)

  pub all_kept : (n : ℕ) → Contains (touched_shards s sharding writes) n → (cells : List (List ℕ)) × (kept m dataset s sharding n ≡ Ok cells)
  all_kept n (k, low, at) =
      let same : slice_index (touched_shards s sharding writes) k ≡ n = get_or_default (touched_shards s sharding writes) k 0 n low ∙ at in
      let (cells, e) = (at_place k low).0 in
      (cells, ap (kept m dataset s sharding) (sym same) ∙ e)

  few_sharded : length (met_cells s writes) ≤ 2 ^ 22 → length (after_cells m dataset s writes) ≤ 2 ^ 22
  unfolding met_cells
  few_sharded few = by (length (touched_shards s sharding writes)) refl
    where
      all : length (cells_with m dataset s sharding writes (touched_shards s sharding writes)) ≡ length (after_cells m dataset s writes)
      all = ap length (all_cells m dataset s sharding is writes all_kept)

      alone : cells_with m dataset s sharding writes [] ≡ met_cells s writes
      alone = ap (λ p. filter p (numbers_on (cells_on s))) (λ i cell. or_none (met s writes cell) i)

      empty : (xs : List ℕ) → length xs ≡ 0 → xs ≡ []
      empty [] e = refl
      empty (x ∷ xs) e = absurd (omega arith)

      by : (k : ℕ) → length (touched_shards s sharding writes) ≡ k → length (after_cells m dataset s writes) ≤ 2 ^ 22
      by zero e =
          let no : touched_shards s sharding writes ≡ [] = empty (touched_shards s sharding writes) e in
          let count : length (cells_with m dataset s sharding writes (touched_shards s sharding writes)) ≡ length (met_cells s writes) = ap (λ xs. length (cells_with m dataset s sharding writes xs)) no ∙ ap length alone in
          omega (arith, all, count, few)
      by (suc k) e =
          let last = (at_place k (omega (arith, e))).1 in
          let whole : length (cells_with m dataset s sharding writes (take (k + 1) (touched_shards s sharding writes))) ≡ length (cells_with m dataset s sharding writes (touched_shards s sharding writes)) =
          ap (λ xs. length (cells_with m dataset s sharding writes xs)) (take_all (k + 1) (touched_shards s sharding writes) (omega (arith, e))) in
          omega (arith, all, last, whole)

-- in an unsharded scale only the cells that a write meets are stored
pub unsharded_test : (m : Objects) (dataset : List ℕ) (s : Scale) (writes : List (Box3 × List ℕ)) → s.sharding ≡ None → (cell : List ℕ) → IsCell s cell → is_after m dataset s writes cell ≡ met s writes cell
unsharded_test m dataset s writes is cell one = by cell one (met s writes cell) refl (is_touched dataset s writes cell) refl
  where
    by : (cell : List ℕ) → IsCell s cell → (a : Bool) → met s writes cell ≡ a → (b : Bool) → is_touched dataset s writes cell ≡ b → is_after m dataset s writes cell ≡ met s writes cell
    by cell one true e b f = ap (λ x. x || (is_touched dataset s writes cell && is_there (chunk_in m dataset s cell))) e ∙ sym e
    by cell one false e false f = ap (λ x. x || (is_touched dataset s writes cell && is_there (chunk_in m dataset s cell))) e ∙ ap (λ x. x && is_there (chunk_in m dataset s cell)) f ∙ sym e
    by cell one false e true f =
        let (d, listed, same) = some_of (object_of dataset s) (object_of dataset s cell) (met_cells s writes) f in
        let own : (c : List ℕ) → object_of dataset s c ≡ cell_name dataset s c = λ c. ap (λ o. object_by o dataset s c) is in
        let here : d ≡ cell = cell_name-injective dataset s d cell (All-contains (IsCell s) (met_cells s writes) d (AreInOrder-met_cells s writes).each listed) one (sym (own d) ∙ same ∙ own cell) in
        let yes : met s writes cell ≡ true = subst (λ c. met s writes c ≡ true) here (met-listed s writes d listed) in
        absurd (not_both (met s writes cell) yes e)

unsharded_after : (m : Objects) (dataset : List ℕ) (s : Scale) (writes : List (Box3 × List ℕ)) → s.sharding ≡ None → after_cells m dataset s writes ≡ met_cells s writes
unfolding after_cells met_cells
unsharded_after m dataset s writes is = filter_alike (is_after m dataset s writes) (met s writes) (IsCell s) (numbers_on (cells_on s)) (unsharded_test m dataset s writes is) (AreInOrder-numbers_on s).each

-- so where nothing is refused, the cells that are stored are few
pub judged_few : (m : Objects) (dataset : List ℕ) (s : Scale) (writes : List (Box3 × List ℕ)) → refusal_in m dataset s writes ≡ None → length (met_cells s writes) ≤ 2 ^ 22 → length (after_cells m dataset s writes) ≤ 2 ^ 22
unfolding refusal_in
judged_few m dataset s writes none few = by s.sharding refl none
  where
    by : (o : Option Sharding) → s.sharding ≡ o → refusal_by o m dataset s writes ≡ None → length (after_cells m dataset s writes) ≤ 2 ^ 22
    by None is e = let same = ap length (unsharded_after m dataset s writes is) in omega (arith, same, few)
    by (Some sharding) is e = few_sharded m dataset s sharding is writes e few
