-- The cells of a minishard are those whose ids stand in rows of it and belong there.
use Rattle.std.proofs.Common.{◌≡◌, ℕ, suc, ◌+◌, ◌-◌, ◌<◌, ◌==◌, Bool, true, false, ◌&&◌, ◌||◌, List, [], ◌∷◌, length, get_or, map, Option, Some, None, IfSome, refl, ap, ◌∙◌, subst, arith}
use Rattle.std.specs.Prelude.{AllPairs, Contains, Result, Ok, Err}
use Rattle.std.specs.FinMap as fin
use Rattle.std.specs.List.{list_any, range_with_len}
use Rattle.std.proofs.lemmas.Bool.Decides.{nat_tests}
use Rattle.std.proofs.lemmas.List.Elements.{All-contains, filter_passes}
use Rattle.std.proofs.lemmas.List.FromFn.{get_or-map-range_with_len, length-map-range_with_len}
use Rattle.std.proofs.lemmas.List.Kept.{AllPairs-filter}
use Rattle.vol_base.specs.Outside.{Objects}
use Rattle.vol_base.specs.declared.faults.ShardFault.{ShardFault}
use Rattle.vol_spec.specs.FoundChunks.{index_in, rows_in}
use Rattle.vol_spec.specs.Places.{id_of}
use Rattle.vol_spec.specs.Rows.{Columns, columns_of, id_at, judged_row}
use Rattle.vol_spec.specs.Types.{Writes}
use Rattle.vol_spec.specs.Verdicts.{belongs}
use Rattle.vol_spec.specs.declared.row.Row.{Row}
use Rattle.vol_spec.specs.declared.scale.Scale.{Scale}
use Rattle.vol_spec.specs.declared.sharding.Sharding.{Sharding}
use Rattle.update_laws.proofs.KeptSteps.{each_row, far}
use Rattle.update_laws.proofs.ShardKept.{index_rows}
use Rattle.update_laws.specs.Kept.{fault_behind, has_row, row_behind, rows_fault}
use Rattle.cell_lists.proofs.CountSteps.{Counts-same}
use Rattle.cell_lists.proofs.ListSteps.{home_any, or_none}
use Rattle.cell_lists.specs.Counted.{AreNew, Counts}
use Rattle.cell_lists.specs.declared.found.FoundCells.{FoundCells}
use Rattle.shard_keeper.specs.Keeping.{KeepsIndex, home_ids, ids_behind, index_ids}
use Rattle.shard_keeper.specs.declared.fault.KeepFault.{KeepFault}
use Rattle.shard_keeper.specs.declared.fault.KeepFault.TheVariants.{NotRead, OutOfMemory, Damaged}
use Rattle.kept_cells.specs.KeptCells.{CountsBy, IsFreeAt, StaysCounted, stands_at}

same_sides : (a b : ℕ) → (a == b) ≡ (b == a)
same_sides a b = grind (arith, nat_tests)

any_map : (f : ℕ → ℕ) (x : ℕ) (xs : List ℕ) → list_any (λ y. x == y) (map f xs) ≡ list_any (λ r. f r == x) xs
any_map f x [] = refl
any_map f x (r ∷ xs) = ap (λ b. b || list_any (λ y. x == y) (map f xs)) (same_sides x (f r)) ∙ ap (λ b. (f r == x) || b) (any_map f x xs)

module _ (sharding : Sharding) (shard m : ℕ) where
  -- the ids of sound rows ascend
  ascending : (c : Columns) (n : ℕ) → rows_fault c n ≡ None → length c.ids ≡ n → AllPairs (λ a b. a < b) (home_ids c sharding shard m n)
  ascending c n none len = AllPairs-filter (λ a b. a < b) (belongs sharding shard m) (map (id_at c) (range_with_len 0 n)) up
    where
      sound : (r : ℕ) → r < length c.ids → (row : Row) × (judged_row c r ≡ Ok row)
      sound r low =
          let on : 0 + r ≡ r = omega arith in
          subst (λ k. (row : Row) × (judged_row c k ≡ Ok row)) on (each_row c 0 n none r (omega (arith, low, len)))

      up : AllPairs (λ a b. a < b) (map (id_at c) (range_with_len 0 n))
      up i j d before low =
          let size = length-map-range_with_len (id_at c) 0 n in
          let right : j < n = omega (arith, low, size) in
          let left : i < n = omega (arith, before, right) in
          let to : i + suc (j - (i + 1)) ≡ j = omega (arith, before) in
          let more = far c 0 i (j - (i + 1)) sound (omega (arith, to, right, len)) in
          let less : id_at c i < id_at c j = subst (λ k. id_at c i < id_at c k) to more in
          let ei : get_or (map (id_at c) (range_with_len 0 n)) i d ≡ id_at c i = get_or-map-range_with_len (id_at c) 0 n i i d left (omega arith) in
          let ej : get_or (map (id_at c) (range_with_len 0 n)) j d ≡ id_at c j = get_or-map-range_with_len (id_at c) 0 n j j d right (omega arith) in
          omega (arith, less, ei, ej)

  -- an id is one of them exactly where it belongs there and stands in a row
  home_stands : (c : Columns) (n x : ℕ) → list_any (λ y. x == y) (home_ids c sharding shard m n) ≡ (belongs sharding shard m x && has_row c n x)
  home_stands c n x = home_any (belongs sharding shard m) (map (id_at c) (range_with_len 0 n)) x ∙ ap (λ b. belongs sharding shard m x && b) (any_map (id_at c) x (range_with_len 0 n))

  home_belongs : (c : Columns) (n x : ℕ) → Contains (home_ids c sharding shard m n) x → belongs sharding shard m x ≡ true
  home_belongs c n x listed = All-contains (λ y. belongs sharding shard m y ≡ true) (home_ids c sharding shard m n) x (filter_passes (belongs sharding shard m) (map (id_at c) (range_with_len 0 n))) listed

  -- the same by what the entry says
  module _ (object : List ℕ) (s : Scale) (writes : Writes) where
    ids_ascend : (seen : Result ℕ ShardFault) → rows_in object sharding m ≡ seen → fault_behind object sharding m seen ≡ None → AllPairs (λ a b. a < b) (ids_behind object sharding shard m seen)
    ids_ascend (Ok rows) is none = ascending (columns_of (index_in object sharding m rows)) rows none (index_rows object sharding m rows is)
    ids_ascend (Err fault) is none = absurd (cc none)

    ids_stand : (seen : Result ℕ ShardFault) (x : ℕ) → fault_behind object sharding m seen ≡ None → list_any (λ y. x == y) (ids_behind object sharding shard m seen) ≡ (belongs sharding shard m x && row_behind object sharding m x seen)
    ids_stand (Ok rows) x none = home_stands (columns_of (index_in object sharding m rows)) rows x
    ids_stand (Err fault) x none = absurd (cc none)

    ids_new : (seen : Result ℕ ShardFault) (test : List ℕ → Bool) → fault_behind object sharding m seen ≡ None → IsFreeAt s sharding writes shard m test → AreNew s test writes (ids_behind object sharding shard m seen)
    ids_new (Ok rows) test none free = λ cell is listed. free cell is (home_belongs (columns_of (index_in object sharding m rows)) rows (id_of s cell) listed)
    ids_new (Err fault) test none free = absurd (cc none)

module _ (s : Scale) (sharding : Sharding) (writes : Writes) (shard m : ℕ) where
  nothing_ascends : AllPairs (λ a b. a < b) []
  nothing_ascends i j d before low = absurd (omega arith)

  nothing_new : (test : List ℕ → Bool) → AreNew s test writes []
  nothing_new test cell is (k, l, e) = absurd (omega arith)

  -- what counting some ids says
  abbrev CountsIds : List ℕ → FoundCells → FoundCells → Type 0
  CountsIds ids old new = (test : List ℕ → Bool) → Counts s test old → AllPairs (λ a b. a < b) ids → AreNew s test writes ids → Counts s (λ c. test c || list_any (λ id. id_of s c == id) ids) new

  counts_none : (ids : List ℕ) (old new : FoundCells) → ids ≡ [] → CountsIds ids old new → StaysCounted s old new
  counts_none ids old new none counted =
      let by = subst (λ xs. CountsIds xs old new) none counted in
      λ test h. Counts-same s (λ c. test c || list_any (λ (id : ℕ). id_of s c == id) []) test new (λ c is. or_none (test c)) (by test h nothing_ascends (nothing_new test))

  counted_by : (object : Option (List ℕ)) (there : Bool) (ids : List ℕ) (old new : FoundCells) → KeepsIndex object sharding shard m [] (Ok there) ids → CountsIds ids old new → CountsBy object s sharding writes shard m (Ok there) old new
  counted_by None true ids old new h counted = absurd h
  counted_by None false ids old new h counted = counts_none ids old new h counted
  counted_by (Some object) false ids old new h counted = absurd h
  counted_by (Some object) true ids old new h counted =
      let by = subst (λ xs. CountsIds xs old new) h.behind counted in
      record {
        sound = h.sound;
        counted = λ test was free.
            Counts-same s (λ c. test c || list_any (λ id. id_of s c == id) (index_ids object sharding shard m)) (λ c. test c || stands_at object sharding shard m (id_of s c)) new
            (λ c is. ap (λ b. test c || b) (ids_stand sharding shard m object s writes (rows_in object sharding m) (id_of s c) h.sound))
            (by test was (ids_ascend sharding shard m object s writes (rows_in object sharding m) refl h.sound) (ids_new sharding shard m object s writes (rows_in object sharding m) test h.sound free));
      }

  fault_by : (object : Option (List ℕ)) (fault : KeepFault) (first ids : List ℕ) (old new : FoundCells) → KeepsIndex object sharding shard m first (Err fault) ids → CountsBy object s sharding writes shard m (Err fault) old new
  fault_by object NotRead first ids old new h = tt
  fault_by object OutOfMemory first ids old new h = tt
  fault_by None (Damaged fault) first ids old new h = absurd h
  fault_by (Some object) (Damaged fault) first ids old new h = h

  pub minishard_counted : (o : Option Objects) (name : List ℕ) (r : Result Bool KeepFault) (there : Bool) (first ids : List ℕ) (old new : FoundCells) → r ≡ Ok there → first ≡ [] → IfSome o (λ objects. KeepsIndex (fin.get objects name) sharding shard m first r ids)
      → CountsIds ids old new → IfSome o (λ objects. CountsBy (fin.get objects name) s sharding writes shard m (Ok there) old new)
  minishard_counted None name r there first ids old new is none h counted = tt
  minishard_counted (Some objects) name r there first ids old new is none h counted =
      counted_by (fin.get objects name) there ids old new
      (subst (λ xs. KeepsIndex (fin.get objects name) sharding shard m xs (Ok there) ids) none (subst (λ x. KeepsIndex (fin.get objects name) sharding shard m first x ids) is h)) counted

  pub minishard_refused : (o : Option Objects) (name : List ℕ) (r : Result Bool KeepFault) (fault : KeepFault) (first ids : List ℕ) (old new : FoundCells) → r ≡ Err fault → IfSome o (λ objects. KeepsIndex (fin.get objects name) sharding shard m first r ids)
      → IfSome o (λ objects. CountsBy (fin.get objects name) s sharding writes shard m (Err fault) old new)
  minishard_refused None name r fault first ids old new is h = tt
  minishard_refused (Some objects) name r fault first ids old new is h = fault_by (fin.get objects name) fault first ids old new (subst (λ x. KeepsIndex (fin.get objects name) sharding shard m first x ids) is h)

  pub minishard_short : (o : Option Objects) (name : List ℕ) (old new : FoundCells) → IfSome o (λ objects. CountsBy (fin.get objects name) s sharding writes shard m (Err OutOfMemory) old new)
  minishard_short None name old new = tt
  minishard_short (Some objects) name old new = tt
