-- Only cells of a shard are counted anew as it is judged, whatever a store tells.
use Rattle.std.proofs.Common.{◌≡◌, ℕ, ◌+◌, ◌<◌, ◌≤◌, ◌==◌, ◌^◌, nat_lt, Bool, true, false, ◌&&◌, ◌||◌, List, [], ◌++◌, length, get_or, take, refl, ap, ◌∙◌, sym, subst, arith}
use Rattle.std.specs.Prelude.{AllPairs}
use Rattle.std.specs.List.{list_any}
use Rattle.std.proofs.lemmas.Bool.Decides.{nat_tests}
use Rattle.std.proofs.lemmas.List.{get_or_default}
use Rattle.std.proofs.lemmas.List.Elements.{All-contains}
use Rattle.std.proofs.lemmas.List.Folds.{list_any_more}
use Rattle.vol_spec.specs.Places.{id_of, minishard_of, shard_of}
use Rattle.vol_spec.specs.StoredCells.{met}
use Rattle.vol_spec.specs.Types.{Writes}
use Rattle.vol_spec.specs.Verdicts.{belongs}
use Rattle.vol_spec.specs.declared.scale.Scale.{Scale}
use Rattle.vol_spec.specs.declared.sharding.Sharding.{Sharding}
use Rattle.update_laws.proofs.UpdateSteps.{or_left}
use Rattle.cell_lists.proofs.CountSteps.{counts_but, counts_whole, not_before}
use Rattle.cell_lists.proofs.ListSteps.{number_is}
use Rattle.cell_lists.specs.Counted.{AreNew, Counts, CountsBut, IsWhole}
use Rattle.cell_lists.specs.declared.found.FoundCells.{FoundCells}
use Rattle.shard_keeper.specs.Keeping.{Adds}
use Rattle.kept_cells.specs.KeptCells.{CountsOfIndex, CountsOfShard, IsFree}

-- of two numbers of a shard and a minishard
at_shard : (t : Bool) (b n : ℕ) → (t && (b == n)) ≡ true → t ≡ true
at_shard true b n e = refl
at_shard false b n e = absurd (cc e)

not_front : (t : Bool) (b n : ℕ) → (t && (b == n)) ≡ true → (t && nat_lt b n) ≡ false
not_front true b n e = grind (arith, nat_tests)
not_front false b n e = refl

off_here : (t : Bool) (b n : ℕ) → (t && nat_lt b (n + 1)) ≡ false → (t && (b == n)) ≡ false
off_here true b n e = grind (arith, nat_tests)
off_here false b n e = refl

off_front : (t : Bool) (b n : ℕ) → (t && nat_lt b (n + 1)) ≡ false → (t && nat_lt b n) ≡ false
off_front true b n e = grind (arith, nat_tests)
off_front false b n e = refl

or_right : (a b : Bool) → (a || b) ≡ false → b ≡ false
or_right true b e = absurd (cc e)
or_right false b e = e

module _ (s : Scale) (sharding : Sharding) (writes : Writes) (shard : ℕ) where
  -- what counting the ids of an index says
  pub index_counted : (m : ℕ) (first kept ids : List ℕ) (old new : FoundCells) → first ≡ [] → ids ≡ kept → Adds sharding shard m first kept
      → ((test : List ℕ → Bool) → Counts s test old → AllPairs (λ a b. a < b) ids → AreNew s test writes ids → Counts s (λ c. test c || list_any (λ id. id_of s c == id) ids) new) → CountsOfIndex s sharding writes shard m old new
  index_counted m first kept ids old new none same adds counted test was free =
      let are : ids ≡ adds.added = same ∙ adds.behind ∙ ap (λ xs. xs ++ adds.added) none in
      let by = subst
      (λ xs. (test : List ℕ → Bool) → Counts s test old → AllPairs (λ a b. a < b) xs → AreNew s test writes xs → Counts s (λ c. test c || list_any (λ id. id_of s c == id) xs) new) are counted in
      counts_but s test (λ c. belongs sharding shard m (id_of s c)) adds.added new (λ c listed. All-contains (λ id. belongs sharding shard m id ≡ true) adds.added (id_of s c) adds.home listed)
      (by test was adds.rising (λ c is listed. free c is (All-contains (λ id. belongs sharding shard m id ≡ true) adds.added (id_of s c) adds.home listed)))

  -- the cells of the first n minishards
  abbrev pub CountsOfFront : ℕ → FoundCells → FoundCells → Type 0
  CountsOfFront n old new = (test : List ℕ → Bool) → Counts s test old → IsFree s sharding writes shard test →
      CountsBut s test (λ c. (shard_of sharding (id_of s c) == shard) && nat_lt (minishard_of sharding (id_of s c)) n) new

  pub front_none : (found : FoundCells) → CountsOfFront 0 found found
  front_none found test was free = record { more = test; counts = was; same = λ c is off. refl }

  pub front_more : (n : ℕ) (old mid new : FoundCells) → CountsOfFront n old mid → CountsOfIndex s sharding writes shard n mid new → CountsOfFront (n + 1) old new
  front_more n old mid new front index test h free =
      let was = front test h free in
      let now = index was.more was.counts
      (λ c is here.
      let t : Bool = shard_of sharding (id_of s c) == shard in
      was.same c is (not_front t (minishard_of sharding (id_of s c)) n here) ∙ free c is (number_is (shard_of sharding (id_of s c)) shard (at_shard t (minishard_of sharding (id_of s c)) n here))) in
      record {
        more = now.more;
        counts = now.counts;
        same = λ c is off.
            let t : Bool = shard_of sharding (id_of s c) == shard in
            let b : ℕ = minishard_of sharding (id_of s c) in
            now.same c is (off_here t b n off) ∙ was.same c is (off_front t b n off);
      }

  pub front_all : (n : ℕ) (old new : FoundCells) → CountsOfFront n old new → CountsOfShard s sharding writes shard old new
  front_all n old new front test h free =
      let was = front test h free in
      record { more = was.more; counts = was.counts; same = λ c is off. was.same c is (ap (λ t. t && nat_lt (minishard_of sharding (id_of s c)) n) off) }

-- whether a cell is of one of some shards
abbrev pub is_of : Scale → Sharding → List ℕ → List ℕ → Bool
is_of s sharding shards c = list_any (λ n. shard_of sharding (id_of s c) == n) shards

module _ (s : Scale) (sharding : Sharding) (writes : Writes) where
  pub shards_none : (found : FoundCells) → Counts s (met s writes) found → CountsBut s (met s writes) (is_of s sharding []) found
  shards_none found h = record { more = met s writes; counts = h; same = λ c is off. refl }

  -- one shard more
  pub shards_more : (shards : List ℕ) (k n : ℕ) (old new : FoundCells) → AllPairs (λ a b. a < b) shards → k < length shards → n ≡ get_or shards k 0 → CountsBut s (met s writes) (is_of s sharding (take k shards)) old
      → CountsOfShard s sharding writes n old new → CountsBut s (met s writes) (is_of s sharding (take (k + 1) shards)) new
  shards_more shards k n old new up low at was shard =
      let now = shard was.more was.counts
      (λ c is here.
      let x : ℕ = shard_of sharding (id_of s c) in
      was.same c is (not_before shards k x up low (get_or_default shards k x 0 low ∙ sym at ∙ sym here))) in
      record {
        more = now.more;
        counts = now.counts;
        same = λ c is off.
            let x : ℕ = shard_of sharding (id_of s c) in
            let both : (list_any (λ m. x == m) (take k shards) || (x == get_or shards k 0)) ≡ false = sym (list_any_more (λ m. x == m) shards k 0 low) ∙ off in
            now.same c is (ap (λ m. x == m) at ∙ or_right (list_any (λ m. x == m) (take k shards)) (x == get_or shards k 0) both)
            ∙ was.same c is (or_left (list_any (λ m. x == m) (take k shards)) (x == get_or shards k 0) both);
      }

  pub shards_whole : (there : List ℕ → Bool) (found : FoundCells) → found.count ≤ 2 ^ 22 → CountsBut s (met s writes) there found → IsWhole s found
  shards_whole there found few h = counts_whole s h.more found few h.counts
