-- The cells of a shard, minishard by minishard.
use Rattle.std.proofs.Common.{◌≡◌, ◌≢◌, ℕ, zero, suc, ◌+◌, ◌^◌, ◌<◌, ◌≤◌, ◌==◌, Bool, true, false, ◌&&◌, ◌||◌, List, [], Option, Some, None, IfSome, refl, ap, ◌∙◌, sym, subst, arith}
use Rattle.std.specs.Prelude.{Result, Ok, Err, filter}
use Rattle.std.specs.FinMap as fin
use Rattle.std.specs.List.{list_any, range_with_len}
use Rattle.std.proofs.lemmas.Bool.Decides.{nat_tests}
use Rattle.std.proofs.lemmas.List.Elements.{All-contains, filter_passes}
use Rattle.std.proofs.lemmas.Nat.{mod_below, pow_pos}
use Rattle.std.proofs.Math.Nat.{pow-le-pow_right}
use Rattle.vol_base.specs.Outside.{Objects}
use Rattle.vol_base.specs.declared.faults.Fault.{Fault}
use Rattle.vol_spec.specs.FoundChunks.{rows_in}
use Rattle.vol_spec.specs.Grid.{IsCell, cells_on, numbers_on}
use Rattle.vol_spec.specs.Places.{hashed, id_of, minishard_of, shard_of}
use Rattle.vol_spec.specs.ShardNames.{shard_name}
use Rattle.vol_spec.specs.StoredCells.{met}
use Rattle.vol_spec.specs.Types.{Writes}
use Rattle.vol_spec.specs.Verdicts.{belongs}
use Rattle.vol_spec.specs.declared.scale.Scale.{Scale}
use Rattle.vol_spec.specs.declared.sharding.Sharding.{Sharding}
use Rattle.chunk_grid.proofs.ListingSteps.{Contains-filter, Contains-numbers_on}
use Rattle.chunk_laws.specs.Told.{is_listed}
use Rattle.index_judge.proofs.RowSteps.{first_here, none_more}
use Rattle.update_laws.proofs.JudgedSteps.{left_of, right_of}
use Rattle.update_laws.specs.Judged.{cells_or_none, kept_cells}
use Rattle.update_laws.specs.Kept.{kept, kept_of, kept_unless, minishard_fault, row_behind, standing, stands}
use Rattle.cell_lists.proofs.CountSteps.{Counts-same}
use Rattle.cell_lists.proofs.ListSteps.{equal_tests, listed_at, listed_from, never, number_is, or_again, or_none}
use Rattle.cell_lists.specs.declared.found.FoundCells.{FoundCells}
use Rattle.shard_keeper.specs.declared.fault.KeepFault.{KeepFault}
use Rattle.shard_keeper.specs.declared.fault.KeepFault.TheVariants.{NotRead, OutOfMemory, Damaged}
use Rattle.kept_cells.specs.KeptCells.{CountsBelow, CountsBy, CountsIndex, CountsKept, CountsSome, IsFree, KeepsCells, StaysCounted, fault_below, numbered, refused_by, stands_at, stands_below, with_number}

any_more : (g : ℕ → Bool) (a n : ℕ) → list_any g (range_with_len a (suc n)) ≡ (list_any g (range_with_len a n) || g (a + n))
any_more g a zero = let e : a ≡ a + 0 = omega arith in or_none (g a) ∙ ap g e
any_more g a (suc n) =
    let e : (a + 1) + n ≡ a + suc n = omega arith in
    ap (λ b. g a || b) (any_more g (a + 1) n) ∙ ap (λ k. g a || (list_any g (range_with_len (a + 1) n) || g k)) e ∙ sym (or_again (g a) (list_any g (range_with_len (a + 1) n)) (g (a + suc n)))

-- of one number in a range
module _ (f : ℕ → Bool) (x : ℕ) where
  abbrev here : ℕ → Bool
  here m = (x == m) && f m

  misses : (n a : ℕ) → ((k : ℕ) → k < n → x ≢ a + k) → list_any here (range_with_len a n) ≡ false
  misses zero a h = refl
  misses (suc n) a h =
      let first : a + 0 ≡ a = omega arith in
      let off : (x == a) ≡ false = never (x == a) (λ e. h 0 (omega arith) (number_is x a e ∙ sym first)) in
      ap (λ b. (b && f a) || list_any here (range_with_len (a + 1) n)) off
      ∙ misses n (a + 1) (λ k l e.
      let on : (a + 1) + k ≡ a + suc k = omega arith in
      h (suc k) (omega (arith, l)) (e ∙ on))

  picks : (n a : ℕ) → a ≤ x → x < a + n → list_any here (range_with_len a n) ≡ f x
  picks zero a low high = absurd (omega (arith, low, high))
  picks (suc n) a low high = by (x == a) refl (picks n (a + 1))
    where
      by : (b : Bool) → (x == a) ≡ b → (a + 1 ≤ x → x < (a + 1) + n → list_any here (range_with_len (a + 1) n) ≡ f x) → list_any here (range_with_len a (suc n)) ≡ f x
      by true e later =
          let same : x ≡ a = number_is x a e in
          ap (λ r. here a || r) (misses n (a + 1) (λ k l f. absurd (omega (arith, same, f)))) ∙ or_none (here a) ∙ ap (λ b. b && f a) e ∙ ap f (sym same)
      by false e later =
          let up : a + 1 ≤ x = grind (arith, nat_tests) in
          ap (λ b. (b && f a) || list_any here (range_with_len (a + 1) n)) e ∙ later up (omega (arith, high))

and_false : (a : Bool) → (a && false) ≡ false
and_false true = refl
and_false false = refl

one_more : (t shard low q r : Bool) → ((t || (shard && low)) || ((shard && q) && r)) ≡ (t || (shard && (low || (q && r))))
one_more true shard low q r = refl
one_more false true low q r = refl
one_more false false low q r = refl

module _ (s : Scale) (sharding : Sharding) (writes : Writes) (shard : ℕ) where
  module _ (object : List ℕ) where
    abbrev row_of : ℕ → ℕ → Bool
    row_of id m = row_behind object sharding m id (rows_in object sharding m)

    -- none before the first minishard
    below_none : (found : FoundCells) → CountsBelow object s sharding writes shard 0 found found
    below_none found = record {
      sound = refl;
      counted = λ test h free.
          Counts-same s test (λ c. test c || stands_below object sharding shard 0 (id_of s c)) found (λ c is. sym (ap (λ b. test c || b) (and_false (shard_of sharding (id_of s c) == shard)) ∙ or_none (test c))) h;
    }

    -- one more
    below_more : (n : ℕ) (old mid new : FoundCells) → CountsBelow object s sharding writes shard n old mid → CountsIndex object s sharding writes shard n mid new → CountsBelow object s sharding writes shard (n + 1) old new
    below_more n old mid new was now = record {
      sound = none_more (numbered object sharding) n was.sound (ap (with_number n) now.sound);
      counted = λ test h free.
          Counts-same s (λ c. (test c || stands_below object sharding shard n (id_of s c)) || stands_at object sharding shard n (id_of s c)) (λ c. test c || stands_below object sharding shard (n + 1) (id_of s c)) new
          (λ c is. same test c) (now.counted (λ c. test c || stands_below object sharding shard n (id_of s c)) (was.counted test h free) (λ c is belongs. still test free c is belongs));
    }
      where
        same : (test : List ℕ → Bool) (c : List ℕ) → ((test c || stands_below object sharding shard n (id_of s c)) || stands_at object sharding shard n (id_of s c)) ≡ (test c || stands_below object sharding shard (n + 1) (id_of s c))
        same test c =
            let id : ℕ = id_of s c in
            let on : suc n ≡ n + 1 = omega arith in
            let first : 0 + n ≡ n = omega arith in
            one_more (test c) (shard_of sharding id == shard) (list_any (here (row_of id) (minishard_of sharding id)) (range_with_len 0 n)) (minishard_of sharding id == n) (row_of id n)
            ∙ ap (λ b. test c || ((shard_of sharding id == shard) && b))
            (ap (λ k. list_any (here (row_of id) (minishard_of sharding id)) (range_with_len 0 n) || here (row_of id) (minishard_of sharding id) k) (sym first)
            ∙ sym (any_more (here (row_of id) (minishard_of sharding id)) 0 n)
            ∙ ap (λ k. list_any (here (row_of id) (minishard_of sharding id)) (range_with_len 0 k)) on)

        still : (test : List ℕ → Bool) → IsFree s sharding writes shard test → (c : List ℕ) → IsCell s c → belongs sharding shard n (id_of s c) ≡ true → (test c || stands_below object sharding shard n (id_of s c)) ≡ met s writes c
        still test free c is here_it =
            let id : ℕ = id_of s c in
            let own : shard_of sharding id ≡ shard = number_is (shard_of sharding id) shard (left_of (shard_of sharding id == shard) (minishard_of sharding id == n) here_it) in
            let mini : minishard_of sharding id ≡ n = number_is (minishard_of sharding id) n (right_of (shard_of sharding id == shard) (minishard_of sharding id == n) here_it) in
            let none : stands_below object sharding shard n id ≡ false =
            ap (λ b. (shard_of sharding id == shard) && b) (misses (row_of id) (minishard_of sharding id) n 0 (λ k l e. absurd (omega (arith, l, e, mini)))) ∙ and_false (shard_of sharding id == shard) in
            ap (λ b. test c || b) none ∙ or_none (test c) ∙ free c is own

  -- whether a cell of the grid is one of those that pass a test
  listed_filter : (p : List ℕ → Bool) (c : List ℕ) → IsCell s c → is_listed (filter p (numbers_on (cells_on s))) c ≡ p c
  listed_filter p c is =
      equal_tests (is_listed (filter p (numbers_on (cells_on s))) c) (p c)
      (λ e. All-contains (λ c. p c ≡ true) (filter p (numbers_on (cells_on s))) c (filter_passes p (numbers_on (cells_on s))) (listed_from (filter p (numbers_on (cells_on s))) c e))
      (λ e. listed_at (filter p (numbers_on (cells_on s))) c (Contains-filter p (numbers_on (cells_on s)) c (Contains-numbers_on s c is) e))

  module _ (m : Objects) (dataset : List ℕ) where
    kept_is : (object : List ℕ) → fin.get m (shard_name dataset s shard) ≡ Some object → (fault : Option (ℕ × Fault)) → fault_below object sharding (2 ^ sharding.minishard_bits) ≡ fault → kept m dataset s sharding shard ≡ kept_unless fault (standing object s sharding shard)
    unfolding kept
    kept_is object there fault e = ap (λ o. kept_of o s sharding shard) there ∙ ap (λ o. kept_unless o (standing object s sharding shard)) e

    kept_absent : fin.get m (shard_name dataset s shard) ≡ None → kept m dataset s sharding shard ≡ Ok []
    unfolding kept
    kept_absent none = ap (λ o. kept_of o s sharding shard) none

    absent_counts : (old new : FoundCells) → fin.get m (shard_name dataset s shard) ≡ None → StaysCounted s old new → CountsKept m dataset s sharding writes shard old new
    absent_counts old new none stays =
        let is : kept m dataset s sharding shard ≡ Ok [] = kept_absent none in
        let cells : kept_cells m dataset s sharding shard ≡ [] = ap cells_or_none is in
        record {
          sound = is ∙ ap Ok (sym cells);
          counted = λ test h free.
              Counts-same s test (λ c. test c || is_listed (kept_cells m dataset s sharding shard) c) new (λ c own. sym (ap (λ cells. test c || is_listed cells c) cells ∙ or_none (test c))) (stays test h);
        }

    all_counts : (object : List ℕ) (old new : FoundCells) → fin.get m (shard_name dataset s shard) ≡ Some object → CountsBelow object s sharding writes shard (2 ^ sharding.minishard_bits) old new → CountsKept m dataset s sharding writes shard old new
    all_counts object old new there below =
        let is : kept m dataset s sharding shard ≡ Ok (standing object s sharding shard) = kept_is object there None below.sound in
        let cells : kept_cells m dataset s sharding shard ≡ standing object s sharding shard = ap cells_or_none is in
        record {
          sound = is ∙ ap Ok (sym cells);
          counted = λ test h free.
              Counts-same s (λ c. test c || stands_below object sharding shard (2 ^ sharding.minishard_bits) (id_of s c)) (λ c. test c || is_listed (kept_cells m dataset s sharding shard) c) new
              (λ c own. ap (λ b. test c || b) (same c own) ∙ sym (ap (λ cells. test c || is_listed cells c) cells)) (below.counted test h free);
        }
      where
        same : (c : List ℕ) → IsCell s c → stands_below object sharding shard (2 ^ sharding.minishard_bits) (id_of s c) ≡ is_listed (standing object s sharding shard) c
        same c own =
            let id : ℕ = id_of s c in
            let low : minishard_of sharding id < 2 ^ sharding.minishard_bits = mod_below (hashed sharding id) (2 ^ sharding.minishard_bits) (pow_pos sharding.minishard_bits) in
            ap (λ b. (shard_of sharding id == shard) && b) (picks (row_of object id) (minishard_of sharding id) (2 ^ sharding.minishard_bits) 0 (omega arith) (omega (arith, low)))
            ∙ sym (listed_filter (λ c. (shard_of sharding (id_of s c) == shard) && stands object sharding (id_of s c)) c own)

    fault_is : (object : List ℕ) (n : ℕ) (fault : Fault) → fin.get m (shard_name dataset s shard) ≡ Some object → n < 2 ^ sharding.minishard_bits → fault_below object sharding n ≡ None → minishard_fault object sharding n ≡ Some fault → kept m dataset s sharding shard ≡ Err (n, fault)
    fault_is object n fault there low none e =
        let found : Option (ℕ × Fault) = with_number n (Some fault) in
        kept_is object there found (first_here (numbered object sharding) (2 ^ sharding.minishard_bits) n (n, fault) low none (ap (with_number n) e))

    refusal_is : (object : Option (List ℕ)) (n : ℕ) (fault : KeepFault) (old mid new any : FoundCells) → fin.get m (shard_name dataset s shard) ≡ object → n < 2 ^ sharding.minishard_bits
        → CountsSome object s sharding writes shard n old mid → CountsBy object s sharding writes shard n (Err fault) mid new → KeepsCells m dataset s sharding writes shard (Err (refused_by n fault)) old any
    refusal_is object n NotRead old mid new any there low was now = tt
    refusal_is object n OutOfMemory old mid new any there low was now = tt
    refusal_is None n (Damaged fault) old mid new any there low was now = absurd now
    refusal_is (Some object) n (Damaged fault) old mid new any there low was now = fault_is object n fault there low was.sound now

    some_all : (object : Option (List ℕ)) (old new : FoundCells) → fin.get m (shard_name dataset s shard) ≡ object → CountsSome object s sharding writes shard (2 ^ sharding.minishard_bits) old new → CountsKept m dataset s sharding writes shard old new
    some_all None old new there was = absent_counts old new there was
    some_all (Some object) old new there was = all_counts object old new there was

    some_absent : (object : Option (List ℕ)) (n : ℕ) (old mid new : FoundCells) → fin.get m (shard_name dataset s shard) ≡ object → CountsSome object s sharding writes shard n old mid → CountsBy object s sharding writes shard n (Ok false) mid new
        → CountsKept m dataset s sharding writes shard old new
    some_absent None n old mid new there was now = absent_counts old new there (λ test h. now test (was test h))
    some_absent (Some object) n old mid new there was now = absurd now

  some_none : (object : Option (List ℕ)) (found : FoundCells) → CountsSome object s sharding writes shard 0 found found
  some_none None found = λ test h. h
  some_none (Some object) found = below_none object found

  some_more : (object : Option (List ℕ)) (n : ℕ) (old mid new : FoundCells) → CountsSome object s sharding writes shard n old mid → CountsBy object s sharding writes shard n (Ok true) mid new → CountsSome object s sharding writes shard (n + 1) old new
  some_more None n old mid new was now = absurd now
  some_more (Some object) n old mid new was now = below_more object n old mid new was now

  -- the same where the objects are told
  abbrev pub SomeTold : Option Objects → List ℕ → ℕ → FoundCells → FoundCells → Type 0
  SomeTold o name n old new = IfSome o (λ m. CountsSome (fin.get m name) s sharding writes shard n old new)

  abbrev pub ByTold : Option Objects → List ℕ → ℕ → Result Bool KeepFault → FoundCells → FoundCells → Type 0
  ByTold o name n r old new = IfSome o (λ m. CountsBy (fin.get m name) s sharding writes shard n r old new)

  pub told_none : (o : Option Objects) (name : List ℕ) (found : FoundCells) → SomeTold o name 0 found found
  told_none None name found = tt
  told_none (Some m) name found = some_none (fin.get m name) found

  pub told_more : (o now : Option Objects) (name : List ℕ) (n : ℕ) (r : Result Bool KeepFault) (there : Bool) (old mid new : FoundCells) → r ≡ Ok there → there ≡ true → now ≡ o → SomeTold o name n old mid → ByTold now name n r mid new → SomeTold o name (n + 1) old new
  told_more None now name n r there old mid new is positive same was by = tt
  told_more (Some m) now name n r there old mid new is positive same was by =
      some_more (fin.get m name) n old mid new was (subst (λ x. CountsBy (fin.get m name) s sharding writes shard n x mid new) (is ∙ ap Ok positive) (subst (λ o. ByTold o name n r mid new) same by))

  pub told_absent : (o now : Option Objects) (dataset name : List ℕ) (n : ℕ) (r : Result Bool KeepFault) (there : Bool) (old mid new : FoundCells) → r ≡ Ok there → there ≡ false → now ≡ o → name ≡ shard_name dataset s shard
      → SomeTold o name n old mid → ByTold now name n r mid new → IfSome o (λ m. CountsKept m dataset s sharding writes shard old new)
  told_absent None now dataset name n r there old mid new is negative same called was by = tt
  told_absent (Some m) now dataset name n r there old mid new is negative same called was by =
      some_absent m dataset (fin.get m name) n old mid new (ap (fin.get m) (sym called)) was (subst (λ x. CountsBy (fin.get m name) s sharding writes shard n x mid new) (is ∙ ap Ok negative) (subst (λ o. ByTold o name n r mid new) same by))

  pub told_refused : (o now : Option Objects) (dataset name : List ℕ) (n count : ℕ) (r : Result Bool KeepFault) (fault : KeepFault) (old mid new any : FoundCells) → r ≡ Err fault → now ≡ o → name ≡ shard_name dataset s shard → n < count → count ≡ 2 ^ sharding.minishard_bits
      → SomeTold o name n old mid → ByTold now name n r mid new → IfSome o (λ m. KeepsCells m dataset s sharding writes shard (Err (refused_by n fault)) old any)
  told_refused None now dataset name n count r fault old mid new any is same called low are was by = tt
  told_refused (Some m) now dataset name n count r fault old mid new any is same called low are was by =
      refusal_is m dataset (fin.get m name) n fault old mid new any (ap (fin.get m) (sym called)) (subst (λ k. n < k) are low) was (subst (λ x. CountsBy (fin.get m name) s sharding writes shard n x mid new) is (subst (λ o. ByTold o name n r mid new) same by))

  pub told_all : (o : Option Objects) (dataset name : List ℕ) (n : ℕ) (old new : FoundCells) → name ≡ shard_name dataset s shard → n ≡ 2 ^ sharding.minishard_bits → SomeTold o name n old new → IfSome o (λ m. CountsKept m dataset s sharding writes shard old new)
  told_all None dataset name n old new called all was = tt
  told_all (Some m) dataset name n old new called all was =
      some_all m dataset (fin.get m name) old new (ap (fin.get m) (sym called)) (subst (λ k. CountsSome (fin.get m name) s sharding writes shard k old new) all was)

-- minishards are at most 2^24
pub few_minishards : (bits : ℕ) → bits ≤ 24 → 2 ^ bits ≤ 2 ^ 24
few_minishards bits low = pow-le-pow_right (omega arith) low
