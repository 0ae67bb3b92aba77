-- All shards that are written anew, one after another.
use Rattle.std.proofs.Common.{◌≡◌, ℕ, suc, ◌+◌, ◌^◌, ◌<◌, ◌≤◌, ◌==◌, nat_lt, if◌then◌else◌, Bool, true, false, ◌&&◌, ◌||◌, List, [], ◌∷◌, length, length-take, get_or, map, take, Option, Some, None, IfSome, refl, ap, ◌∙◌, sym, subst, arith}
use Rattle.std.specs.Prelude.{⊤, All, AllPairs, Contains, Result, Ok, Err, slice_index}
use Rattle.std.specs.FinMap as fin
use Rattle.std.specs.List.{list_any, range_with_len}
use Rattle.std.proofs.lemmas.Bool.Decides.{nat_tests}
use Rattle.std.proofs.lemmas.List.{get_or-take, get_or_default, take_all}
use Rattle.std.proofs.lemmas.List.Elements.{All-contains, All-filter, filter_passes}
use Rattle.std.proofs.lemmas.List.Folds.{list_any_more}
use Rattle.std.proofs.lemmas.List.FromFn.{get_or-range_with_len, length-range_with_len}
use Rattle.std.proofs.lemmas.List.Kept.{AllPairs-filter}
use Rattle.vol_base.specs.Outside.{Objects}
use Rattle.vol_base.specs.declared.faults.Fault.{Fault}
use Rattle.vol_spec.specs.BoxValues.{first_some}
use Rattle.vol_spec.specs.Grid.{cells_on, numbers_on}
use Rattle.vol_spec.specs.Places.{id_of, shard_of}
use Rattle.vol_spec.specs.ShardNames.{shard_name}
use Rattle.vol_spec.specs.StoredCells.{met}
use Rattle.vol_spec.specs.Types.{Writes}
use Rattle.vol_spec.specs.declared.scale.Scale.{Scale}
use Rattle.vol_spec.specs.declared.sharding.Sharding.{Sharding}
use Rattle.chunk_laws.specs.Told.{is_listed}
use Rattle.index_judge.proofs.RowSteps.{first_here, none_more}
use Rattle.update_laws.proofs.JudgedSteps.{left_of}
use Rattle.update_laws.specs.Judged.{cells_or_none, cells_with, has_met, if_many, kept_cells, refusal_at, refusal_of, touched_shards}
use Rattle.update_laws.specs.Judged.Refusal.{BadShard as BadShardOf, TooManyCells as TooManyOf}
use Rattle.update_laws.specs.Kept.{kept, kept_of, kept_unless, shard_fault, standing, stands}
use Rattle.cell_lists.proofs.CountSteps.{Counts-same}
use Rattle.cell_lists.proofs.ListSteps.{Lists-count, listed_from, never, number_is, or_again, or_none}
use Rattle.cell_lists.specs.Counted.{Counts}
use Rattle.cell_lists.specs.declared.found.FoundCells.{FoundCells}
use Rattle.kept_cells.specs.KeptCells.{CountsKept, IsFree, KeepsCells}
use Rattle.kept_cells.specs.Touched.{CountsAll, CountsFew, CountsMany, CountsWith, JudgesTouched, JudgesShard, is_with, refused_at}
use Rattle.kept_cells.specs.declared.fault.ShardRefusal.{ShardRefusal}
use Rattle.kept_cells.specs.declared.fault.ShardRefusal.TheVariants as refusals
use Rattle.kept_cells.specs.declared.fault.KeepRefusal.{KeepRefusal}
use Rattle.kept_cells.specs.declared.fault.KeepRefusal.TheVariants.{NotRead, OutOfMemory, BadShard, TooManyCells}

found_any : (p : ℕ → Bool) (xs : List ℕ) → list_any p xs ≡ true → (x : ℕ) × Contains xs x × (p x ≡ true)
found_any p [] e = absurd (cc e)
found_any p (x ∷ xs) e = by (p x) refl e (found_any p xs)
  where
    by : (b : Bool) → p x ≡ b → (b || list_any p xs) ≡ true → (list_any p xs ≡ true → (y : ℕ) × Contains xs y × (p y ≡ true)) → (y : ℕ) × Contains (x ∷ xs) y × (p y ≡ true)
    by true same e later = (x, (0, omega arith, refl), same)
    by false same e later = let (y, (k, l, at), passes) = later e in (y, (suc k, omega arith, at), passes)

module _ (s : Scale) (sharding : Sharding) (writes : Writes) where
  abbrev touched : List ℕ
  touched = touched_shards s sharding writes

  pub touched_up : AllPairs (λ a b. a < b) (touched_shards s sharding writes)
  touched_up = AllPairs-filter (λ a b. a < b) (has_met s sharding writes) (range_with_len 0 (2 ^ sharding.shard_bits)) up
    where
      up : AllPairs (λ a b. a < b) (range_with_len 0 (2 ^ sharding.shard_bits))
      up i j d before low =
          let size = length-range_with_len 0 (2 ^ sharding.shard_bits) in
          let ei = get_or-range_with_len 0 (2 ^ sharding.shard_bits) i d (omega (arith, before, low, size)) in
          let ej = get_or-range_with_len 0 (2 ^ sharding.shard_bits) j d (omega (arith, low, size)) in
          omega (arith, ei, ej, before)

  pub touched_low : (k d : ℕ) → k < length (touched_shards s sharding writes) → get_or (touched_shards s sharding writes) k d < 2 ^ sharding.shard_bits
  touched_low k d low = All-filter (has_met s sharding writes) (λ n. n < 2 ^ sharding.shard_bits) (range_with_len 0 (2 ^ sharding.shard_bits)) each k d low
    where
      each : All (λ n. n < 2 ^ sharding.shard_bits) (range_with_len 0 (2 ^ sharding.shard_bits))
      each i d l =
          let size = length-range_with_len 0 (2 ^ sharding.shard_bits) in
          let e = get_or-range_with_len 0 (2 ^ sharding.shard_bits) i d (omega (arith, l, size)) in
          omega (arith, e, l, size)

  module _ (m : Objects) (dataset : List ℕ) where
    -- a cell that is kept of a shard is one of it
    standing_own : (object : List ℕ) (n : ℕ) (c : List ℕ) → is_listed (standing object s sharding n) c ≡ true → shard_of sharding (id_of s c) ≡ n
    standing_own object n c e =
        let passes = All-contains (λ c. ((shard_of sharding (id_of s c) == n) && stands object sharding (id_of s c)) ≡ true) (standing object s sharding n) c
        (filter_passes (λ c. (shard_of sharding (id_of s c) == n) && stands object sharding (id_of s c)) (numbers_on (cells_on s))) (listed_from (standing object s sharding n) c e) in
        number_is (shard_of sharding (id_of s c)) n (left_of (shard_of sharding (id_of s c) == n) (stands object sharding (id_of s c)) passes)

    unless_own : (fault : Option (ℕ × Fault)) (object : List ℕ) (n : ℕ) (c : List ℕ) → is_listed (cells_or_none (kept_unless fault (standing object s sharding n))) c ≡ true → shard_of sharding (id_of s c) ≡ n
    unless_own None object n c e = standing_own object n c e
    unless_own (Some fault) object n c e = absurd (cc e)

    by_own : (o : Option (List ℕ)) (n : ℕ) (c : List ℕ) → is_listed (cells_or_none (kept_of o s sharding n)) c ≡ true → shard_of sharding (id_of s c) ≡ n
    by_own None n c e = absurd (cc e)
    by_own (Some object) n c e = unless_own (shard_fault object sharding) object n c e

    kept_own : (n : ℕ) (c : List ℕ) → is_listed (kept_cells m dataset s sharding n) c ≡ true → shard_of sharding (id_of s c) ≡ n
    unfolding kept
    kept_own n c e = by_own (fin.get m (shard_name dataset s n)) n c e

    -- so of a shard that comes next only those pass that some write meets
    free_next : (k : ℕ) → k < length (touched_shards s sharding writes) → IsFree s sharding writes (get_or (touched_shards s sharding writes) k 0) (is_with m dataset s sharding writes (take k (touched_shards s sharding writes)))
    free_next k low c is own =
        ap (λ b. met s writes c || b) (never (list_any (λ n. is_listed (kept_cells m dataset s sharding n) c) (take k (touched_shards s sharding writes)))
        (λ e. clash (found_any (λ n. is_listed (kept_cells m dataset s sharding n) c) (take k (touched_shards s sharding writes)) e)))
        ∙ or_none (met s writes c)
      where
        clash : (n : ℕ) × Contains (take k (touched_shards s sharding writes)) n × (is_listed (kept_cells m dataset s sharding n) c ≡ true) → ⊥
        clash (n, (j, l, at), e) =
            let len = length-take k (touched_shards s sharding writes) in
            let before : j < k = omega (arith, l, len) in
            let left : get_or (touched_shards s sharding writes) j n ≡ n = sym (get_or-take k (touched_shards s sharding writes) j n before) ∙ at in
            let right : get_or (touched_shards s sharding writes) k n ≡ get_or (touched_shards s sharding writes) k 0 = get_or_default (touched_shards s sharding writes) k n 0 low in
            let less : get_or (touched_shards s sharding writes) j n < get_or (touched_shards s sharding writes) k n = touched_up j k n before low in
            let mine : shard_of sharding (id_of s c) ≡ n = kept_own n c e in
            omega (arith, left, right, less, mine, own)

    -- with one shard more
    module _ (k : ℕ) (low : k < length (touched_shards s sharding writes)) (old new : FoundCells) (was : CountsWith m dataset s sharding writes k old) where
      counts_next : CountsKept m dataset s sharding writes (get_or (touched_shards s sharding writes) k 0) old new → Counts s (is_with m dataset s sharding writes (take (k + 1) (touched_shards s sharding writes))) new
      counts_next now =
          Counts-same s (λ c. is_with m dataset s sharding writes (take k (touched_shards s sharding writes)) c || is_listed (kept_cells m dataset s sharding (get_or (touched_shards s sharding writes) k 0)) c)
          (is_with m dataset s sharding writes (take (k + 1) (touched_shards s sharding writes))) new
          (λ c is.
          or_again (met s writes c) (list_any (λ n. is_listed (kept_cells m dataset s sharding n) c) (take k (touched_shards s sharding writes))) (is_listed (kept_cells m dataset s sharding (get_or (touched_shards s sharding writes) k 0)) c)
          ∙ ap (λ b. met s writes c || b) (sym (list_any_more (λ n. is_listed (kept_cells m dataset s sharding n) c) (touched_shards s sharding writes) k 0 low)))
          (now.counted (is_with m dataset s sharding writes (take k (touched_shards s sharding writes))) was.counted (free_next k low))

      how_many : CountsKept m dataset s sharding writes (get_or (touched_shards s sharding writes) k 0) old new → length (cells_with m dataset s sharding writes (take (k + 1) (touched_shards s sharding writes))) ≡ new.count
      how_many now =
          let next = counts_next now in
          sym (Lists-count s (is_with m dataset s sharding writes (take (k + 1) (touched_shards s sharding writes))) next.all next.listed) ∙ sym next.counted

      many_at : CountsKept m dataset s sharding writes (get_or (touched_shards s sharding writes) k 0) old new → refusal_at m dataset s sharding writes k ≡ if_many new.count
      many_at now =
          ap (λ r. refusal_of (slice_index (touched_shards s sharding writes) k) r (length (cells_with m dataset s sharding writes (take (k + 1) (touched_shards s sharding writes))))) now.sound
          ∙ ap if_many (how_many now)

      few_next : CountsFew m dataset s sharding writes (get_or (touched_shards s sharding writes) k 0) old new → CountsWith m dataset s sharding writes (k + 1) new
      few_next now =
          let few = now.few in
          let not_many : nat_lt (2 ^ 22) new.count ≡ false = grind (arith, nat_tests) in
          record {
            sound = none_more (refusal_at m dataset s sharding writes) k was.sound (many_at now.kept ∙ ap (λ b. if b then Some (TooManyOf new.count) else None) not_many);
            counted = counts_next now.kept;
          }

      many_next : (cells : ℕ) → CountsMany m dataset s sharding writes (get_or (touched_shards s sharding writes) k 0) old new cells
          → first_some (map (refusal_at m dataset s sharding writes) (range_with_len 0 (length (touched_shards s sharding writes)))) ≡ Some (TooManyOf cells)
      many_next cells now =
          let more = now.many in
          let is_many : nat_lt (2 ^ 22) new.count ≡ true = grind (arith, nat_tests) in
          first_here (refusal_at m dataset s sharding writes) (length (touched_shards s sharding writes)) k (TooManyOf cells) low was.sound
          (many_at now.kept ∙ ap (λ b. if b then Some (TooManyOf new.count) else None) is_many ∙ ap (λ n. Some (TooManyOf n)) (sym now.told))

      bad_next : (minishard : ℕ) (fault : Fault) → kept m dataset s sharding (get_or (touched_shards s sharding writes) k 0) ≡ Err (minishard, fault)
          → first_some (map (refusal_at m dataset s sharding writes) (range_with_len 0 (length (touched_shards s sharding writes)))) ≡ Some (BadShardOf (get_or (touched_shards s sharding writes) k 0) minishard fault)
      bad_next minishard fault e =
          first_here (refusal_at m dataset s sharding writes) (length (touched_shards s sharding writes)) k (BadShardOf (get_or (touched_shards s sharding writes) k 0) minishard fault) low was.sound
          (ap (λ r. refusal_of (slice_index (touched_shards s sharding writes) k) r (length (cells_with m dataset s sharding writes (take (k + 1) (touched_shards s sharding writes))))) e)

      refused_next : (refusal : KeepRefusal) (any : FoundCells) → JudgesShard m dataset s sharding writes (get_or (touched_shards s sharding writes) k 0) (Err refusal) old new → JudgesTouched m dataset s sharding writes (Err refusal) any
      refused_next NotRead any h = tt
      refused_next OutOfMemory any h = tt
      refused_next (TooManyCells cells) any h = many_next cells h
      refused_next (BadShard n minishard fault) any h = bad_next minishard fault h.1 ∙ ap (λ n. Some (BadShardOf n minishard fault)) (sym h.0)

    with_none : (found : FoundCells) → Counts s (met s writes) found → CountsWith m dataset s sharding writes 0 found
    with_none found h = record { sound = refl; counted = Counts-same s (met s writes) (is_with m dataset s sharding writes []) found (λ c is. sym (or_none (met s writes c))) h }

    with_all : (k : ℕ) (found : FoundCells) → k ≡ length (touched_shards s sharding writes) → CountsWith m dataset s sharding writes k found → CountsAll m dataset s sharding writes found
    with_all k found all h = record {
      sound = ap (λ n. first_some (map (refusal_at m dataset s sharding writes) (range_with_len 0 n))) (sym all) ∙ h.sound;
      counted = subst (λ xs. Counts s (is_with m dataset s sharding writes xs) found) (take_all k (touched_shards s sharding writes) (omega (arith, all))) h.counted;
    }

  -- the same where the objects are told
  abbrev pub WithTold : Option Objects → List ℕ → ℕ → FoundCells → Type 0
  WithTold o dataset k found = IfSome o (λ m. CountsWith m dataset s sharding writes k found)

  pub touched_none : (o : Option Objects) (dataset : List ℕ) (found : FoundCells) → Counts s (met s writes) found → WithTold o dataset 0 found
  touched_none None dataset found h = tt
  touched_none (Some m) dataset found h = with_none m dataset found h

  pub touched_more : (o now : Option Objects) (dataset : List ℕ) (k n : ℕ) (r : Result ⊤ KeepRefusal) (done : ⊤) (old new : FoundCells) → k < length (touched_shards s sharding writes) → n ≡ get_or (touched_shards s sharding writes) k 0 → r ≡ Ok done → now ≡ o
      → WithTold o dataset k old → IfSome now (λ m. JudgesShard m dataset s sharding writes n r old new) → WithTold o dataset (k + 1) new
  touched_more None now dataset k n r done old new low at is same was judged = tt
  touched_more (Some m) now dataset k n r done old new low at is same was judged =
      few_next m dataset k low old new was
      (subst (λ n. JudgesShard m dataset s sharding writes n (Ok done) old new) at (subst (λ x. JudgesShard m dataset s sharding writes n x old new) is (subst (λ o. IfSome o (λ m. JudgesShard m dataset s sharding writes n r old new)) same judged)))

  pub touched_refused : (o now : Option Objects) (dataset : List ℕ) (k n : ℕ) (r : Result ⊤ KeepRefusal) (refusal : KeepRefusal) (old new any : FoundCells) → k < length (touched_shards s sharding writes) → n ≡ get_or (touched_shards s sharding writes) k 0 → r ≡ Err refusal → now ≡ o
      → WithTold o dataset k old → IfSome now (λ m. JudgesShard m dataset s sharding writes n r old new) → IfSome o (λ m. JudgesTouched m dataset s sharding writes (Err refusal) any)
  touched_refused None now dataset k n r refusal old new any low at is same was judged = tt
  touched_refused (Some m) now dataset k n r refusal old new any low at is same was judged =
      refused_next m dataset k low old new was refusal any
      (subst (λ n. JudgesShard m dataset s sharding writes n (Err refusal) old new) at (subst (λ x. JudgesShard m dataset s sharding writes n x old new) is (subst (λ o. IfSome o (λ m. JudgesShard m dataset s sharding writes n r old new)) same judged)))

  pub touched_all : (o : Option Objects) (dataset : List ℕ) (k : ℕ) (found : FoundCells) → k ≡ length (touched_shards s sharding writes) → WithTold o dataset k found → IfSome o (λ m. CountsAll m dataset s sharding writes found)
  touched_all None dataset k found all h = tt
  touched_all (Some m) dataset k found all h = with_all m dataset k found all h

  -- one shard
  refusal_judged : (m : Objects) (dataset : List ℕ) (shard : ℕ) (refusal : ShardRefusal) (old new : FoundCells) → KeepsCells m dataset s sharding writes shard (Err refusal) old new → JudgesShard m dataset s sharding writes shard (Err (refused_at shard refusal)) old new
  refusal_judged m dataset shard refusals.NotRead old new h = tt
  refusal_judged m dataset shard refusals.OutOfMemory old new h = tt
  refusal_judged m dataset shard (refusals.Damaged minishard fault) old new h = (refl, h)

  pub shard_refused : (o : Option Objects) (dataset : List ℕ) (shard : ℕ) (r : Result ⊤ ShardRefusal) (refusal : ShardRefusal) (told : KeepRefusal) (old new : FoundCells) → r ≡ Err refusal → told ≡ refused_at shard refusal
      → IfSome o (λ m. KeepsCells m dataset s sharding writes shard r old new) → IfSome o (λ m. JudgesShard m dataset s sharding writes shard (Err told) old new)
  shard_refused None dataset shard r refusal told old new is e h = tt
  shard_refused (Some m) dataset shard r refusal told old new is e h =
      subst (λ t. JudgesShard m dataset s sharding writes shard (Err t) old new) (sym e) (refusal_judged m dataset shard refusal old new (subst (λ x. KeepsCells m dataset s sharding writes shard x old new) is h))

  pub shard_few : (o : Option Objects) (dataset : List ℕ) (shard : ℕ) (old new : FoundCells) → new.count ≤ 2 ^ 22 → IfSome o (λ m. CountsKept m dataset s sharding writes shard old new) → IfSome o (λ m. CountsFew m dataset s sharding writes shard old new)
  shard_few None dataset shard old new few h = tt
  shard_few (Some m) dataset shard old new few h = record { kept = h; few = few }

  pub shard_many : (o : Option Objects) (dataset : List ℕ) (shard : ℕ) (old new : FoundCells) → 2 ^ 22 < new.count → IfSome o (λ m. CountsKept m dataset s sharding writes shard old new) → IfSome o (λ m. CountsMany m dataset s sharding writes shard old new new.count)
  shard_many None dataset shard old new many h = tt
  shard_many (Some m) dataset shard old new many h = record { kept = h; many = many; told = refl }
