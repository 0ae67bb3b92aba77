-- Rows of an index that are judged, one row on.
use Rattle.std.specs.Prelude.{⊤, if◌then◌else◌}
use Rattle.std.proofs.Common.{◌≡◌, ℕ, zero, suc, Bool, true, false, ◌+◌, ◌-◌, ◌<◌, List, [], ◌∷◌, map, Option, Some, None, Result, Ok, Err, arith, refl, ap, ◌∙◌, sym, subst}
use Rattle.std.specs.List.{range_with_len}
use Rattle.std.proofs.lemmas.List.FromFn.{map-range_with_len_more}
use Rattle.vol_spec.proofs.Firsts.{first_some-append, first_some-front}
use Rattle.vol_spec.specs.BoxValues.{first_some}
use Rattle.vol_spec.specs.Rows.{Columns, judged_row, number_at}
use Rattle.vol_spec.specs.Verdicts.{Wrong, belongs, row_wrong}
use Rattle.vol_spec.specs.Verdicts.Wrong.{Damaged as DamagedBy, Misplaced as MisplacedAt}
use Rattle.vol_spec.specs.declared.row.Row.{Row}
use Rattle.vol_spec.specs.declared.sharding.Sharding.{Sharding}
use Rattle.vol_base.specs.declared.faults.IndexFault.{IndexFault}
use Rattle.minishard.specs.Walks.{Progress, IsWalked, IsStored}
use Rattle.shard_reader.specs.Reading.{Holds}
use Rattle.index_judge.specs.Judging.{IsPast, Passes, Says, first_wrong_row}
use Rattle.index_judge.specs.declared.fault.JudgeFault.{JudgeFault}
use Rattle.index_judge.specs.declared.fault.JudgeFault.TheVariants.{NotRead, Damaged, Misplaced}

module _ {A : Type 0} (f : ℕ → Option A) where
  alone : (o : Option A) → first_some (o ∷ []) ≡ o
  alone None = refl
  alone (Some a) = refl

  -- the first of n + 1 where the first n are none
  next_first : (n : ℕ) → first_some (map f (range_with_len 0 n)) ≡ None → first_some (map f (range_with_len 0 (n + 1))) ≡ f n
  next_first n none =
      ap first_some (map-range_with_len_more f 0 n n (omega arith)) ∙ first_some-append (map f (range_with_len 0 n)) (f n ∷ []) none ∙ alone (f n)

  -- one that is found stays the first
  stays_first : (n k : ℕ) (a : A) → first_some (map f (range_with_len 0 n)) ≡ Some a → first_some (map f (range_with_len 0 (n + k))) ≡ Some a
  stays_first n zero a some = let e : n + 0 ≡ n = omega arith in ap (λ j. first_some (map f (range_with_len 0 j))) e ∙ some
  stays_first n (suc k) a some =
      let e : n + suc k ≡ n + k + 1 = omega arith in
      ap (λ j. first_some (map f (range_with_len 0 j))) e
      ∙ ap first_some (map-range_with_len_more f 0 (n + k) (n + k) (omega arith))
      ∙ first_some-front (map f (range_with_len 0 (n + k))) (f (n + k) ∷ []) a (stays_first n k a some)

  pub first_here : (n r : ℕ) (a : A) → r < n → first_some (map f (range_with_len 0 r)) ≡ None → f r ≡ Some a → first_some (map f (range_with_len 0 n)) ≡ Some a
  first_here n r a below none here =
      let e : n ≡ r + 1 + (n - (r + 1)) = omega (arith, below) in
      ap (λ j. first_some (map f (range_with_len 0 j))) e ∙ stays_first (r + 1) (n - (r + 1)) a (next_first r none ∙ here)

  pub none_more : (r : ℕ) → first_some (map f (range_with_len 0 r)) ≡ None → f r ≡ None → first_some (map f (range_with_len 0 (r + 1))) ≡ None
  none_more r none here = next_first r none ∙ here

-- a row whose id belongs there, and one whose id doesn't
pub at_home : (sharding : Sharding) (shard m : ℕ) (row : Row) (judged : Result Row IndexFault) → judged ≡ Ok row → belongs sharding shard m row.id ≡ true → row_wrong sharding shard m judged ≡ None
at_home sharding shard m row judged is here = ap (row_wrong sharding shard m) is ∙ ap (λ (b : Bool). if b then None else Some (MisplacedAt shard m row.id)) here

pub strayed : (sharding : Sharding) (shard m : ℕ) (row : Row) (judged : Result Row IndexFault) → judged ≡ Ok row → belongs sharding shard m row.id ≡ false → row_wrong sharding shard m judged ≡ Some (MisplacedAt shard m row.id)
strayed sharding shard m row judged is elsewhere = ap (row_wrong sharding shard m) is ∙ ap (λ (b : Bool). if b then None else Some (MisplacedAt shard m row.id)) elsewhere

-- a row of a window
pub stored_at : (c : Columns) (first n i r : ℕ) (ids starts sizes : List ℕ) → Holds c first n ids starts sizes → i < n → r ≡ first + i → IsStored c r (number_at ids i) (number_at starts i) (number_at sizes i)
stored_at c first n i r ids starts sizes holds h e = subst (λ k. IsStored c k (number_at ids i) (number_at starts i) (number_at sizes i)) (sym e) (holds i h)

pub stored_as : (c : Columns) (r id start size x y z : ℕ) → x ≡ id → y ≡ start → z ≡ size → IsStored c r id start size → IsStored c r x y z
stored_as c r id start size x y z ex ey ez h = record { id = h.id ∙ ap Some (sym ex); start = h.start ∙ ap Some (sym ey); size = h.size ∙ ap Some (sym ez) }

pub held_at : (c : Columns) (first r n : ℕ) (ids starts sizes : List ℕ) → first ≡ r → Holds c first n ids starts sizes → Holds c r n ids starts sizes
held_at c first r n ids starts sizes e holds = subst (λ k. Holds c k n ids starts sizes) e holds

abbrev wrong_at : Columns → Sharding → ℕ → ℕ → ℕ → Option Wrong
wrong_at c sharding shard m r = row_wrong sharding shard m (judged_row c r)

-- behind a sound row
pub past_more : (c : Columns) (sharding : Sharding) (shard m : ℕ) (w v : Progress) (r : Result ⊤ JudgeFault) (done : ⊤) → r ≡ Ok done → IsPast c sharding shard m w → Says (wrong_at c sharding shard m w.rows) r → IsWalked c v → v.rows ≡ w.rows + 1 → IsPast c sharding shard m v
past_more c sharding shard m w v r done is was sound walked rows =
    let none : wrong_at c sharding shard m w.rows ≡ None = subst (Says (wrong_at c sharding shard m w.rows)) is sound in
    record {
      walked = walked;
      sound = ap (first_wrong_row c sharding shard m) rows ∙ none_more (wrong_at c sharding shard m) w.rows was.sound none;
    }

stops_here : (c : Columns) (sharding : Sharding) (shard m n r : ℕ) (fault : JudgeFault) → r < n → first_wrong_row c sharding shard m r ≡ None → Says {A = ⊤} (wrong_at c sharding shard m r) (Err fault) → Says {A = ⊤} (first_wrong_row c sharding shard m n) (Err fault)
stops_here c sharding shard m n r NotRead below none says = tt
stops_here c sharding shard m n r (Damaged fault) below none says = first_here (wrong_at c sharding shard m) n r (DamagedBy fault) below none says
stops_here c sharding shard m n r (Misplaced s k id) below none says = first_here (wrong_at c sharding shard m) n r (MisplacedAt s k id) below none says

-- at a row with which something is wrong
pub stops_at_row : (c : Columns) (sharding : Sharding) (shard m n : ℕ) (w : Progress) (r : Result ⊤ JudgeFault) (fault : JudgeFault) → r ≡ Err fault → w.rows < n → IsPast c sharding shard m w → Says (wrong_at c sharding shard m w.rows) r
    → Says {A = ⊤} (first_wrong_row c sharding shard m n) (Err fault)
stops_at_row c sharding shard m n w r fault is below was says =
    stops_here c sharding shard m n w.rows fault below was.sound (subst (Says (wrong_at c sharding shard m w.rows)) is says)

-- what going over rows said, by its result
pub passed_all : (c : Columns) (sharding : Sharding) (shard m n : ℕ) (r : Result ⊤ JudgeFault) (done : ⊤) (w : Progress) → r ≡ Ok done → Passes c sharding shard m n r w → IsPast c sharding shard m w
passed_all c sharding shard m n r done w is h = subst (λ x. Passes c sharding shard m n x w) is h

pub stopped : (c : Columns) (sharding : Sharding) (shard m n : ℕ) (r : Result ⊤ JudgeFault) (fault : JudgeFault) (w : Progress) → r ≡ Err fault → Passes c sharding shard m n r w → Says {A = ⊤} (first_wrong_row c sharding shard m n) (Err fault)
stopped c sharding shard m n r fault w is h = subst (λ x. Passes c sharding shard m n x w) is h

-- before the first row
pub past_none : (c : Columns) (sharding : Sharding) (shard m : ℕ) (w : Progress) → w ≡ record { rows = 0; id = 0; end = 0 } → IsPast c sharding shard m w
past_none c sharding shard m w is = subst (IsPast c sharding shard m) (sym is) (record { walked = record { id = refl; end = refl }; sound = refl })

-- behind the last one
pub past_all : (c : Columns) (sharding : Sharding) (shard m n : ℕ) (w : Progress) → w.rows ≡ n → IsPast c sharding shard m w → first_wrong_row c sharding shard m n ≡ None
past_all c sharding shard m n w all was = ap (first_wrong_row c sharding shard m) (sym all) ∙ was.sound

-- an answer that the store wasn't read
pub not_read : (wrong : Option Wrong) (fault : JudgeFault) → fault ≡ NotRead → Says {A = ⊤} wrong (Err fault)
not_read wrong fault is = subst (λ f. Says {A = ⊤} wrong (Err f)) (sym is) tt
