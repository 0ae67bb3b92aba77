-- The ids that are put behind others ascend, whatever a store tells.
use Rattle.std.proofs.Common.{◌≡◌, ℕ, zero, suc, ◌+◌, ◌<◌, ◌≤◌, Bool, true, false, if◌then◌else◌, List, [], ◌∷◌, ◌++◌, All, length, length-append, take, slice_get, sum, Some, Result, Ok, arith, refl, ap, ◌∙◌, sym, ⊎_elim}
use Rattle.std.proofs.lemmas.Bool.{cases_lt}
use Rattle.std.proofs.lemmas.List.{append-nil, append_assoc, get_or_at, take_at}
use Rattle.std.proofs.lemmas.List.Elements.{All-nil, All-push}
use Rattle.std.proofs.lemmas.List.Quantifiers.{all_pairs_push}
use Rattle.std.proofs.lemmas.List.Sums.{sum_by-cons}
use Rattle.std.proofs.lemmas.Option.{slice_get-get_or}
use Rattle.vol_base.specs.declared.faults.IndexFault.{IndexFault}
use Rattle.vol_spec.specs.Rows.{Columns, judged_by, judged_row}
use Rattle.vol_spec.specs.Verdicts.{belongs}
use Rattle.vol_spec.specs.declared.row.Row.{Row}
use Rattle.vol_spec.specs.declared.sharding.Sharding.{Sharding}
use Rattle.minishard.specs.Walks.{IsStored, IsWalked, Progress}
use Rattle.minishard.proofs.Steps.{judged_same, walked_more}
use Rattle.update_laws.proofs.KeptSteps.{ok_id, ok_later}
use Rattle.shard_keeper.specs.Keeping.{Adds, HasAdded}

-- n numbers whose sum is x
abbrev fill : ℕ → ℕ → List ℕ
fill zero x = []
fill (suc n) x = x ∷ fill n 0

length-fill : (n x : ℕ) → length (fill n x) ≡ n
length-fill zero x = refl
length-fill (suc n) x = let rest = length-fill n 0 in omega arith

sum-none : (n : ℕ) → sum (fill n 0) ≡ 0
sum-none zero = refl
sum-none (suc n) =
    let first : sum (0 ∷ fill n 0) ≡ 0 + sum (fill n 0) = sum_by-cons (λ k. k) 0 (fill n 0) in
    let rest = sum-none n in
    omega arith

sum-fill : (n x : ℕ) → (n ≡ 0 → x ≡ 0) → sum (fill n x) ≡ x
sum-fill zero x h = sym (h refl)
sum-fill (suc n) x h =
    let first : sum (x ∷ fill n 0) ≡ x + sum (fill n 0) = sum_by-cons (λ k. k) x (fill n 0) in
    let rest = sum-none n in
    omega arith

-- and one more behind them
front : (n x y : ℕ) → take n (fill n x ++ y ∷ []) ≡ fill n x
front n x y = take_at (fill n x) (y ∷ []) n (length-fill n x)

behind : (n x y : ℕ) → slice_get (fill n x ++ y ∷ []) n ≡ Some y
behind n x y =
    let len = length-append (fill n x) (y ∷ []) in
    let filled = length-fill n x in
    slice_get-get_or (fill n x ++ y ∷ []) n y (omega arith) ∙ ap Some (get_or_at (fill n x) y [] y n filled)

-- columns over which a walk has come as far, and whose next row has these numbers
module _ (w : Progress) (id start size : ℕ) where
  abbrev columns : Columns
  columns = record {
    ids = fill w.rows w.id ++ id ∷ [];
    starts = fill w.rows w.end ++ start ∷ [];
    sizes = fill w.rows 0 ++ size ∷ [];
  }

  walked : (w.rows ≡ 0 → (w.id ≡ 0) × (w.end ≡ 0)) → IsWalked columns w
  walked begun =
      let ids : sum (take w.rows (fill w.rows w.id ++ id ∷ [])) ≡ w.id = ap sum (front w.rows w.id id) ∙ sum-fill w.rows w.id (λ none. (begun none).0) in
      let starts : sum (take w.rows (fill w.rows w.end ++ start ∷ [])) ≡ w.end = ap sum (front w.rows w.end start) ∙ sum-fill w.rows w.end (λ none. (begun none).1) in
      let sizes : sum (take w.rows (fill w.rows 0 ++ size ∷ [])) ≡ 0 = ap sum (front w.rows 0 size) ∙ sum-none w.rows in
      record { id = sym ids; end = omega (arith, starts, sizes) }

  stored : IsStored columns w.rows id start size
  stored = record { id = behind w.rows w.id id; start = behind w.rows w.end start; size = behind w.rows 0 size }

-- a row without a fault has a higher id than the one before it
pub row_ascends : (w v : Progress) (r : Result Row IndexFault) (row : Row) (id start size : ℕ) → r ≡ Ok row
    → ((c : Columns) → IsWalked c w → IsStored c w.rows id start size → r ≡ judged_row c w.rows) → ((c : Columns) → IsWalked c w → IsStored c w.rows id start size → IsWalked c v)
    → v.rows ≡ w.rows + 1 → (w.rows ≡ 0 → (w.id ≡ 0) × (w.end ≡ 0)) → (0 < w.rows → w.id < row.id) × (v.id ≡ row.id)
row_ascends w v r row id start size is judged goes_on rows begun =
    let c : Columns = columns w id start size in
    let was : IsWalked c w = walked w id start size begun in
    let here : IsStored c w.rows id start size = stored w id start size in
    let told : judged_by w.rows id (w.id + id) (w.end + start) size ≡ Ok row = judged_same c w id start size was here ∙ sym (judged c was here) ∙ is in
    let own : row.id ≡ w.id + id = ok_id w.rows id (w.id + id) (w.end + start) size row told in
    let sums : v.id ≡ sum (take v.rows c.ids) = (goes_on c was here).id in
    let next : w.id + id ≡ sum (take (w.rows + 1) c.ids) = (walked_more c w id start size was here).id in
    let now : v.id ≡ w.id + id = sums ∙ ap (λ k. sum (take k c.ids)) rows ∙ sym next in
    (λ later. (let some = ok_later w.rows id (w.id + id) (w.end + start) size row told later in omega (arith, own, some)), now ∙ sym own)

module _ (sharding : Sharding) (shard m : ℕ) (first : List ℕ) where
  -- so each id that was put is below the next one
  below_next : (w : Progress) (old : List ℕ) (id : ℕ) (had : HasAdded sharding shard m first w old) → (0 < w.rows → w.id < id) → All (λ x. x < id) had.added
  below_next w old id had up k d low =
      ⊎_elim (λ (some : 0 < w.rows). (let less = up some in let most = had.below k d low in omega (arith, less, most)))
      (λ (none : w.rows ≤ 0). (let rows : w.rows ≡ 0 = omega (arith, none) in let empty = ap length (had.begun rows).0 in absurd (omega (arith, low, empty)))) (cases_lt 0 w.rows)

  -- one row on
  pub added_more : (w v : Progress) (old new : List ℕ) (id : ℕ) (had : HasAdded sharding shard m first w old) → (0 < w.rows → w.id < id) × (v.id ≡ id) → v.rows ≡ w.rows + 1
      → new ≡ (if belongs sharding shard m id then old ++ id ∷ [] else old) → HasAdded sharding shard m first v new
  added_more w v old new id had up rows put = by (belongs sharding shard m id) refl put
    where
      high : All (λ x. x < id) had.added
      high = below_next w old id had up.0

      by : (b : Bool) → belongs sharding shard m id ≡ b → new ≡ (if b then old ++ id ∷ [] else old) → HasAdded sharding shard m first v new
      by true here is = record {
        added = had.added ++ id ∷ [];
        behind = is ∙ ap (λ xs. xs ++ id ∷ []) had.behind ∙ append_assoc first had.added (id ∷ []);
        rising = all_pairs_push (λ a b. a < b) had.added id had.rising (λ k d low. high k d low);
        home = All-push (λ x. belongs sharding shard m x ≡ true) had.added id had.home here;
        below = All-push (λ x. x ≤ v.id) had.added id (λ k d low. (let less = high k d low in omega (arith, less, up.1))) (omega (arith, up.1));
        begun = λ none. absurd (omega (arith, none, rows));
      }
      by false away is = record {
        added = had.added;
        behind = is ∙ had.behind;
        rising = had.rising;
        home = had.home;
        below = λ k d low. (let less = high k d low in omega (arith, less, up.1));
        begun = λ none. absurd (omega (arith, none, rows));
      }

  -- before the first row
  pub added_none : (w : Progress) → w ≡ record { rows = 0; id = 0; end = 0 } → HasAdded sharding shard m first w first
  added_none w is = record {
    added = [];
    behind = sym (append-nil first);
    rising = λ i j d before low. absurd (omega (arith, low));
    home = All-nil (λ x. belongs sharding shard m x ≡ true);
    below = All-nil (λ x. x ≤ w.id);
    begun = λ none. (refl, ap (λ (p : Progress). p.id) is, ap (λ (p : Progress). p.end) is);
  }

  -- behind the last one
  pub added_all : (w : Progress) (ids : List ℕ) → HasAdded sharding shard m first w ids → Adds sharding shard m first ids
  added_all w ids had = record { added = had.added; behind = had.behind; rising = had.rising; home = had.home }

  -- where there is no index
  pub adds_none : Adds sharding shard m first first
  adds_none = record { added = []; behind = sym (append-nil first); rising = λ i j d before low. absurd (omega (arith, low)); home = All-nil (λ x. belongs sharding shard m x ≡ true) }
