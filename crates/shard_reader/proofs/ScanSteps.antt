-- Rows of a look-up, one on.
use Rattle.std.proofs.Common.{◌≡◌, ℕ, zero, suc, ◌+◌, ◌-◌, ◌<◌, ◌≤◌, List, length, take, slice_index, true, false, nat_le, Some, None, ◌≢◌, Result, Ok, Err, arith, refl, ap, ◌∙◌, sym, subst, ⊎_elim}
use Rattle.std.specs.Prelude.{sum}
use Rattle.std.proofs.lemmas.Bool.{cases_lt}
use Rattle.std.proofs.lemmas.Bool.Decides.{nat_tests}
use Rattle.std.proofs.lemmas.Option.{slice_get_within}
use Rattle.std.proofs.lemmas.List.Sums.{sum_by_more}
use Rattle.vol_spec.specs.Rows.{Columns, find_in, id_at, start_at, judged_by, judged_row, stops, stops_at, number_at}
use Rattle.vol_spec.specs.declared.row.Row.{Row}
use Rattle.vol_base.specs.declared.faults.IndexFault.{IndexFault}
use Rattle.minishard.specs.Walks.{Progress, IsWalked, IsStored}
use Rattle.minishard.proofs.Steps.{goes_on, found_none, stops_ok, stops_err, chosen_row, other_row}
use Rattle.shard_reader.specs.Reading.{EndsAt, EndsIn, Holds, IsAt, serves}

ok_id : (r stored id start size : ℕ) (row : Row) → judged_by r stored id start size ≡ Ok row → row.id ≡ id
ok_id r stored id start size row is = grind (arith, nat_tests)

-- behind a row with a lower id
pub one_more : (c : Columns) (w v : Progress) (wanted : ℕ) (row : Row) → IsAt c w wanted → w.rows < length c.ids → judged_row c w.rows ≡ Ok row → IsWalked c v → v.rows ≡ w.rows + 1 → row.id < wanted → IsAt c v wanted
one_more c w v wanted row was here is walked rows low =
    let top : row.id ≡ id_at c w.rows = ok_id w.rows (slice_index c.ids w.rows) (id_at c w.rows) (start_at c w.rows) (slice_index c.sizes w.rows) row is in
    let same : v.id ≡ id_at c w.rows = walked.id ∙ ap (λ n. sum (take n c.ids)) rows in
    let grown : w.id ≤ v.id = (let more = sum_by_more (λ n. n) c.ids w.rows 0 here in let e = was.walked.id in omega arith) in
    record {
      walked = walked;
      passed = λ higher k l h.
          ⊎_elim (λ (before : k < w.rows). was.passed higher k (omega arith) before)
          (λ (ge : w.rows ≤ k). let e : k ≡ w.rows = omega arith in
          ap (stops c higher) e ∙ ap (stops_at higher) is ∙ goes_on higher row.id (omega arith)) (cases_lt k w.rows);
      below = λ _. omega arith;
    }

-- behind the last row
pub none_left : (c : Columns) (w : Progress) (wanted : ℕ) → IsAt c w wanted → w.rows ≡ length c.ids → find_in c wanted ≡ Ok None
none_left c w wanted was all = found_none c wanted w.rows all (λ k h. was.passed wanted k (was.below (omega arith)) h)

-- a row of a window
pub stored_at : (c : Columns) (first n i r : ℕ) (ids starts sizes : List ℕ) → Holds c first n ids starts sizes → i < n → r ≡ first + i → IsStored c r (number_at ids i) (number_at starts i) (number_at sizes i)
stored_at c first n i r ids starts sizes holds h e = subst (λ k. IsStored c k (number_at ids i) (number_at starts i) (number_at sizes i)) (sym e) (holds i h)

passed_before : (c : Columns) (w : Progress) (wanted : ℕ) → IsAt c w wanted → (k : ℕ) → k < w.rows → stops c wanted k ≡ false
passed_before c w wanted was k h = was.passed wanted k (was.below (omega arith)) h

-- what a look-up answers at the next row
pub ends_bad : (c : Columns) (w : Progress) (wanted : ℕ) (fault : IndexFault) → IsAt c w wanted → w.rows < length c.ids → judged_row c w.rows ≡ Err fault → find_in c wanted ≡ Err fault
ends_bad c w wanted fault was here is = stops_err c wanted w.rows fault here (passed_before c w wanted was) is

pub ends_found : (c : Columns) (w : Progress) (wanted : ℕ) (row : Row) → IsAt c w wanted → w.rows < length c.ids → judged_row c w.rows ≡ Ok row → row.id ≡ wanted → find_in c wanted ≡ Ok (Some row)
ends_found c w wanted row was here is e = stops_ok c wanted w.rows row here (passed_before c w wanted was) is (omega arith) ∙ ap Ok (chosen_row row wanted e)

pub ends_none : (c : Columns) (w : Progress) (wanted : ℕ) (row : Row) → IsAt c w wanted → w.rows < length c.ids → judged_row c w.rows ≡ Ok row → wanted ≤ row.id → row.id ≢ wanted → find_in c wanted ≡ Ok None
ends_none c w wanted row was here is le ne = stops_ok c wanted w.rows row here (passed_before c w wanted was) is le ∙ ap Ok (other_row row wanted ne)

not_below : (wanted id : ℕ) → wanted ≤ id → nat_le wanted id ≡ true
not_below wanted id h = grind (arith, nat_tests)

-- and where it ends there
pub ends_in : (c : Columns) (w : Progress) (wanted first n i : ℕ) (row : Row) → IsAt c w wanted → w.rows ≡ first + i → i < n → judged_row c w.rows ≡ Ok row → wanted ≤ row.id → EndsIn c wanted first n
ends_in c w wanted first n i row was rows inside is le = record {
  row = w.rows;
  from = omega (arith, rows);
  to = omega (arith, rows, inside);
  ends = record { here = ap (stops_at wanted) is ∙ not_below wanted row.id le; before = passed_before c w wanted was };
}

below_of : (wanted id : ℕ) → nat_le wanted id ≡ false → id < wanted
below_of wanted id h = grind (arith, nat_tests)

-- the id of a row at which a look-up goes on
id_below : (c : Columns) (wanted k : ℕ) → stops c wanted k ≡ false → id_at c k < wanted
id_below c wanted k off = by_row (judged_row c k) refl off
  where
    by_row : (r : Result Row IndexFault) → judged_row c k ≡ r → stops_at wanted r ≡ false → id_at c k < wanted
    by_row (Ok row) is off =
        let top : row.id ≡ id_at c k = ok_id k (slice_index c.ids k) (id_at c k) (start_at c k) (slice_index c.sizes k) row is in
        let low = below_of wanted row.id off in omega arith
    by_row (Err fault) is off = absurd (cc off)

-- a look-up that goes on at the last row of a walk goes on behind the walk
last_below : (c : Columns) (w : Progress) (wanted k : ℕ) → IsWalked c w → w.rows ≡ k + 1 → stops c wanted k ≡ false → w.id < wanted
last_below c w wanted k walked rows off =
    let same : w.id ≡ id_at c k = walked.id ∙ ap (λ n. sum (take n c.ids)) rows in
    let low = id_below c wanted k off in omega arith

serves_of : (before id count rows wanted : ℕ) → before + count ≤ rows → (0 < before → id < wanted) → serves (record { rows = before; id = id; end = 0 }) count rows wanted ≡ true
serves_of zero id count rows wanted fits low = grind (arith, nat_tests)
serves_of (suc n) id count rows wanted fits low = let less : id < wanted = low (omega arith) in grind (arith, nat_tests)

-- rows serve a look-up that ends at one of them
pub serves_inside : (c : Columns) (w : Progress) (wanted count rows r : ℕ) (ids starts sizes : List ℕ) → rows ≡ length c.ids → IsWalked c w → Holds c w.rows count ids starts sizes → EndsAt c wanted r → w.rows ≤ r → r < w.rows + count
    → serves w count rows wanted ≡ true
serves_inside c w wanted count rows r ids starts sizes long walked holds ends from to =
    let last : w.rows + (count - 1) < length c.ids = slice_get_within c.ids (w.rows + (count - 1)) (number_at ids (count - 1)) (holds (count - 1) (omega arith)).id in
    serves_of w.rows w.id count rows wanted (omega arith) (λ some. last_below c w wanted (w.rows - 1) walked (omega arith) (ends.before (w.rows - 1) (omega arith)))
