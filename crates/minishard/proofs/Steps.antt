-- Sums, one row on.
use Rattle.std.proofs.Common.{◌≡◌, ℕ, zero, suc, ◌+◌, ◌*◌, ◌<◌, ◌≤◌, Bool, true, false, List, OnOk, length, take, slice_index, slice_get, Some, None, Result, Ok, Err, arith, refl, ⊎_elim, ◌≢◌, ◌/◌, nat_le, ap, ◌∙◌, sym}
use Rattle.std.specs.Prelude.{sum, find, ◌==◌, if◌then◌else◌}
use Rattle.std.specs.List.{range_with_len}
use Rattle.std.proofs.lemmas.List.Sums.{sum_by_more}
use Rattle.std.proofs.lemmas.Option.{get_or_from_slice_get, slice_get_within, slice_get-get_or}
use Rattle.std.proofs.lemmas.List.FromFn.{length-map-range_with_len, get_or-map-range_with_len}
use Rattle.std.proofs.lemmas.Bool.{cases_lt}
use Rattle.std.proofs.lemmas.Bool.Decides.{nat_tests}
use Rattle.std.specs.Option.{option_map_or}
use Rattle.vol_spec.specs.Rows.{stops, stops_at, wanted_row, find_in, number_at, numbers_at, columns_of, Columns, judged_by, judged_row, id_at, start_at}
use Rattle.minishard.specs.Walks.{Progress, IsWalked, IsStored}
use Rattle.vol_spec.specs.declared.row.Row.{Row}
use Rattle.vol_base.specs.declared.faults.IndexFault.{IndexFault}

pub on_ok : {T E : Type 0} {P Q : Type 0} → (r : Result T E) → OnOk r P → (P → Q) → OnOk r Q
on_ok (Ok v) p f = f p
on_ok (Err e) p f = p

pub sum_more : (xs : List ℕ) (r x : ℕ) → slice_get xs r ≡ Some x → sum (take (r + 1) xs) ≡ sum (take r xs) + x
sum_more xs r x h = sum_by_more (λ n. n) xs r 0 (slice_get_within xs r x h) ∙ ap (λ n. sum (take r xs) + n) (get_or_from_slice_get xs r x 0 h)

-- by the numbers so far and by the sums
pub judged_same : (c : Columns) (w : Progress) (d s z : ℕ) → IsWalked c w → IsStored c w.rows d s z
    → judged_by w.rows d (w.id + d) (w.end + s) z ≡ judged_row c w.rows
judged_same c w d s z was row =
    let e0 : slice_index c.ids w.rows ≡ d = get_or_from_slice_get c.ids w.rows d 0 row.id in
    let e1 : id_at c w.rows ≡ w.id + d = sum_more c.ids w.rows d row.id ∙ ap (λ n. n + d) (sym was.id) in
    let e2 : start_at c w.rows ≡ w.end + s = (let more = sum_more c.starts w.rows s row.start in let e = was.end in omega arith) in
    let e3 : slice_index c.sizes w.rows ≡ z = get_or_from_slice_get c.sizes w.rows z 0 row.size in
    ap (λ n. judged_by w.rows n (w.id + d) (w.end + s) z) (sym e0) ∙ ap (λ n. judged_by w.rows (slice_index c.ids w.rows) n (w.end + s) z) (sym e1)
    ∙ ap (λ n. judged_by w.rows (slice_index c.ids w.rows) (id_at c w.rows) n z) (sym e2) ∙ ap (judged_by w.rows (slice_index c.ids w.rows) (id_at c w.rows) (start_at c w.rows)) (sym e3)

pub walked_more : (c : Columns) (w : Progress) (d s z : ℕ) → IsWalked c w → IsStored c w.rows d s z → IsWalked c (record { rows = w.rows + 1; id = w.id + d; end = w.end + s + z })
walked_more c w d s z was row =
    let a = sum_more c.ids w.rows d row.id in
    let b = sum_more c.starts w.rows s row.start in
    let e = sum_more c.sizes w.rows z row.size in
    let was_id = was.id in
    let was_end = was.end in
    record { id = omega arith; end = omega arith }

-- the first number of a range that passes
pub first_in : (p : ℕ → Bool) (a n r : ℕ) → a ≤ r → r < a + n → ((k : ℕ) → a ≤ k → k < r → p k ≡ false) → p r ≡ true → find p (range_with_len a n) ≡ Some r
first_in p a zero r low high before here = absurd (omega arith)
first_in p a (suc n) r low high before here =
    ⊎_elim (λ (lt : a < r). rw (before a (omega arith) lt) (first_in p (a + 1) n r (omega arith) (omega arith) (λ k l h. before k (omega arith) h) here))
    (λ (ge : r ≤ a). let e : r ≡ a = omega arith in rw (ap p (sym e) ∙ here) (ap Some (sym e))) (cases_lt a r)

pub none_in : (p : ℕ → Bool) (a n : ℕ) → ((k : ℕ) → a ≤ k → k < a + n → p k ≡ false) → find p (range_with_len a n) ≡ None
none_in p a zero before = refl
none_in p a (suc n) before = rw (before a (omega arith) (omega arith)) (none_in p (a + 1) n (λ k l h. before k (omega arith) (omega arith)))

-- a look-up that stops at row r
pub found_at : (c : Columns) (wanted r : ℕ) → r < length c.ids → ((k : ℕ) → k < r → stops c wanted k ≡ false) → stops c wanted r ≡ true
    → find_in c wanted ≡ wanted_row wanted (judged_row c r)
found_at c wanted r h before here =
    ap (λ o. option_map_or (λ k. wanted_row wanted (judged_row c k)) o (Ok None)) (first_in (stops c wanted) 0 (length c.ids) r (omega arith) (omega arith) (λ k l b. before k b) here)

pub found_none : (c : Columns) (wanted n : ℕ) → n ≡ length c.ids → ((k : ℕ) → k < n → stops c wanted k ≡ false) → find_in c wanted ≡ Ok None
found_none c wanted n e before =
    ap (λ o. option_map_or (λ k. wanted_row wanted (judged_row c k)) o (Ok None)) (none_in (stops c wanted) 0 (length c.ids) (λ k l b. before k (omega arith)))

at_word : (bytes : List ℕ) (a n i j : ℕ) → i < n → a + i ≡ j → slice_get (numbers_at bytes a n) i ≡ Some (number_at bytes j)
at_word bytes a n i j h e =
    slice_get-get_or (numbers_at bytes a n) i 0 (omega (arith, length-map-range_with_len (number_at bytes) a n)) ∙ ap Some (get_or-map-range_with_len (number_at bytes) a n i j 0 h e)

-- what the bytes store of a row
pub stored_of : (bytes : List ℕ) (n r : ℕ) → n ≡ length bytes / 24 → r < n → IsStored (columns_of bytes) r (number_at bytes r) (number_at bytes (n + r)) (number_at bytes (2 * n + r))
stored_of bytes n r e h = record {
  id = at_word bytes 0 (length bytes / 24) r r (omega arith) (omega arith);
  start = at_word bytes (length bytes / 24) (length bytes / 24) r (n + r) (omega arith) (omega arith);
  size = at_word bytes (2 * (length bytes / 24)) (length bytes / 24) r (2 * n + r) (omega arith) (omega arith);
}

pub columns_rows : (bytes : List ℕ) → length (columns_of bytes).ids ≡ length bytes / 24
columns_rows bytes = length-map-range_with_len (number_at bytes) 0 (length bytes / 24)

-- of a row behind which a look-up goes on, and of one where it stops
pub goes_on : (wanted id : ℕ) → id < wanted → nat_le wanted id ≡ false
goes_on wanted id h = grind (arith, nat_tests)

pub stops_there : (wanted id : ℕ) → wanted ≤ id → nat_le wanted id ≡ true
stops_there wanted id h = grind (arith, nat_tests)

-- a row whose numbers were read
pub stored_here : (bytes : List ℕ) (n r k d s z : ℕ) → n ≡ length bytes / 24 → r < n → k ≡ r → d ≡ number_at bytes r → s ≡ number_at bytes (n + r) → z ≡ number_at bytes (2 * n + r)
    → IsStored (columns_of bytes) k d s z
stored_here bytes n r k d s z e h ek ed es ez =
    let at_r = stored_of bytes n r e h in
    record {
      id = ap (slice_get (columns_of bytes).ids) ek ∙ at_r.id ∙ ap Some (sym ed);
      start = ap (slice_get (columns_of bytes).starts) ek ∙ at_r.start ∙ ap Some (sym es);
      size = ap (slice_get (columns_of bytes).sizes) ek ∙ at_r.size ∙ ap Some (sym ez);
    }

pub chosen_row : (row : Row) (wanted : ℕ) → row.id ≡ wanted → (if row.id == wanted then Some row else None) ≡ Some row
chosen_row row wanted e = grind (arith, nat_tests)

pub other_row : (row : Row) (wanted : ℕ) → row.id ≢ wanted → (if row.id == wanted then Some row else None) ≡ None
other_row row wanted e = grind (arith, nat_tests)

-- a look-up that stops at a good row, and one that stops at a bad one
pub stops_ok : (c : Columns) (wanted r : ℕ) (row : Row) → r < length c.ids → ((k : ℕ) → k < r → stops c wanted k ≡ false) → judged_row c r ≡ Ok row → wanted ≤ row.id
    → find_in c wanted ≡ Ok (if row.id == wanted then Some row else None)
stops_ok c wanted r row h before is le = found_at c wanted r h before (ap (stops_at wanted) is ∙ stops_there wanted row.id le) ∙ ap (wanted_row wanted) is

pub stops_err : (c : Columns) (wanted r : ℕ) (fault : IndexFault) → r < length c.ids → ((k : ℕ) → k < r → stops c wanted k ≡ false) → judged_row c r ≡ Err fault
    → find_in c wanted ≡ Err fault
stops_err c wanted r fault h before is = found_at c wanted r h before (ap (stops_at wanted) is) ∙ ap (wanted_row wanted) is
