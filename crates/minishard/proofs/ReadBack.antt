-- What was written of rows is read as these rows.
use Rattle.std.specs.List.{range_with_len}
use Rattle.std.specs.Option.{option_map_or}
use Rattle.std.proofs.Common.{cond, ◌≢◌, Bool, true, false, Option, None, ◌≡◌, ℕ, zero, suc, ◌+◌, ◌-◌, ◌*◌, ◌/◌, ◌<◌, ◌^◌, List, [], ◌∷◌, ◌++◌, length, take, slice_index, slice_get, get_or, Some, Ok, arith, refl, ap, ◌∙◌, sym, subst, length-append, append_assoc, add-one}
use Rattle.std.specs.Prelude.{sum, find}
use Rattle.std.proofs.lemmas.Bool.Decides.{nat_tests}
use Rattle.std.proofs.lemmas.List.{append-nil, drop_at, get_or-map, length-map}
use Rattle.std.proofs.lemmas.List.Sums.{sum_by_more}
use Rattle.std.proofs.lemmas.Option.{get_or_from_slice_get, slice_get_within}
use Rattle.byteorder.specs.Numbers.{little_number-reads_back}
use Rattle.vol_spec.specs.Rows.{Columns, number_at, numbers_at, columns_of, judged_by, judged_row, id_at, start_at, find_in, stops, stops_at, wanted_row}
use Rattle.vol_spec.specs.IndexBytes.{ids, starts, ends, sizes, stored, eight, numbers, index_bytes, AreRows}
use Rattle.minishard.specs.Numbers.{AreIds}
use Rattle.vol_spec.specs.declared.row.Row.{Row}
use Rattle.minishard.proofs.ColumnSteps.{length-eight, length-ids, length-starts, stored_id, stored_start, next_before}
use Rattle.minishard.proofs.Steps.{stops_ok, goes_on, chosen_row, other_row}

pub word_in : (pre post : List ℕ) (k n : ℕ) → length pre ≡ 8 * k → n < 2 ^ 64 → number_at (pre ++ (eight n ++ post)) k ≡ n
unfolding number_at eight
word_in pre post k n e h = rw (drop_at pre (eight n ++ post) (8 * k) e) (little_number-reads_back 8 n post h)

pub words_in : (ns pre post : List ℕ) (k : ℕ) → length pre ≡ 8 * k → ((i : ℕ) → i < length ns → slice_index ns i < 2 ^ 64) → numbers_at (pre ++ numbers ns ++ post) k (length ns) ≡ ns
words_in [] pre post k e fit = refl
words_in (n ∷ ns) pre post k e fit =
    let first : pre ++ (eight n ++ numbers ns) ++ post ≡ pre ++ (eight n ++ (numbers ns ++ post)) = append_assoc pre (eight n ++ numbers ns) post ∙ ap (λ xs. pre ++ xs) (append_assoc (eight n) (numbers ns) post) in
    let next : pre ++ (eight n ++ numbers ns) ++ post ≡ (pre ++ eight n) ++ numbers ns ++ post = ap (λ xs. xs ++ post) (sym (append_assoc pre (eight n) (numbers ns))) in
    let one : number_at (pre ++ (eight n ++ numbers ns) ++ post) k ≡ n = ap (λ xs. number_at xs k) first ∙ word_in pre (numbers ns ++ post) k n e (fit 0 (omega arith)) in
    let rest : numbers_at (pre ++ (eight n ++ numbers ns) ++ post) (k + 1) (length ns) ≡ ns =
    ap (λ xs. numbers_at xs (k + 1) (length ns)) next ∙ words_in ns (pre ++ eight n) post (k + 1) (omega (arith, length-append pre (eight n), length-eight n)) (λ i h. fit (suc i) (omega arith)) in
    ap (λ m. m ∷ numbers_at (pre ++ (eight n ++ numbers ns) ++ post) (k + 1) (length ns)) one ∙ ap (λ ms. n ∷ ms) rest

pub length-numbers : (ns : List ℕ) → length (numbers ns) ≡ 8 * length ns
length-numbers [] = refl
length-numbers (n ∷ ns) = let rest = length-numbers ns in omega (arith, length-append (eight n) (numbers ns), length-eight n)

-- the columns of an index of n rows
pub columns_in : (c : Columns) (n : ℕ) → length c.ids ≡ n → length c.starts ≡ n → length c.sizes ≡ n
    → ((i : ℕ) → i < n → slice_index c.ids i < 2 ^ 64) → ((i : ℕ) → i < n → slice_index c.starts i < 2 ^ 64) → ((i : ℕ) → i < n → slice_index c.sizes i < 2 ^ 64)
    → columns_of (index_bytes c) ≡ c
columns_in c n a b d fa fb fd =
    let la = length-numbers c.ids in
    let lb = length-numbers c.starts in
    let ld = length-numbers c.sizes in
    let l1 = length-append (numbers c.ids) (numbers c.starts) in
    let long : length (index_bytes c) ≡ 24 * n = omega (arith, length-append (numbers c.ids ++ numbers c.starts) (numbers c.sizes)) in
    let rows : length (index_bytes c) / 24 ≡ n = omega arith in
    let one : numbers_at (index_bytes c) 0 n ≡ c.ids =
    ap (λ xs. numbers_at xs 0 n) (append_assoc (numbers c.ids) (numbers c.starts) (numbers c.sizes)) ∙ ap (numbers_at (numbers c.ids ++ (numbers c.starts ++ numbers c.sizes)) 0) (sym a)
    ∙ words_in c.ids [] (numbers c.starts ++ numbers c.sizes) 0 refl (λ i h. fa i (omega arith)) in
    let two : numbers_at (index_bytes c) n n ≡ c.starts =
    ap (numbers_at (index_bytes c) n) (sym b) ∙ words_in c.starts (numbers c.ids) (numbers c.sizes) n (omega arith) (λ i h. fb i (omega arith)) in
    let three : numbers_at (index_bytes c) (2 * n) n ≡ c.sizes =
    ap (λ xs. numbers_at xs (2 * n) n) (sym (append-nil (index_bytes c))) ∙ ap (numbers_at (index_bytes c ++ []) (2 * n)) (sym d)
    ∙ words_in c.sizes (numbers c.ids ++ numbers c.starts) [] (2 * n) (omega arith) (λ i h. fd i (omega arith)) in
    ap (λ k. let r : Columns = record { ids = numbers_at (index_bytes c) 0 k; starts = numbers_at (index_bytes c) k k; sizes = numbers_at (index_bytes c) (2 * k) k } in r) rows
    ∙ ap (λ xs. let r : Columns = record { ids = xs; starts = numbers_at (index_bytes c) n n; sizes = numbers_at (index_bytes c) (2 * n) n } in r) one
    ∙ ap (λ xs. let r : Columns = record { ids = c.ids; starts = xs; sizes = numbers_at (index_bytes c) (2 * n) n } in r) two
    ∙ ap (λ xs. let r : Columns = record { ids = c.ids; starts = c.starts; sizes = xs } in r) three

pub size_end : (rows : List Row) (r : ℕ) → r < length rows → slice_index (starts rows) r + slice_index (sizes rows) r ≡ slice_index (ends rows) r
size_end rows r h =
    let d : Row = record { id = 0; start = 0; size = 0 } in
    let a = get_or-map (λ (row : Row). row.start) rows r (record { id = 0; start = 0; size = 0 }) 0 h in
    let b = get_or-map (λ (row : Row). row.size) rows r (record { id = 0; start = 0; size = 0 }) 0 h in
    let e = get_or-map (λ (row : Row). row.start + row.size) rows r (record { id = 0; start = 0; size = 0 }) 0 h in
    omega arith

pub columns_back : (rows : List Row) → AreRows rows → AreIds rows → columns_of (index_bytes (stored rows)) ≡ stored rows
columns_back rows are small =
    columns_in (stored rows) (length rows) (length-ids rows) (length-starts rows) (length-map rows (λ (row : Row). row.size))
    (λ i h. let fit = small i h in let is = stored_id rows i h in omega arith)
    (λ i h. let fit = are.fit i h in let is = stored_start rows i h in let e = size_end rows i h in omega arith)
    (λ i h. let fit = are.fit i h in let e = size_end rows i h in omega arith)

pub id_sum : (rows : List Row) → AreRows rows → (r : ℕ) → r < length rows → id_at (stored rows) r ≡ slice_index (ids rows) r
id_sum rows are zero h =
    let more = sum_by_more (λ n. n) (stored rows).ids 0 0 (omega (arith, length-ids rows)) in
    let is : slice_index (stored rows).ids 0 ≡ slice_index (ids rows) 0 - 0 = stored_id rows 0 h in
    let none : sum (take 0 (stored rows).ids) ≡ 0 = refl in
    omega arith
id_sum rows are (suc r) h =
    let was = id_sum rows are r (omega arith) in
    let more = sum_by_more (λ n. n) (stored rows).ids (r + 1) 0 (omega (arith, length-ids rows)) in
    let is : slice_index (stored rows).ids (r + 1) ≡ slice_index (ids rows) (r + 1) - slice_index (0 ∷ ids rows) (r + 1) = stored_id rows (r + 1) (omega arith) in
    let up = are.ascend r (omega arith) in
    let before : slice_index (0 ∷ ids rows) (r + 1) ≡ slice_index (ids rows) r = next_before (ids rows) r in
    let next : id_at (stored rows) (r + 1) ≡ slice_index (ids rows) (r + 1) = omega arith in
    let P : ℕ → Type 0 = λ k. id_at (stored rows) k ≡ slice_index (ids rows) k in
    subst P (add-one r) next

pub start_sum : (rows : List Row) → AreRows rows → (r : ℕ) → r < length rows → start_at (stored rows) r ≡ slice_index (starts rows) r
start_sum rows are zero h =
    let more = sum_by_more (λ n. n) (stored rows).starts 0 0 (omega (arith, length-starts rows)) in
    let is : slice_index (stored rows).starts 0 ≡ slice_index (starts rows) 0 - 0 = stored_start rows 0 h in
    let none : sum (take 0 (stored rows).starts) ≡ 0 = refl in
    let no_sizes : sum (take 0 (sizes rows)) ≡ 0 = refl in
    omega arith
start_sum rows are (suc r) h =
    let was = start_sum rows are r (omega arith) in
    let more = sum_by_more (λ n. n) (stored rows).starts (r + 1) 0 (omega (arith, length-starts rows)) in
    let size_more = sum_by_more (λ n. n) (sizes rows) r 0 (omega (arith, length-map rows (λ (row : Row). row.size))) in
    let is : slice_index (stored rows).starts (r + 1) ≡ slice_index (starts rows) (r + 1) - slice_index (0 ∷ ends rows) (r + 1) = stored_start rows (r + 1) (omega arith) in
    let up = are.follow r (omega arith) in
    let whole = size_end rows r (omega arith) in
    let before : slice_index (0 ∷ ends rows) (r + 1) ≡ slice_index (ends rows) r = next_before (ends rows) r in
    let next : start_at (stored rows) (r + 1) ≡ slice_index (starts rows) (r + 1) = omega arith in
    let P : ℕ → Type 0 = λ k. start_at (stored rows) k ≡ slice_index (starts rows) k in
    subst P (add-one r) next

-- what the numbers of a row give
judged_ok : (r d id start size : ℕ) → (0 < r → 0 < d) → id < 2 ^ 64 → start + size < 2 ^ 64 → judged_by r d id start size ≡ Ok (record { id = id; start = start; size = size })
judged_ok r d id start size up small fits = grind (arith, nat_tests)

above_before : (rows : List Row) → AreRows rows → (r : ℕ) → r < length rows → 0 < r → 0 < slice_index (stored rows).ids r
above_before rows are zero h p = absurd (omega arith)
above_before rows are (suc r) h p =
    let is : slice_index (stored rows).ids (r + 1) ≡ slice_index (ids rows) (r + 1) - slice_index (0 ∷ ids rows) (r + 1) = stored_id rows (r + 1) (omega arith) in
    let up = are.ascend r (omega arith) in
    let before : slice_index (0 ∷ ids rows) (r + 1) ≡ slice_index (ids rows) r = next_before (ids rows) r in
    let next : 0 < slice_index (stored rows).ids (r + 1) = omega arith in
    let P : ℕ → Type 0 = λ k. 0 < slice_index (stored rows).ids k in
    subst P (add-one r) next

-- row r of what was written
pub judged_stored : (rows : List Row) → AreRows rows → AreIds rows → (r : ℕ) → r < length rows
    → judged_row (stored rows) r ≡ Ok (record { id = slice_index (ids rows) r; start = slice_index (starts rows) r; size = slice_index (sizes rows) r })
judged_stored rows are small r h =
    let fit_id = small r h in
    let fit = are.fit r h in
    let whole = size_end rows r h in
    ap (λ n. judged_by r (slice_index (stored rows).ids r) n (start_at (stored rows) r) (slice_index (sizes rows) r)) (id_sum rows are r h)
    ∙ ap (λ n. judged_by r (slice_index (stored rows).ids r) (slice_index (ids rows) r) n (slice_index (sizes rows) r)) (start_sum rows are r h)
    ∙ judged_ok r (slice_index (stored rows).ids r) (slice_index (ids rows) r) (slice_index (starts rows) r) (slice_index (sizes rows) r) (above_before rows are r h) (omega arith) (omega arith)

whole_row : (rows : List Row) (r : ℕ) (row : Row) → slice_get rows r ≡ Some row → record { id = slice_index (ids rows) r; start = slice_index (starts rows) r; size = slice_index (sizes rows) r } ≡ row
whole_row rows r row is =
    let h = slice_get_within rows r row is in
    let e : get_or rows r row ≡ row = get_or_from_slice_get rows r row row is in
    let a : slice_index (ids rows) r ≡ row.id = get_or-map (λ (x : Row). x.id) rows r row 0 h ∙ ap (λ (x : Row). x.id) e in
    let b : slice_index (starts rows) r ≡ row.start = get_or-map (λ (x : Row). x.start) rows r row 0 h ∙ ap (λ (x : Row). x.start) e in
    let d : slice_index (sizes rows) r ≡ row.size = get_or-map (λ (x : Row). x.size) rows r row 0 h ∙ ap (λ (x : Row). x.size) e in
    rw (a, b, d) refl

pub row_back : (rows : List Row) → AreRows rows → AreIds rows → (r : ℕ) (row : Row) → slice_get rows r ≡ Some row → judged_row (columns_of (index_bytes (stored rows))) r ≡ Ok row
row_back rows are small r row is =
    ap (λ c. judged_row c r) (columns_back rows are small) ∙ judged_stored rows are small r (slice_get_within rows r row is) ∙ ap Ok (whole_row rows r row is)

-- ids ascend over any distance
pub ascend_far : (rows : List Row) → AreRows rows → (k d : ℕ) → k + suc d < length rows → slice_index (ids rows) k < slice_index (ids rows) (k + suc d)
ascend_far rows are k zero h = are.ascend k h
ascend_far rows are k (suc d) h =
    let far = ascend_far rows are k d (omega arith) in
    let up = are.ascend (k + suc d) (omega arith) in
    let e : k + suc d + 1 ≡ k + suc (suc d) = omega arith in
    let step : slice_index (ids rows) (k + suc d) < slice_index (ids rows) (k + suc (suc d)) = rw e at up in
    omega arith

pub found_back : (rows : List Row) → AreRows rows → AreIds rows → (r : ℕ) (row : Row) → slice_get rows r ≡ Some row → find_in (columns_of (index_bytes (stored rows))) row.id ≡ Ok (Some row)
found_back rows are small r row is =
    let h = slice_get_within rows r row is in
    let e : get_or rows r row ≡ row = get_or_from_slice_get rows r row row is in
    let id_is : slice_index (ids rows) r ≡ row.id = get_or-map (λ (x : Row). x.id) rows r row 0 h ∙ ap (λ (x : Row). x.id) e in
    ap (λ c. find_in c row.id) (columns_back rows are small)
    ∙ stops_ok (stored rows) row.id r row (omega (arith, length-ids rows))
    (λ k l.
    let e : k + suc (r - (k + 1)) ≡ r = omega arith in
    let far : slice_index (ids rows) k < slice_index (ids rows) (k + suc (r - (k + 1))) = ascend_far rows are k (r - (k + 1)) (omega arith) in
    let lower : slice_index (ids rows) k < slice_index (ids rows) r = rw e at far in
    ap (stops_at row.id) (judged_stored rows are small k (omega arith)) ∙ goes_on row.id (slice_index (ids rows) k) (omega arith))
    (judged_stored rows are small r h ∙ ap Ok (whole_row rows r row is)) (omega arith)
    ∙ ap Ok (chosen_row row row.id refl)

find_within : (p : ℕ → Bool) (a n r : ℕ) → find p (range_with_len a n) ≡ Some r → r < a + n
find_within p a zero r e = absurd (cc)
find_within p a (suc n) r e = by (find_within p (a + 1) n r) (p a) e
  where
    by : (find p (range_with_len (a + 1) n) ≡ Some r → r < a + 1 + n) → (b : Bool) → cond b (Some a) (find p (range_with_len (a + 1) n)) ≡ Some r → r < a + suc n
    by later true e = let same : a ≡ r = cc in omega arith
    by later false e = let rest = later e in omega arith

-- an id that no row has
pub absent_back : (rows : List Row) → AreRows rows → AreIds rows → (wanted : ℕ) → ((r : ℕ) → r < length rows → slice_index (ids rows) r ≢ wanted) → find_in (columns_of (index_bytes (stored rows))) wanted ≡ Ok None
absent_back rows are small wanted other =
    ap (λ c. find_in c wanted) (columns_back rows are small) ∙ by (find (stops (stored rows) wanted) (range_with_len 0 (length (stored rows).ids))) refl
  where
    by : (o : Option ℕ) → find (stops (stored rows) wanted) (range_with_len 0 (length (stored rows).ids)) ≡ o
        → option_map_or (λ r. wanted_row wanted (judged_row (stored rows) r)) o (Ok None) ≡ Ok None
    by None e = refl
    by (Some r) e =
        let h : r < length rows = (let w = find_within (stops (stored rows) wanted) 0 (length (stored rows).ids) r e in omega (arith, length-ids rows)) in
        ap (wanted_row wanted) (judged_stored rows are small r h) ∙ ap Ok (other_row (record { id = slice_index (ids rows) r; start = slice_index (starts rows) r; size = slice_index (sizes rows) r }) wanted (other r h))
