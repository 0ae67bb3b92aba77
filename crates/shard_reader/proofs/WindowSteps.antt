-- Windows of an index, and what a look-up sees in them.
use Rattle.std.proofs.Common.{◌≡◌, ℕ, ◌+◌, ◌*◌, ◌/◌, ◌<◌, ◌≤◌, List, length, drop, Option, None, Some, IfSome, true, false, Result, Ok, Err, arith, ap, ◌∙◌, sym, subst, length-take, length-drop}
use Rattle.std.proofs.lemmas.Bool.Decides.{nat_tests}
use Rattle.vol_base.specs.Outside.{part}
use Rattle.vol_spec.specs.FoundChunks.{of_index}
use Rattle.vol_spec.specs.Rows.{Columns, columns_of, find_in}
use Rattle.vol_spec.specs.declared.row.Row.{Row}
use Rattle.minishard.specs.Walks.{Progress}
use Rattle.minishard.proofs.Steps.{columns_rows}
use Rattle.shard_reader.specs.Reading.{Answers, EndsAt, EndsIn, EndsSeen, Holds, IsAt, IsWindow, resumes, serves, sizes_of, starts_of, Tells}
use Rattle.shard_reader.specs.declared.bytes.LookupFault.{LookupFault}
use Rattle.shard_reader.specs.declared.bytes.LookupFault.TheVariants.{NotRead, Faulty}
use Rattle.shard_reader.specs.declared.scan.Seen.{Seen}
use Rattle.shard_reader.specs.declared.scan.Seen.TheVariants.{Answer, Nothing}
use Rattle.shard_reader.proofs.ScanSteps.{none_left, serves_inside}

pub part_rows : (object : List ℕ) (at rows : ℕ) → at + 24 * rows ≤ length object → length (columns_of (part object at (24 * rows))).ids ≡ rows
part_rows object at rows fits =
    let long : length (part object at (24 * rows)) ≡ 24 * rows = omega (arith, length-take (24 * rows) (drop at object), length-drop at object) in
    columns_rows (part object at (24 * rows)) ∙ ap (λ n. n / 24) long ∙ (omega arith)

resumes_below : (rows id wanted : ℕ) → resumes (record { rows = rows; id = id; end = 0 }) wanted ≡ true → 0 < rows → id < wanted
resumes_below rows id wanted h some = grind (arith, nat_tests)

pub at_window : (w : Progress) (wanted count : ℕ) (columns bytes : List ℕ) → IsWindow w count columns bytes → resumes w wanted ≡ true → IsAt (columns_of bytes) w wanted
at_window w wanted count columns bytes is h = record { walked = is.walked; passed = is.passed; below = resumes_below w.rows w.id wanted h }

resumes_at : (rows id wanted : ℕ) → (0 < rows → id < wanted) → resumes (record { rows = rows; id = id; end = 0 }) wanted ≡ true
resumes_at rows id wanted h = grind (arith, nat_tests)

-- a look-up of the same id goes on behind the walk that it has come to
pub goes_on : (c : Columns) (w v : Progress) (wanted : ℕ) → w ≡ v → IsAt c v wanted → resumes w wanted ≡ true
goes_on c w v wanted e is = subst (λ u. resumes u wanted ≡ true) (sym e) (resumes_at v.rows v.id wanted is.below)

pub window_at : (bytes : List ℕ) (w v : Progress) (wanted count : ℕ) (columns : List ℕ) → w ≡ v → IsAt (columns_of bytes) v wanted → Holds (columns_of bytes) v.rows count columns (starts_of columns) (sizes_of columns) → IsWindow w count columns bytes
window_at bytes w v wanted count columns e was holds =
    subst (λ u. IsWindow u count columns bytes) (sym e) (record { walked = was.walked; passed = was.passed; holds = holds })

-- what is said of the rows of a window, behind a walk like the one before them
at_first : (P : Columns → Type 0) (object columns : List ℕ) (at rows wanted count : ℕ) (w v : Progress) → at + 24 * rows ≤ length object → v ≡ w → resumes w wanted ≡ true → w.rows + count ≤ rows
    → IsWindow w count columns (part object at (24 * rows))
    → ((c : Columns) → IsAt c v wanted → Holds c v.rows count columns (starts_of columns) (sizes_of columns) → v.rows + count ≤ length c.ids → P c)
    → P (columns_of (part object at (24 * rows)))
at_first P object columns at rows wanted count w v fits e h within is says =
    let c = columns_of (part object at (24 * rows)) in
    says c (subst (λ x. IsAt c x wanted) (sym e) (at_window w wanted count columns (part object at (24 * rows)) is h))
    (subst (λ (x : Progress). Holds c x.rows count columns (starts_of columns) (sizes_of columns)) (sym e) is.holds)
    (subst (λ (x : Progress). x.rows + count ≤ length c.ids) (sym e) (omega (arith, part_rows object at rows fits)))

-- what they say of a look-up
pub seen_first : (object columns : List ℕ) (at rows wanted count : ℕ) (w v u : Progress) (r : Result Seen LookupFault) → at + 24 * rows ≤ length object → v ≡ w → resumes w wanted ≡ true → w.rows + count ≤ rows
    → IsWindow w count columns (part object at (24 * rows))
    → ((c : Columns) → IsAt c v wanted → Holds c v.rows count columns (starts_of columns) (sizes_of columns) → v.rows + count ≤ length c.ids → Tells c wanted r u)
    → Tells (columns_of (part object at (24 * rows))) wanted r u
seen_first object columns at rows wanted count w v u r fits e h within is sees = at_first (λ c. Tells c wanted r u) object columns at rows wanted count w v fits e h within is sees

ends_row : (c : Columns) (wanted : ℕ) (r : Result Seen LookupFault) (seen : Seen) (row : Option Row) (first n : ℕ) → r ≡ Ok seen → seen ≡ Answer row → EndsSeen c wanted r first n → EndsIn c wanted first n
ends_row c wanted r seen row first n e is h = subst (λ x. EndsSeen c wanted x first n) (e ∙ ap Ok is) h

-- and where it ends
pub ends_first : (object columns : List ℕ) (at rows wanted count : ℕ) (w v : Progress) (r : Result Seen LookupFault) (seen : Seen) (row : Option Row) → at + 24 * rows ≤ length object → v ≡ w → resumes w wanted ≡ true → w.rows + count ≤ rows
    → IsWindow w count columns (part object at (24 * rows)) → r ≡ Ok seen → seen ≡ Answer row
    → ((c : Columns) → IsAt c v wanted → Holds c v.rows count columns (starts_of columns) (sizes_of columns) → v.rows + count ≤ length c.ids → EndsSeen c wanted r v.rows count)
    → EndsIn (columns_of (part object at (24 * rows))) wanted w.rows count
ends_first object columns at rows wanted count w v r seen row fits e h within is answer there says =
    let c = columns_of (part object at (24 * rows)) in
    subst (λ (x : Progress). EndsIn c wanted x.rows count) e
    (ends_row c wanted r seen row v.rows count answer there (at_first (λ k. EndsSeen k wanted r v.rows count) object columns at rows wanted count w v fits e h within is says))

-- where it ends in rows that were read behind a walk
pub ends_on : (c : Columns) (wanted : ℕ) (r : Result Seen LookupFault) (seen : Seen) (row : Option Row) (w v : Progress) (n : ℕ) → r ≡ Ok seen → seen ≡ Answer row → w ≡ v → EndsSeen c wanted r v.rows n → EndsIn c wanted w.rows n
ends_on c wanted r seen row w v n e is same h = subst (λ (x : Progress). EndsIn c wanted x.rows n) (sym same) (ends_row c wanted r seen row v.rows n e is h)

pub on_some : {A : Type 0} (o : Option A) (P : Type 0) → P → IfSome o (λ _. P)
on_some (Some a) P h = h
on_some None P h = tt

answers_fault : (c : Columns) (wanted : ℕ) (fault : LookupFault) (u : Progress) → Tells c wanted (Err fault) u → Answers {A = Option Row} (of_index (find_in c wanted)) (Err fault)
answers_fault c wanted NotRead u h = tt
answers_fault c wanted (Faulty fault) u h = h

-- what a look-up answers by them
pub tells_err : (c : Columns) (wanted : ℕ) (r : Result Seen LookupFault) (fault : LookupFault) (u : Progress) → r ≡ Err fault → Tells c wanted r u → Answers {A = Option Row} (of_index (find_in c wanted)) (Err fault)
tells_err c wanted r fault u e h = answers_fault c wanted fault u (subst (λ x. Tells c wanted x u) e h)

pub tells_row : (c : Columns) (wanted : ℕ) (r : Result Seen LookupFault) (seen : Seen) (row : Option Row) (u : Progress) → r ≡ Ok seen → seen ≡ Answer row → Tells c wanted r u → of_index (find_in c wanted) ≡ Ok row
tells_row c wanted r seen row u e is h = let f : find_in c wanted ≡ Ok row = subst (λ x. Tells c wanted x u) (e ∙ ap Ok is) h in ap of_index f

pub tells_on : (c : Columns) (wanted : ℕ) (r : Result Seen LookupFault) (seen : Seen) (u : Progress) → r ≡ Ok seen → seen ≡ Nothing → Tells c wanted r u → IsAt c u wanted
tells_on c wanted r seen u e is h = subst (λ x. Tells c wanted x u) (e ∙ ap Ok is) h

pub tells_end : (c : Columns) (wanted : ℕ) (u : Progress) → IsAt c u wanted → u.rows ≡ length c.ids → of_index (find_in c wanted) ≡ Ok None
tells_end c wanted u was all = ap of_index (none_left c u wanted was all)

-- a look-up that rows don't serve doesn't end at one of them
pub not_inside : (object columns : List ℕ) (at rows wanted count r : ℕ) (w : Progress) → at + 24 * rows ≤ length object → IsWindow w count columns (part object at (24 * rows)) → serves w count rows wanted ≡ false
    → EndsAt (columns_of (part object at (24 * rows))) wanted r → w.rows ≤ r → r < w.rows + count → ⊥
not_inside object columns at rows wanted count r w fits is off ends from to =
    let on = serves_inside (columns_of (part object at (24 * rows))) w wanted count rows r columns (starts_of columns) (sizes_of columns) (sym (part_rows object at rows fits)) is.walked is.holds ends from to in
    cc (on, off)
