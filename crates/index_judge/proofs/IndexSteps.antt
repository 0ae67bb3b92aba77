-- The index of a minishard, by the object of its shard.
use Rattle.std.proofs.Common.{◌≡◌, ℕ, ◌+◌, ◌*◌, ◌≤◌, List, length, Option, None, Some, IfSome, Result, Ok, Err, refl, ap, ◌∙◌, sym, subst, arith}
use Rattle.std.specs.Prelude.{⊤}
use Rattle.std.specs.FinMap as map
use Rattle.vol_base.specs.Outside.{Objects, part}
use Rattle.vol_base.specs.declared.faults.Fault.{Fault}
use Rattle.vol_base.specs.declared.faults.Fault.TheVariants.{Shard}
use Rattle.vol_base.specs.declared.faults.ShardFault.{ShardFault}
use Rattle.vol_spec.proofs.Told.{from_told, in_told}
use Rattle.vol_spec.specs.Costs.{rows_cost}
use Rattle.vol_spec.specs.FoundChunks.{of_shard, rows_in}
use Rattle.vol_spec.specs.Rows.{columns_of}
use Rattle.vol_spec.specs.Verdicts.{rows_wrong}
use Rattle.vol_spec.specs.Verdicts.Wrong.{Damaged as DamagedBy}
use Rattle.vol_spec.specs.declared.sharding.Sharding.{Sharding}
use Rattle.shard_reader.specs.Reading.{OnIndex}
use Rattle.shard_reader.specs.declared.span.IndexSpan.{IndexSpan}
use Rattle.index_judge.specs.Judging.{IsOpened, Opens, Says, first_wrong_row, index_cost, wrong_in}
use Rattle.index_judge.specs.declared.fault.JudgeFault.{JudgeFault}
use Rattle.index_judge.specs.declared.fault.JudgeFault.TheVariants.{NotRead, Damaged, Misplaced}

entry_wrong : (object : List ℕ) (sharding : Sharding) (shard m : ℕ) (fault : Fault) (rows : Result ℕ ShardFault) → of_shard rows ≡ Err fault → rows_wrong object sharding shard m rows ≡ Some (DamagedBy fault)
entry_wrong object sharding shard m fault (Ok rows) is = absurd (cc is)
entry_wrong object sharding shard m fault (Err e) is = ap (λ f. Some (DamagedBy f)) (let same : Shard e ≡ fault = cc is in same)

-- the entry is at fault
by_entry : (object : Option (List ℕ)) (sharding : Sharding) (shard m : ℕ) (fault : JudgeFault) → Opens sharding m object (Err fault) → Says {A = ⊤} (wrong_in object sharding shard m) (Err fault)
by_entry object sharding shard m NotRead h = tt
by_entry object sharding shard m (Misplaced s k id) h = absurd h
by_entry None sharding shard m (Damaged fault) h = absurd h
by_entry (Some object) sharding shard m (Damaged fault) h = entry_wrong object sharding shard m fault (rows_in object sharding m) h

pub entry_judged : (o : Option Objects) (name : List ℕ) (sharding : Sharding) (shard m : ℕ) (r : Result (Option IndexSpan) JudgeFault) (fault : JudgeFault) → r ≡ Err fault → IfSome o (λ objects. Opens sharding m (map.get objects name) r)
    → IfSome o (λ objects. Says {A = ⊤} (wrong_in (map.get objects name) sharding shard m) (Err fault))
entry_judged None name sharding shard m r fault is h = tt
entry_judged (Some objects) name sharding shard m r fault is h = by_entry (map.get objects name) sharding shard m fault (subst (Opens sharding m (map.get objects name)) is h)

-- there is no such object
by_absence : (object : Option (List ℕ)) (sharding : Sharding) (shard m : ℕ) → Opens sharding m object (Ok None) → wrong_in object sharding shard m ≡ None
by_absence None sharding shard m h = refl
by_absence (Some object) sharding shard m h = absurd h

pub absence_judged : (o : Option Objects) (name : List ℕ) (sharding : Sharding) (shard m : ℕ) (r : Result (Option IndexSpan) JudgeFault) (span : Option IndexSpan) → r ≡ Ok span → span ≡ None → IfSome o (λ objects. Opens sharding m (map.get objects name) r)
    → IfSome o (λ objects. wrong_in (map.get objects name) sharding shard m ≡ None)
absence_judged None name sharding shard m r span is none h = tt
absence_judged (Some objects) name sharding shard m r span is none h = by_absence (map.get objects name) sharding shard m (subst (Opens sharding m (map.get objects name)) (is ∙ ap Ok none) h)

-- the rows are those of the index
wrong_by_rows : (object : List ℕ) (sharding : Sharding) (shard m at count : ℕ) → IsOpened sharding m object at count
    → wrong_in (Some object) sharding shard m ≡ first_wrong_row (columns_of (part object at (24 * count))) sharding shard m count
wrong_by_rows object sharding shard m at count is =
    ap (rows_wrong object sharding shard m) is.rows ∙ ap (λ xs. first_wrong_row (columns_of xs) sharding shard m count) (sym is.bytes)

by_rows : (found : Option (List ℕ)) (sharding : Sharding) (shard m : ℕ) (span : IndexSpan) (answer : Result ⊤ JudgeFault) → Opens sharding m found (Ok (Some span))
    → ((object : List ℕ) → found ≡ Some object → span.at + 24 * span.rows ≤ length object → Says (first_wrong_row (columns_of (part object span.at (24 * span.rows))) sharding shard m span.rows) answer)
    → Says (wrong_in found sharding shard m) answer
by_rows None sharding shard m span answer h says = absurd h
by_rows (Some object) sharding shard m span answer h says =
    subst (λ wrong. Says wrong answer) (sym (wrong_by_rows object sharding shard m span.at span.rows h)) (says object refl h.fits)

pub rows_judged : (o now : Option Objects) (name : List ℕ) (sharding : Sharding) (shard m : ℕ) (r : Result (Option IndexSpan) JudgeFault) (found : Option IndexSpan) (span : IndexSpan) (answer : Result ⊤ JudgeFault) → r ≡ Ok found → found ≡ Some span → now ≡ o
    → IfSome o (λ objects. Opens sharding m (map.get objects name) r)
    → OnIndex now name span.at span.rows (λ bytes. Says (first_wrong_row (columns_of bytes) sharding shard m span.rows) answer)
    → IfSome o (λ objects. Says (wrong_in (map.get objects name) sharding shard m) answer)
rows_judged None now name sharding shard m r found span answer is some same h says = tt
rows_judged (Some objects) now name sharding shard m r found span answer is some same h says =
    by_rows (map.get objects name) sharding shard m span answer (subst (Opens sharding m (map.get objects name)) (is ∙ ap Ok some) h)
    (subst (λ o. OnIndex o name span.at span.rows (λ bytes. Says (first_wrong_row (columns_of bytes) sharding shard m span.rows) answer)) same says)

-- judging an index asks for its entry,
entry_cost : (object : Option (List ℕ)) (sharding : Sharding) (m : ℕ) → 16 ≤ index_cost object sharding m
entry_cost None sharding m = omega arith
entry_cost (Some object) sharding m = omega arith

pub asked_entry : (o : Option Objects) (name : List ℕ) (sharding : Sharding) (m was now : ℕ) → now ≤ was + 16 → IfSome o (λ objects. now ≤ was + index_cost (map.get objects name) sharding m)
asked_entry o name sharding m was now h = in_told o _ (λ objects told. let least = entry_cost (map.get objects name) sharding m in omega (arith, h, least))

-- and for the rows to which the way leads
rows_paid : (object : Option (List ℕ)) (sharding : Sharding) (m : ℕ) (span : IndexSpan) → Opens sharding m object (Ok (Some span)) → index_cost object sharding m ≡ 16 + 24 * span.rows
rows_paid None sharding m span h = absurd h
rows_paid (Some object) sharding m span h = ap (λ rows. 16 + rows_cost rows) h.rows

pub asked_rows : (o : Option Objects) (name : List ℕ) (sharding : Sharding) (m : ℕ) (r : Result (Option IndexSpan) JudgeFault) (found : Option IndexSpan) (span : IndexSpan) (was opened now : ℕ) → r ≡ Ok found → found ≡ Some span
    → IfSome o (λ objects. Opens sharding m (map.get objects name) r) → opened ≤ was + 16 → now ≤ opened + 24 * span.rows → IfSome o (λ objects. now ≤ was + index_cost (map.get objects name) sharding m)
asked_rows o name sharding m r found span was opened now is some h entry rows =
    in_told o _ (λ objects told.
    let paid = rows_paid (map.get objects name) sharding m span (subst (Opens sharding m (map.get objects name)) (is ∙ ap Ok some) (from_told o _ objects told h)) in
    omega (arith, entry, rows, paid))

-- under the name of a shard, or for nothing
pub asked_named : (o : Option Objects) (name shard : List ℕ) (sharding : Sharding) (m was now : ℕ) → name ≡ shard → IfSome o (λ objects. now ≤ was + index_cost (map.get objects name) sharding m)
    → IfSome o (λ objects. now ≤ was + index_cost (map.get objects shard) sharding m)
asked_named o name shard sharding m was now is h = subst (λ n. IfSome o (λ objects. now ≤ was + index_cost (map.get objects n) sharding m)) is h

pub asked_nothing : (o : Option Objects) (name : List ℕ) (sharding : Sharding) (m was : ℕ) → IfSome o (λ objects. was ≤ was + index_cost (map.get objects name) sharding m)
asked_nothing o name sharding m was = in_told o _ (λ objects told. omega arith)
