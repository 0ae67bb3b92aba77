-- What look-ups ask for in turn: the rows that a reader is past aren't asked for again.
use Rattle.std.proofs.Common.{◌≡◌, ℕ, ◌+◌, ◌-◌, ◌*◌, ◌<◌, ◌≤◌, Bool, true, false, Option, None, Some, IfSome, Result, Ok, Err, OnOk, arith, refl, ap, ◌∙◌, sym, subst}
use Rattle.std.specs.Prelude.{◌==◌, ◌&&◌, if◌then◌else◌}
use Rattle.std.specs.FinMap as map
use Rattle.std.proofs.lemmas.Bool.Decides.{nat_tests}
use Rattle.minishard.specs.Walks.{Progress}
use Rattle.vol_base.specs.Outside.{Objects}
use Rattle.vol_spec.specs.Costs.{rows_cost}
use Rattle.vol_spec.specs.Places.{minishard_of, shard_of}
use Rattle.vol_spec.specs.Types.{Bytes, Name}
use Rattle.vol_spec.specs.declared.sharding.Sharding.{Sharding}
use Rattle.vol_spec.specs.declared.span.ChunkSpan.{ChunkSpan}
use Rattle.vol_spec.proofs.Told.{from_told, in_told}
use Rattle.shard_reader.specs.Keeping.{IsKept, IsOf}
use Rattle.shard_reader.specs.Reading.{cost_of, OnIndex, Opens, resumed, resumes, told_object}
use Rattle.shard_reader.specs.Readers.{AsksOnce, IsBehind, past_by, rows_past}
use Rattle.shard_reader.specs.declared.bytes.LookupFault.{LookupFault}
use Rattle.shard_reader.specs.declared.kept.KeptIndex.{KeptIndex}
use Rattle.shard_reader.specs.declared.opened.OpenedIndex.{OpenedIndex}
use Rattle.shard_reader.specs.declared.reader.ShardReader.{ShardReader}
use Rattle.shard_reader.proofs.AgainSteps.{IsSame, opened_of}

both_left : (a b c d : ℕ) → true ≡ ((a == b) && (c == d)) → a ≡ b
both_left a b c d h = grind (arith, nat_tests)

both_right : (a b c d : ℕ) → true ≡ ((a == b) && (c == d)) → c ≡ d
both_right a b c d h = grind (arith, nat_tests)

both_hold : (a b c d : ℕ) → a ≡ b → c ≡ d → false ≡ ((a == b) && (c == d)) → ⊥
both_hold a b c d e f h = grind (arith, nat_tests)

past_none : (kept : Option KeptIndex) (w : Progress) (count shard m id : ℕ) → (IsOf kept shard m → ⊥) → past_by kept w count shard m id ≡ 0
past_none None w count shard m id away = refl
past_none (Some kept) w count shard m id away = by_test ((kept.shard == shard) && (kept.minishard == m)) refl
  where
    by_test : (b : Bool) → b ≡ ((kept.shard == shard) && (kept.minishard == m)) → (if b then resumed w count kept.opened.index.rows id else 0) ≡ 0
    by_test true is = absurd (away (both_left kept.shard shard kept.minishard m is, both_right kept.shard shard kept.minishard m is))
    by_test false is = refl

past_new : (new : Option KeptIndex) (w : Progress) (count shard m id : ℕ) (opened : OpenedIndex) → IsKept new shard m opened → past_by new w count shard m id ≡ resumed w count opened.index.rows id
past_new None w count shard m id opened is = absurd is
past_new (Some kept) w count shard m id opened is = by_test ((kept.shard == shard) && (kept.minishard == m)) refl
  where
    by_test : (b : Bool) → b ≡ ((kept.shard == shard) && (kept.minishard == m)) → (if b then resumed w count kept.opened.index.rows id else 0) ≡ resumed w count opened.index.rows id
    by_test true e = ap (λ (k : OpenedIndex). resumed w count k.index.rows id) is.2
    by_test false e = absurd (both_hold kept.shard shard kept.minishard m is.0 is.1 e)

past_along : (kept : Option KeptIndex) (w : Progress) (count shard s m k id : ℕ) → shard ≡ s → m ≡ k → past_by kept w count s k id ≡ past_by kept w count shard m id
past_along kept w count shard s m k id es em = sym (ap (λ x. past_by kept w count x m id) es ∙ ap (λ x. past_by kept w count s x id) em)

pub resumed_most : (w : Progress) (count rows id : ℕ) → resumed w count rows id ≤ rows
resumed_most w count rows id = most w.rows w.id count rows id
  where
    most : (r i count rows id : ℕ) → resumed (record { rows = r; id = i; end = 0 }) count rows id ≤ rows
    most r i count rows id = grind (arith, nat_tests)

resumed_on : (w : Progress) (count rows id next : ℕ) → w.rows + count ≤ rows → resumes w id ≡ true → id < next → resumed w count rows next ≡ w.rows + count
resumed_on w count rows id next within goes above = all w.rows w.id count rows id next within goes above
  where
    all : (r i count rows id next : ℕ) → r + count ≤ rows → resumes (record { rows = r; id = i; end = 0 }) id ≡ true → id < next → resumed (record { rows = r; id = i; end = 0 }) count rows next ≡ r + count
    all r i count rows id next within goes above = grind (arith, nat_tests)

-- a reader that keeps nothing behind a call was past no row of the index
not_of : (new old : ShardReader) (shard m : ℕ) → (IsOf old.kept shard m → new ≡ old) → new.kept ≡ None → IsOf old.kept shard m → ⊥
not_of new old shard m same none of =
    let gone : old.kept ≡ None = ap (λ (r : ShardReader). r.kept) (sym (same of)) ∙ none in
    let nowhere : IsOf None shard m = subst (λ x. IsOf x shard m) gone of in
    nowhere

pub nothing_past : (new old : ShardReader) (sharding : Sharding) (shard m id : ℕ) → shard ≡ shard_of sharding id → m ≡ minishard_of sharding id → (IsOf old.kept shard m → new ≡ old) → new.kept ≡ None → rows_past old sharding id ≡ 0
nothing_past new old sharding shard m id es em same none =
    past_along old.kept old.window.before old.window.count shard (shard_of sharding id) m (minishard_of sharding id) id es em
    ∙ past_none old.kept old.window.before old.window.count shard m id (not_of new old shard m same none)

-- what is asked for in the index that was opened, less the rows that were kept of it
past_found : (kept new : Option KeptIndex) (w v : Progress) (count n shard m id before mid now more : ℕ) (opened : OpenedIndex) → (IsOf kept shard m → IsSame new kept v w n count) → (IsOf kept shard m → mid ≡ before)
    → mid ≤ before + 16 → IsKept new shard m opened → now + 24 * resumed v n opened.index.rows id ≤ mid + more → now + 24 * past_by kept w count shard m id ≤ before + 16 + more
past_found None new w v count n shard m id before mid now more opened same asks few is h = omega (arith, few, h)
past_found (Some kept) new w v count n shard m id before mid now more opened same asks few is h = by_test ((kept.shard == shard) && (kept.minishard == m)) refl
  where
    along : (a b : ℕ) → a ≡ b → now + 24 * a ≤ mid + more → mid ≡ before → now + 24 * b ≤ before + 16 + more
    along a b e g em = omega arith

    by_test : (b : Bool) → b ≡ ((kept.shard == shard) && (kept.minishard == m)) → now + 24 * (if b then resumed w count kept.opened.index.rows id else 0) ≤ before + 16 + more
    by_test true is_it =
        let here : IsOf (Some kept) shard m = (both_left kept.shard shard kept.minishard m is_it, both_right kept.shard shard kept.minishard m is_it) in
        let e = same here in
        let eo : opened ≡ kept.opened = sym (opened_of new kept shard m opened e.index is) in
        let rows : opened.index.rows ≡ kept.opened.index.rows = ap (λ (k : OpenedIndex). k.index.rows) eo in
        let from : resumed v n opened.index.rows id ≡ resumed w count kept.opened.index.rows id =
        ap (λ x. resumed x n opened.index.rows id) e.before ∙ ap (λ x. resumed w x opened.index.rows id) e.rows ∙ ap (λ x. resumed w count x id) rows in
        along (resumed v n opened.index.rows id) (resumed w count kept.opened.index.rows id) from h (asks here)
    by_test false is_it = omega (arith, few, h)

pub past_asked : (old : ShardReader) (new : Option KeptIndex) (v : Progress) (sharding : Sharding) (n shard m id before mid now more : ℕ) (opened : OpenedIndex) → shard ≡ shard_of sharding id → m ≡ minishard_of sharding id
    → (IsOf old.kept shard m → IsSame new old.kept v old.window.before n old.window.count) → (IsOf old.kept shard m → mid ≡ before)
    → mid ≤ before + 16 → IsKept new shard m opened → now + 24 * resumed v n opened.index.rows id ≤ mid + more → now + 24 * rows_past old sharding id ≤ before + 16 + more
past_asked old new v sharding n shard m id before mid now more opened es em same asks few is h =
    let along = past_along old.kept old.window.before old.window.count shard (shard_of sharding id) m (minishard_of sharding id) id es em in
    let found = past_found old.kept new old.window.before v old.window.count n shard m id before mid now more opened same asks few is h in
    subst (λ k. now + 24 * k ≤ before + 16 + more) (sym along) found

-- the entry of an object, and the rows of an index that was opened, are what it costs
pub cost_least : (found : Option Bytes) (sharding : Sharding) (id : ℕ) → 16 ≤ cost_of found sharding id
cost_least None sharding id = omega arith
cost_least (Some object) sharding id = omega arith

cost_opened : (found : Option Bytes) (sharding : Sharding) (id : ℕ) (opened : OpenedIndex) → Opens sharding (minishard_of sharding id) found (Ok (Some opened)) → cost_of found sharding id ≡ 16 + 24 * opened.index.rows
cost_opened None sharding id opened h = absurd h
cost_opened (Some object) sharding id opened h = ap (λ r. 16 + rows_cost r) h.rows

opens_here : (o : Option Objects) (names : ℕ → Name) (name : Name) (sharding : Sharding) (shard m id : ℕ) (r : Result (Option OpenedIndex) LookupFault) (opened : OpenedIndex) (objects : Objects) → o ≡ Some objects → r ≡ Ok (Some opened)
    → name ≡ names shard → shard ≡ shard_of sharding id → m ≡ minishard_of sharding id → IfSome o (λ objects. Opens sharding m (map.get objects name) r) → Opens sharding (minishard_of sharding id) (map.get objects (names (shard_of sharding id))) (Ok (Some opened))
opens_here o names name sharding shard m id r opened objects told e named es em h =
    let one = from_told o _ objects told h in
    let two = subst (λ x. Opens sharding m (map.get objects name) x) e one in
    let three = subst (λ k. Opens sharding k (map.get objects name) (Ok (Some opened))) em two in
    subst (λ k. Opens sharding (minishard_of sharding id) (map.get objects k) (Ok (Some opened))) (named ∙ ap names es) three

-- the bytes of a look-up, less the rows that the reader was past: of one that opened no index,
pub once_unopened : (o : Option Objects) (names : ℕ → Name) (old new : ShardReader) (sharding : Sharding) (shard m id before now : ℕ) → shard ≡ shard_of sharding id → m ≡ minishard_of sharding id
    → (IsOf old.kept shard m → new ≡ old) → new.kept ≡ None → now ≤ before + 16
    → IfSome o (λ objects. now + 24 * rows_past old sharding id ≤ before + cost_of (map.get objects (names (shard_of sharding id))) sharding id)
once_unopened o names old new sharding shard m id before now es em same none few =
    in_told o _ (λ objects told.
    let nothing = nothing_past new old sharding shard m id es em same none in
    let least = cost_least (map.get objects (names (shard_of sharding id))) sharding id in
    omega (arith, nothing, least, few))

-- and of one that did
pub once_opened : (o : Option Objects) (names : ℕ → Name) (name : Name) (old : ShardReader) (new : Option KeptIndex) (v : Progress) (sharding : Sharding) (n shard m id before mid now : ℕ) (r : Result (Option OpenedIndex) LookupFault) (opened : OpenedIndex)
    → r ≡ Ok (Some opened) → name ≡ names shard → shard ≡ shard_of sharding id → m ≡ minishard_of sharding id
    → (IsOf old.kept shard m → IsSame new old.kept v old.window.before n old.window.count) → (IsOf old.kept shard m → mid ≡ before)
    → mid ≤ before + 16 → IsKept new shard m opened → IfSome o (λ objects. Opens sharding m (map.get objects name) r) → now ≤ mid + 24 * (opened.index.rows - resumed v n opened.index.rows id)
    → IfSome o (λ objects. now + 24 * rows_past old sharding id ≤ before + cost_of (map.get objects (names (shard_of sharding id))) sharding id)
once_opened o names name old new v sharding n shard m id before mid now r opened e named es em same asks few is h asked =
    in_told o _ (λ objects told.
    let most = resumed_most v n opened.index.rows id in
    let rest : now + 24 * resumed v n opened.index.rows id ≤ mid + 24 * opened.index.rows = omega (arith, most, asked) in
    let cost = cost_opened (map.get objects (names (shard_of sharding id))) sharding id opened (opens_here o names name sharding shard m id r opened objects told e named es em h) in
    let less = past_asked old new v sharding n shard m id before mid now (24 * opened.index.rows) opened es em same asks few is rest in
    omega (arith, cost, less))

on_ok : {A E : Type 0} (r : Result A E) (P Q : Type 0) → OnOk r P → (P → Q) → OnOk r Q
on_ok (Ok x) P Q h f = f h
on_ok (Err fault) P Q h f = tt

-- where no index was opened nothing is kept for an id behind
pub onward_unopened : (o : Option Objects) (old new : ShardReader) (r : Result (Option ChunkSpan) LookupFault) (sharding : Sharding) (shard m id before now : ℕ) → shard ≡ shard_of sharding id → m ≡ minishard_of sharding id
    → (IsOf old.kept shard m → new ≡ old) → new.kept ≡ None → now ≤ before + 16 → IfSome o (λ _. OnOk r (AsksOnce sharding id old new before now 16))
onward_unopened o old new r sharding shard m id before now es em same none few =
    in_told o _ (λ objects told. all r (λ next behind.
    let nothing = nothing_past new old sharding shard m id es em same none in
    omega (arith, nothing, few)))
  where
    all : {P : Type 0} (r : Result (Option ChunkSpan) LookupFault) → P → OnOk r P
    all (Ok x) p = p
    all (Err fault) p = tt

-- where one was, an id behind goes on behind the window
next_past : (o : Option Objects) (names : ℕ → Name) (name : Name) (kept : Option KeptIndex) (w : Progress) (sharding : Sharding) (count shard m id next : ℕ) (opened : OpenedIndex) (objects : Objects) → o ≡ Some objects
    → name ≡ names shard → shard ≡ shard_of sharding id → m ≡ minishard_of sharding id → IsKept kept shard m opened
    → Opens sharding (minishard_of sharding id) (map.get objects (names (shard_of sharding id))) (Ok (Some opened)) → w.rows + count ≤ opened.index.rows
    → OnIndex o name opened.index.at opened.index.rows (λ _. resumes w id ≡ true) → IsBehind sharding id next
    → past_by kept w count (shard_of sharding next) (minishard_of sharding next) next ≡ w.rows + count
next_past o names name kept w sharding count shard m id next opened objects told named es em is opens within goes behind =
    let place : past_by kept w count (shard_of sharding next) (minishard_of sharding next) next ≡ past_by kept w count shard m next =
    past_along kept w count shard (shard_of sharding next) m (minishard_of sharding next) next (es ∙ sym behind.same_shard) (em ∙ sym behind.same_minishard) in
    place ∙ past_new kept w count shard m next opened is ∙ on_object (map.get objects (names (shard_of sharding id))) refl opens
  where
    here : (object : Bytes) → map.get objects (names (shard_of sharding id)) ≡ Some object → told_object o name ≡ Some object
    here object is_there = ap (λ x. told_object x name) told ∙ ap (map.get objects) (named ∙ ap names es) ∙ is_there

    on_object : (found : Option Bytes) → map.get objects (names (shard_of sharding id)) ≡ found → Opens sharding (minishard_of sharding id) found (Ok (Some opened)) → resumed w count opened.index.rows next ≡ w.rows + count
    on_object None is_there h = absurd h
    on_object (Some object) is_there h = resumed_on w count opened.index.rows id next within (goes object (here object is_there) h.fits) behind.above

pub onward_opened : (o same_o : Option Objects) (names : ℕ → Name) (name : Name) (old now_reader : ShardReader) (new : Option KeptIndex) (v : Progress) (sharding : Sharding) (n shard m id before mid now : ℕ) (r : Result (Option OpenedIndex) LookupFault) (opened : OpenedIndex) (answer : Result (Option ChunkSpan) LookupFault)
    → same_o ≡ o → now_reader.kept ≡ new → r ≡ Ok (Some opened) → name ≡ names shard → shard ≡ shard_of sharding id → m ≡ minishard_of sharding id
    → (IsOf old.kept shard m → IsSame new old.kept v old.window.before n old.window.count) → (IsOf old.kept shard m → mid ≡ before)
    → mid ≤ before + 16 → IsKept new shard m opened → IfSome o (λ objects. Opens sharding m (map.get objects name) r)
    → now_reader.window.before.rows + now_reader.window.count ≤ opened.index.rows
    → OnIndex same_o name opened.index.at opened.index.rows (λ _. resumes now_reader.window.before id ≡ true)
    → OnOk answer (now + 24 * resumed v n opened.index.rows id ≤ mid + 24 * (now_reader.window.before.rows + now_reader.window.count))
    → IfSome o (λ _. OnOk answer (AsksOnce sharding id old now_reader before now 16))
onward_opened o same_o names name old now_reader new v sharding n shard m id before mid now r opened answer eo ek e named es em same asks few is h within goes once =
    in_told o _ (λ objects told. on_ok answer _ _ once (λ asked next behind.
    let opens = opens_here o names name sharding shard m id r opened objects told e named es em h in
    let past : rows_past now_reader sharding next ≡ now_reader.window.before.rows + now_reader.window.count =
    next_past same_o names name now_reader.kept now_reader.window.before sharding now_reader.window.count shard m id next opened objects (eo ∙ told) named es em (subst (λ k. IsKept k shard m opened) (sym ek) is) opens within goes behind in
    let less = past_asked old new v sharding n shard m id before mid now (24 * (now_reader.window.before.rows + now_reader.window.count)) opened es em same asks few is asked in
    omega (arith, past, less)))
