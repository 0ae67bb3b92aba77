-- What a look-up asks for where the index of its id is the one that is kept.
use Rattle.std.proofs.Common.{◌≡◌, ℕ, ◌+◌, ◌-◌, ◌*◌, ◌<◌, ◌≤◌, length, Bool, true, false, Option, None, Some, IfOk, IfSome, Result, Ok, Err, arith, refl, ap, ◌∙◌, sym, subst}
use Rattle.std.specs.Prelude.{◌==◌, ◌&&◌, if◌then◌else◌}
use Rattle.std.specs.FinMap as map
use Rattle.std.proofs.lemmas.Bool.Decides.{nat_tests}
use Rattle.minishard.specs.Walks.{Progress}
use Rattle.vol_base.specs.Outside.{Objects, part}
use Rattle.vol_spec.specs.Rows.{columns_of}
use Rattle.vol_spec.specs.Types.{Bytes, Name}
use Rattle.vol_spec.specs.declared.sharding.Sharding.{Sharding}
use Rattle.shard_reader.specs.Keeping.{AgreesWith, IsKept, IsOf, KeepsIndex}
use Rattle.shard_reader.specs.Reading.{EndsAt, EndsIn, OnIndex, Opens, resumed}
use Rattle.shard_reader.specs.Readers.{EndsBy, EndsInside, left_by}
use Rattle.shard_reader.specs.declared.bytes.LookupFault.{LookupFault}
use Rattle.shard_reader.specs.declared.kept.KeptIndex.{KeptIndex}
use Rattle.shard_reader.specs.declared.opened.OpenedIndex.{OpenedIndex}
use Rattle.shard_reader.specs.declared.reader.ShardReader.{ShardReader}

-- an index that is kept was opened: the same one, with the same rows
pub record IsSame (new kept : Option KeptIndex) (v w : Progress) (n count : ℕ) : Type 0 where
  pub index : new ≡ kept
  pub before : v ≡ w
  pub rows : n ≡ count

pub same_reader : (new old : ShardReader) → new ≡ old → IsSame new.kept old.kept new.window.before old.window.before new.window.count old.window.count
same_reader new old e = record { index = ap (λ (r : ShardReader). r.kept) e; before = ap (λ (r : ShardReader). r.window.before) e; rows = ap (λ (r : ShardReader). r.window.count) e }

pub opened_of : (new : Option KeptIndex) (kept : KeptIndex) (shard m : ℕ) (opened : OpenedIndex) → new ≡ Some kept → IsKept new shard m opened → kept.opened ≡ opened
opened_of new kept shard m opened e is = let here : IsKept (Some kept) shard m opened = subst (λ x. IsKept x shard m opened) e is in here.2

-- a look-up that ends at a row that is kept is one in the index that is kept
is_of_ends : (kept : Option KeptIndex) (w : Progress) (count shard m id : ℕ) (object : Option Bytes) → EndsBy kept w count shard m id object → IsOf kept shard m
is_of_ends None w count shard m id object e = absurd e
is_of_ends (Some kept) w count shard m id None e = absurd e
is_of_ends (Some kept) w count shard m id (Some object) e = (e.same_shard, e.same_minishard)

inside_asks : (kept : KeptIndex) (w v : Progress) (count n shard m id : ℕ) (opened : OpenedIndex) (object : Bytes) (asks : Type 0) → kept.opened ≡ opened → v ≡ w → n ≡ count
    → kept.opened.index.at + 24 * kept.opened.index.rows ≤ length object
    → (opened.index.at + 24 * opened.index.rows ≤ length object → (r : ℕ) → EndsAt (columns_of (part object opened.index.at (24 * opened.index.rows))) id r → v.rows ≤ r → r < v.rows + n → asks)
    → EndsInside kept w count shard m id object → asks
inside_asks kept w v count n shard m id opened object asks eo ev en fits on e =
    let rows : v.rows ≡ w.rows = ap (λ (x : Progress). x.rows) ev in
    on (subst (λ (k : OpenedIndex). k.index.at + 24 * k.index.rows ≤ length object) eo fits) e.row
    (subst (λ (k : OpenedIndex). EndsAt (columns_of (part object k.index.at (24 * k.index.rows))) id e.row) eo e.ends)
    (omega (arith, rows, e.from)) (omega (arith, rows, en, e.to))

again_object : (found : Option Bytes) (sharding : Sharding) (kept : KeptIndex) (new : Option KeptIndex) (w v : Progress) (count n shard m id : ℕ) (columns : Bytes) (opened : OpenedIndex) (asks : Type 0)
    → (kept.shard ≡ shard → AgreesWith found sharding kept w count columns) → (IsOf (Some kept) shard m → IsSame new (Some kept) v w n count) → IsKept new shard m opened
    → ((object : Bytes) → found ≡ Some object → opened.index.at + 24 * opened.index.rows ≤ length object → (r : ℕ) → EndsAt (columns_of (part object opened.index.at (24 * opened.index.rows))) id r → v.rows ≤ r → r < v.rows + n → asks)
    → EndsBy (Some kept) w count shard m id found → asks
again_object None sharding kept new w v count n shard m id columns opened asks agrees same is on e = absurd e
again_object (Some object) sharding kept new w v count n shard m id columns opened asks agrees same is on e =
    let one = agrees e.same_shard in
    let two = same (e.same_shard, e.same_minishard) in
    inside_asks kept w v count n shard m id opened object asks (opened_of new kept shard m opened two.index is) two.before two.rows one.opened.fits (on object refl) e

-- where it ends at a row that is kept
pub again_located : (o : Option Objects) (names : ℕ → Name) (name : Name) (sharding : Sharding) (shard m id : ℕ) (kept new : Option KeptIndex) (w v : Progress) (count n : ℕ) (columns : Bytes) (opened : OpenedIndex) (asks : Type 0)
    → name ≡ names shard → KeepsIndex o names sharding kept w count columns → (IsOf kept shard m → IsSame new kept v w n count) → IsKept new shard m opened
    → OnIndex o name opened.index.at opened.index.rows (λ bytes. (r : ℕ) → EndsAt (columns_of bytes) id r → v.rows ≤ r → r < v.rows + n → asks)
    → IfSome o (λ objects. EndsBy kept w count shard m id (map.get objects (names shard)) → asks)
again_located None names name sharding shard m id kept new w v count n columns opened asks named keeps same is on = tt
again_located (Some objects) names name sharding shard m id None new w v count n columns opened asks named keeps same is on = λ e. absurd e
again_located (Some objects) names name sharding shard m id (Some kept) new w v count n columns opened asks named keeps same is on =
    again_object (map.get objects (names shard)) sharding kept new w v count n shard m id columns opened asks
    (λ e. subst (λ k. AgreesWith (map.get objects (names k)) sharding kept w count columns) e keeps) same is
    (λ object there. on object (ap (map.get objects) named ∙ there))

-- the same of an id's shard and minishard, where asking for nothing is told of two calls in turn
pub again_by : (o : Option Objects) (names : ℕ → Name) (shard s m k id : ℕ) (kept : Option KeptIndex) (w : Progress) (count before mid now : ℕ) → shard ≡ s → m ≡ k
    → (IsOf kept shard m → mid ≡ before) → IfSome o (λ objects. EndsBy kept w count shard m id (map.get objects (names shard)) → now ≡ mid)
    → IfSome o (λ objects. EndsBy kept w count s k id (map.get objects (names s)) → now ≡ before)
again_by None names shard s m k id kept w count before mid now es em same on = tt
again_by (Some objects) names shard s m k id kept w count before mid now es em same on = λ e.
    let here : EndsBy kept w count shard m id (map.get objects (names shard)) =
    subst (λ x. EndsBy kept w count x m id (map.get objects (names x))) (sym es) (subst (λ x. EndsBy kept w count s x id (map.get objects (names s))) (sym em) e) in
    on here ∙ same (is_of_ends kept w count shard m id (map.get objects (names shard)) here)

same_left : (a b c d : ℕ) → true ≡ ((a == b) && (c == d)) → a ≡ b
same_left a b c d h = grind (arith, nat_tests)

same_right : (a b c d : ℕ) → true ≡ ((a == b) && (c == d)) → c ≡ d
same_right a b c d h = grind (arith, nat_tests)

left_asked : (kept : KeptIndex) (w : Progress) (count shard m id before now : ℕ) → (IsOf (Some kept) shard m → now ≤ before + 24 * (kept.opened.index.rows - resumed w count kept.opened.index.rows id))
    → IfSome (left_by (Some kept) w count shard m id) (λ rows. now ≤ before + 24 * rows)
left_asked kept w count shard m id before now h = by_test ((kept.shard == shard) && (kept.minishard == m)) refl
  where
    by_test : (b : Bool) → b ≡ ((kept.shard == shard) && (kept.minishard == m)) → IfSome (if b then Some (kept.opened.index.rows - resumed w count kept.opened.index.rows id) else None) (λ rows. now ≤ before + 24 * rows)
    by_test true is = h (same_left kept.shard shard kept.minishard m is, same_right kept.shard shard kept.minishard m is)
    by_test false is = tt

left_le : (now mid before a b x y : ℕ) → mid ≡ before → a ≡ b → x ≡ y → now ≤ mid + 24 * (a - x) → now ≤ before + 24 * (b - y)
left_le now mid before a b x y em ea ex h = omega arith

-- the rows asked for where the index is the one that is kept
pub left_found : (kept new : Option KeptIndex) (w v : Progress) (count n shard m id before mid now : ℕ) (opened : OpenedIndex) → (IsOf kept shard m → IsSame new kept v w n count) → (IsOf kept shard m → mid ≡ before)
    → IsKept new shard m opened → now ≤ mid + 24 * (opened.index.rows - resumed v n opened.index.rows id) → IfSome (left_by kept w count shard m id) (λ rows. now ≤ before + 24 * rows)
left_found None new w v count n shard m id before mid now opened same asks is h = tt
left_found (Some kept) new w v count n shard m id before mid now opened same asks is h =
    left_asked kept w count shard m id before now (λ here.
    let e = same here in
    let eo : opened ≡ kept.opened = sym (opened_of new kept shard m opened e.index is) in
    let rows : opened.index.rows ≡ kept.opened.index.rows = ap (λ (k : OpenedIndex). k.index.rows) eo in
    let from : resumed v n opened.index.rows id ≡ resumed w count kept.opened.index.rows id =
    ap (λ x. resumed x n opened.index.rows id) e.before ∙ ap (λ x. resumed w x opened.index.rows id) e.rows ∙ ap (λ x. resumed w count x id) rows in
    left_le now mid before opened.index.rows kept.opened.index.rows (resumed v n opened.index.rows id) (resumed w count kept.opened.index.rows id) (asks here) rows from h)

pub left_by_along : (kept : Option KeptIndex) (w : Progress) (count shard s m k id before now : ℕ) → shard ≡ s → m ≡ k → IfSome (left_by kept w count shard m id) (λ rows. now ≤ before + 24 * rows)
    → IfSome (left_by kept w count s k id) (λ rows. now ≤ before + 24 * rows)
left_by_along kept w count shard s m k id before now es em h =
    subst (λ x. IfSome (left_by kept w count s x id) (λ rows. now ≤ before + 24 * rows)) em (subst (λ x. IfSome (left_by kept w count x m id) (λ rows. now ≤ before + 24 * rows)) es h)

-- a look-up ends at one of the rows that are kept behind it
ends_object : (found : Option Bytes) (sharding : Sharding) (kept : KeptIndex) (w : Progress) (count m s k id : ℕ) (opened : OpenedIndex) → kept.shard ≡ s → kept.minishard ≡ k → kept.opened ≡ opened
    → Opens sharding m found (Ok (Some opened))
    → ((object : Bytes) → found ≡ Some object → opened.index.at + 24 * opened.index.rows ≤ length object → EndsIn (columns_of (part object opened.index.at (24 * opened.index.rows))) id w.rows count)
    → EndsBy (Some kept) w count s k id found
ends_object None sharding kept w count m s k id opened es em eo h there = absurd h
ends_object (Some object) sharding kept w count m s k id opened es em eo h there =
    let inside = there object refl h.fits in
    record {
      row = inside.row;
      same_shard = es;
      same_minishard = em;
      from = inside.from;
      to = inside.to;
      ends = subst (λ (x : OpenedIndex). EndsAt (columns_of (part object x.index.at (24 * x.index.rows))) id inside.row) (sym eo) inside.ends;
    }

ends_told : (objects : Objects) (names : ℕ → Name) (name : Name) (sharding : Sharding) (kept : Option KeptIndex) (w : Progress) (count shard s m k id : ℕ) (opened : OpenedIndex) → name ≡ names shard → shard ≡ s → m ≡ k
    → IsKept kept shard m opened → Opens sharding m (map.get objects name) (Ok (Some opened))
    → OnIndex (Some objects) name opened.index.at opened.index.rows (λ bytes. EndsIn (columns_of bytes) id w.rows count) → EndsBy kept w count s k id (map.get objects (names s))
ends_told objects names name sharding None w count shard s m k id opened named es em is h there = absurd is
ends_told objects names name sharding (Some kept) w count shard s m k id opened named es em is h there =
    subst (λ n. EndsBy (Some kept) w count s k id (map.get objects n)) (named ∙ ap names es)
    (ends_object (map.get objects name) sharding kept w count m s k id opened (is.0 ∙ es) (is.1 ∙ em) is.2 h there)

span_on : {A : Type 0} (r : Result (Option A) LookupFault) (P Q : Type 0) → (P → Q) → IfOk r (λ a. IfSome a (λ _. P)) → IfOk r (λ a. IfSome a (λ _. Q))
span_on (Ok (Some a)) P Q f h = f h
span_on (Ok None) P Q f h = tt
span_on (Err fault) P Q f h = tt

pub ends_kept : {A : Type 0} (now o : Option Objects) (names : ℕ → Name) (name : Name) (sharding : Sharding) (kept : Option KeptIndex) (w : Progress) (count shard s m k id : ℕ) (r : Result (Option OpenedIndex) LookupFault) (opened : OpenedIndex) (answer : Result (Option A) LookupFault)
    → now ≡ o → r ≡ Ok (Some opened) → name ≡ names shard → shard ≡ s → m ≡ k → IsKept kept shard m opened → IfSome o (λ objects. Opens sharding m (map.get objects name) r)
    → IfOk answer (λ a. IfSome a (λ _. OnIndex now name opened.index.at opened.index.rows (λ bytes. EndsIn (columns_of bytes) id w.rows count)))
    → IfSome o (λ objects. IfOk answer (λ a. IfSome a (λ _. EndsBy kept w count s k id (map.get objects (names s)))))
ends_kept now None names name sharding kept w count shard s m k id r opened answer same e named es em is h there = tt
ends_kept now (Some objects) names name sharding kept w count shard s m k id r opened answer same e named es em is h there =
    let opens = subst (λ x. Opens sharding m (map.get objects name) x) e h in
    span_on answer (OnIndex now name opened.index.at opened.index.rows (λ bytes. EndsIn (columns_of bytes) id w.rows count)) (EndsBy kept w count s k id (map.get objects (names s)))
    (λ on. ends_told objects names name sharding kept w count shard s m k id opened named es em is opens
    (subst (λ x. OnIndex x name opened.index.at opened.index.rows (λ bytes. EndsIn (columns_of bytes) id w.rows count)) same on)) there
