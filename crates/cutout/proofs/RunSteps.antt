-- What reading cells one after the other asks for, one cell on.
use Rattle.std.proofs.Common.{◌≡◌, ◌≤◌, ◌<◌, ◌+◌, ◌*◌, ℕ, List, [], ◌∷◌, ◌++◌, map, Bool, true, false, nat_lt, Option, Some, None, IfSome, Result, Ok, Err, OnOk, arith, refl, ap, ◌∙◌, sym, subst, append_assoc, append-nil}
use Rattle.std.specs.Prelude.{is_ok, if◌then◌else◌, ◌==◌, ◌&&◌}
use Rattle.std.specs.FinMap as fin
use Rattle.std.proofs.lemmas.List.Sums.{sum_by-cons}
use Rattle.std.proofs.lemmas.Bool.Decides.{nat_tests}
use Rattle.vol_base.specs.declared.boxes.Box3.{Box3}
use Rattle.vol_base.specs.Outside.{Objects}
use Rattle.vol_spec.specs.Costs.{cost, cost_by, rows_cost, span_cost}
use Rattle.vol_spec.specs.Encodings.{cell_limit}
use Rattle.vol_spec.specs.FoundChunks.{rows_in}
use Rattle.vol_spec.specs.Grid.{cells_in}
use Rattle.vol_spec.specs.Places.{id_of, minishard_of, shard_of}
use Rattle.vol_spec.specs.ShardNames.{shard_name}
use Rattle.vol_spec.specs.StoredBytes.{object_by}
use Rattle.vol_spec.specs.Types.{Bytes, Cell, Name}
use Rattle.vol_spec.specs.declared.scale.Scale.{Scale}
use Rattle.vol_spec.specs.declared.sharding.Sharding.{Sharding}
use Rattle.shard_reader.specs.Readers.{AsksOnce, IsBehind, rows_past}
use Rattle.shard_reader.specs.Reading.{chunk_cost, found_of}
use Rattle.shard_reader.specs.declared.reader.ShardReader.{ShardReader}
use Rattle.cutout.proofs.CostSteps.{cost-is, costs, costs-one}
use Rattle.cutout.specs.Keeping.{cell_cost}
use Rattle.cutout.specs.Opened.{chunk_room}
use Rattle.cutout.specs.Runs.{follows, follows_by, HasRun, index_by, index_cost, is_behind, last_from, own_by, own_cost, past, past_of, rows_on, run_cost, run_from, RunsOn}

last-one : (last : Option Cell) (cells : List Cell) (cell : Cell) → last_from last (cells ++ cell ∷ []) ≡ Some cell
last-one last [] cell = refl
last-one last (first ∷ rest) cell = last-one (Some first) rest cell

run-one : (m : Objects) (dataset : Name) (s : Scale) (last : Option Cell) (cells : List Cell) (cell : Cell)
    → run_from m dataset s last (cells ++ cell ∷ []) ≡ run_from m dataset s last cells + (own_cost m dataset s cell + (if follows s (last_from last cells) cell then 0 else index_cost m dataset s cell))
run-one m dataset s last [] cell = omega arith
run-one m dataset s last (first ∷ rest) cell = let h = run-one m dataset s (Some first) rest cell in omega (arith, h)

pub run-front : (m : Objects) (dataset : Name) (s : Scale) (last : Option Cell) (cells more : List Cell) → run_from m dataset s last cells ≤ run_from m dataset s last (cells ++ more)
run-front m dataset s last [] more = omega arith
run-front m dataset s last (first ∷ rest) more = let h = run-front m dataset s (Some first) rest more in omega (arith, h)

-- a cell costs its own, and its index
parts : (o : Option Sharding) (s : Scale) (cell : Cell) (object : Option Bytes) → cost_by o s cell object ≡ own_by o s cell object + index_by o s cell object
parts None s cell object = omega arith
parts (Some sharding) s cell None = refl
parts (Some sharding) s cell (Some object) = omega arith

cost-parts : (m : Objects) (dataset : Name) (s : Scale) (cell : Cell) → cell_cost m dataset s cell ≡ own_cost m dataset s cell + index_cost m dataset s cell
cost-parts m dataset s cell = parts s.sharding s cell (fin.get m (object_by s.sharding dataset s cell))

-- a cell behind another one in one index
shard_is : (a b c d e f : ℕ) → ((a == b) && ((c == d) && nat_lt e f)) ≡ true → a ≡ b
shard_is a b c d e f h = grind (arith, nat_tests)

minishard_is : (a b c d e f : ℕ) → ((a == b) && ((c == d) && nat_lt e f)) ≡ true → c ≡ d
minishard_is a b c d e f h = grind (arith, nat_tests)

above_is : (a b c d e f : ℕ) → ((a == b) && ((c == d) && nat_lt e f)) ≡ true → e < f
above_is a b c d e f h = grind (arith, nat_tests)

behind_is : (sharding : Sharding) (id next : ℕ) → is_behind sharding id next ≡ true → IsBehind sharding id next
behind_is sharding id next h = record {
  same_shard = shard_is (shard_of sharding next) (shard_of sharding id) (minishard_of sharding next) (minishard_of sharding id) id next h;
  same_minishard = minishard_is (shard_of sharding next) (shard_of sharding id) (minishard_of sharding next) (minishard_of sharding id) id next h;
  above = above_is (shard_of sharding next) (shard_of sharding id) (minishard_of sharding next) (minishard_of sharding id) id next h;
}

rows_along : (sharding : Sharding) (a b : ℕ) (object : Option Bytes) → minishard_of sharding a ≡ minishard_of sharding b → rows_on sharding a object ≡ rows_on sharding b object
rows_along sharding a b None e = refl
rows_along sharding a b (Some object) e = ap (λ k. rows_cost (rows_in object sharding k)) e

index_follows : (o : Option Sharding) (m : Objects) (dataset : Name) (s : Scale) (cell next : Cell) → follows_by o s cell next ≡ true
    → index_by o s next (fin.get m (object_by o dataset s next)) ≡ index_by o s cell (fin.get m (object_by o dataset s cell))
index_follows None m dataset s cell next h = absurd (cc h)
index_follows (Some sharding) m dataset s cell next h =
    let behind = behind_is sharding (id_of s cell) (id_of s next) h in
    ap (λ k. rows_on sharding (id_of s next) (fin.get m (shard_name dataset s k))) behind.same_shard
    ∙ rows_along sharding (id_of s next) (id_of s cell) (fin.get m (shard_name dataset s (shard_of sharding (id_of s cell)))) behind.same_minishard

-- one cell more
more_on : (before after own index past_old past_new begin run run_more : ℕ) → before + index ≤ begin + run + 24 * past_old → run_more ≡ run + (own + 0) → after + 24 * past_old ≤ before + own + 24 * past_new
    → after + index ≤ begin + run_more + 24 * past_new
more_on before after own index past_old past_new begin run run_more h e more = omega arith

more_anew : (before after own index past_old past_new begin run run_more : ℕ) → before ≤ begin + run → run_more ≡ run + (own + index) → after + 24 * past_old ≤ before + own + 24 * past_new
    → after + index ≤ begin + run_more + 24 * past_new
more_anew before after own index past_old past_new begin run run_more h e more = omega arith

total_on : (before after own index past_old begin run run_more : ℕ) → before + index ≤ begin + run + 24 * past_old → run_more ≡ run + (own + 0) → after + 24 * past_old ≤ before + (own + index) → after ≤ begin + run_more
total_on before after own index past_old begin run run_more h e more = omega arith

total_anew : (before after own index past_old begin run run_more : ℕ) → before ≤ begin + run → run_more ≡ run + (own + index) → after + 24 * past_old ≤ before + (own + index) → after ≤ begin + run_more
total_anew before after own index past_old begin run run_more h e more = omega arith

abbrev Onward : Objects → Name → Scale → Cell → ℕ → ℕ → ShardReader → ShardReader → Type 0
Onward m dataset s cell before after old new = (next : Cell) → follows s (Some cell) next ≡ true → after + 24 * past s old cell ≤ before + own_cost m dataset s cell + 24 * past s new next

if_ok : {A E : Type 0} (r : Result A E) (P : Type 0) → OnOk r P → is_ok r ≡ true → P
if_ok (Ok x) P h e = h
if_ok (Err fault) P h e = absurd (cc e)

run_more : (whole : Bool) (m : Objects) (dataset : Name) (s : Scale) (cell : Cell) (before after : ℕ) (old new : ShardReader) → after + 24 * past s old cell ≤ before + cell_cost m dataset s cell
    → (whole ≡ true → Onward m dataset s cell before after old new) → RunsOn whole m dataset s (cell ∷ []) before after old new
run_more whole m dataset s cell before after old new once onward done begin has = by (follows s (last_from None done) cell) refl
  where
    own : ℕ
    own = own_cost m dataset s cell

    index : ℕ
    index = index_cost m dataset s cell

    all : after + 24 * past s old cell ≤ before + (own + index)
    all = let e = cost-parts m dataset s cell in omega (arith, once, e)

    next_index : (next : Cell) → follows s (Some cell) next ≡ true → index_cost m dataset s next ≡ index
    next_index next f = index_follows s.sharding m dataset s cell next f

    behind : (next : Cell) → follows s (last_from None (done ++ cell ∷ [])) next ≡ true → follows s (Some cell) next ≡ true
    behind next f = ap (λ o. follows s o next) (sym (last-one None done cell)) ∙ f

    both : after ≤ begin + run_cost m dataset s (done ++ cell ∷ [])
        → (whole ≡ true → (next : Cell) → follows s (Some cell) next ≡ true → after + index ≤ begin + run_cost m dataset s (done ++ cell ∷ []) + 24 * past s new next)
        → (after ≤ begin + run_cost m dataset s (done ++ cell ∷ [])) × (whole ≡ true → HasRun m dataset s (done ++ cell ∷ []) begin after new)
    both total more = (
      total,
      λ went. record {
        total = total;
        onward = λ next f.
            let g = behind next f in
            subst (λ k. after + k ≤ begin + run_cost m dataset s (done ++ cell ∷ []) + 24 * past s new next) (sym (next_index next g)) (more went next g);
      },
    )

    by : (b : Bool) → b ≡ follows s (last_from None done) cell → (after ≤ begin + run_cost m dataset s (done ++ cell ∷ [])) × (whole ≡ true → HasRun m dataset s (done ++ cell ∷ []) begin after new)
    by true is =
        let sum : run_cost m dataset s (done ++ cell ∷ []) ≡ run_cost m dataset s done + (own + 0) = run-one m dataset s None done cell ∙ ap (λ b. run_cost m dataset s done + (own + (if b then 0 else index))) (sym is) in
        let had = has.onward cell (sym is) in
        let total = total_on before after own index (past s old cell) begin (run_cost m dataset s done) (run_cost m dataset s (done ++ cell ∷ [])) had sum all in
        both total (λ went next f. more_on before after own index (past s old cell) (past s new next) begin (run_cost m dataset s done) (run_cost m dataset s (done ++ cell ∷ [])) had sum (onward went next f))
    by false is =
        let sum : run_cost m dataset s (done ++ cell ∷ []) ≡ run_cost m dataset s done + (own + index) = run-one m dataset s None done cell ∙ ap (λ b. run_cost m dataset s done + (own + (if b then 0 else index))) (sym is) in
        let total = total_anew before after own index (past s old cell) begin (run_cost m dataset s done) (run_cost m dataset s (done ++ cell ∷ [])) has.total sum all in
        both total (λ went next f. more_anew before after own index (past s old cell) (past s new next) begin (run_cost m dataset s done) (run_cost m dataset s (done ++ cell ∷ [])) has.total sum (onward went next f))

-- a chunk that was read out of a shard,
run_sharded : {A E : Type 0} (r : Result A E) (m : Objects) (dataset : Name) (s : Scale) (cell : Cell) (sharding : Sharding) (limit id before after : ℕ) (old new : ShardReader)
    → s.sharding ≡ Some sharding → limit ≡ cell_limit s cell → id ≡ id_of s cell
    → after + 24 * rows_past old sharding id ≤ before + chunk_cost (fin.get m (shard_name dataset s (shard_of sharding id))) sharding limit id
    → OnOk r (AsksOnce sharding id old new before after (16 + span_cost (found_of (fin.get m (shard_name dataset s (shard_of sharding id))) sharding limit id)))
    → RunsOn (is_ok r) m dataset s (cell ∷ []) before after old new
run_sharded r m dataset s cell sharding limit id before after old new e is_limit is_id once onward =
    run_more (is_ok r) m dataset s cell before after old new
    (let past_is : past s old cell ≡ rows_past old sharding id = ap (λ o. past_of o s old cell) e ∙ ap (rows_past old sharding) (sym is_id) in
    let cost_is : cell_cost m dataset s cell ≡ chunk_cost (fin.get m (shard_name dataset s (shard_of sharding id))) sharding limit id =
    ap (λ o. cost_by o s cell (fin.get m (object_by o dataset s cell))) e ∙ by_shard (fin.get m (shard_name dataset s (shard_of sharding (id_of s cell))))
    ∙ ap (λ k. chunk_cost (fin.get m (shard_name dataset s (shard_of sharding k))) sharding (cell_limit s cell) k) (sym is_id)
    ∙ ap (λ n. chunk_cost (fin.get m (shard_name dataset s (shard_of sharding id))) sharding n id) (sym is_limit) in
    omega (arith, past_is, cost_is, once))
    (λ went next f.
    let past_is : past s old cell ≡ rows_past old sharding id = ap (λ o. past_of o s old cell) e ∙ ap (rows_past old sharding) (sym is_id) in
    let next_is : past s new next ≡ rows_past new sharding (id_of s next) = ap (λ o. past_of o s new next) e in
    let own_is : own_cost m dataset s cell ≡ 16 + span_cost (found_of (fin.get m (shard_name dataset s (shard_of sharding id))) sharding limit id) =
    ap (λ o. own_by o s cell (fin.get m (object_by o dataset s cell))) e
    ∙ ap (λ k. 16 + span_cost (found_of (fin.get m (shard_name dataset s (shard_of sharding k))) sharding (cell_limit s cell) k)) (sym is_id)
    ∙ ap (λ n. 16 + span_cost (found_of (fin.get m (shard_name dataset s (shard_of sharding id))) sharding n id)) (sym is_limit) in
    let g : is_behind sharding (id_of s cell) (id_of s next) ≡ true = ap (λ o. follows_by o s cell next) (sym e) ∙ f in
    let asked = if_ok r _ onward went (id_of s next) (behind_is sharding id (id_of s next) (ap (λ k. is_behind sharding k (id_of s next)) is_id ∙ g)) in
    omega (arith, past_is, next_is, own_is, asked))
  where
    by_shard : (object : Option Bytes) → cost_by (Some sharding) s cell object ≡ chunk_cost object sharding (cell_limit s cell) (id_of s cell)
    by_shard None = refl
    by_shard (Some object) = refl

-- and one that is an object of its own
run_own : {A E : Type 0} (r : Result A E) (m : Objects) (dataset : Name) (s : Scale) (cell : Cell) (room before after : ℕ) (old new : ShardReader) → s.sharding ≡ None → room ≤ chunk_room s → after ≤ before + room
    → RunsOn (is_ok r) m dataset s (cell ∷ []) before after old new
run_own r m dataset s cell room before after old new e small h =
    run_more (is_ok r) m dataset s cell before after old new
    (let past_is : past s old cell ≡ 0 = ap (λ o. past_of o s old cell) e in
    let cost_is : cell_cost m dataset s cell ≡ chunk_room s = ap (λ o. cost_by o s cell (fin.get m (object_by o dataset s cell))) e in
    omega (arith, past_is, cost_is, small, h))
    (λ went next f. let g : false ≡ true = ap (λ o. follows_by o s cell next) (sym e) ∙ f in absurd (cc g))

-- the same where the objects may be untold
pub sharded_run : {A E : Type 0} (o : Option Objects) (r : Result A E) (dataset : Name) (s : Scale) (cell : Cell) (sharding : Sharding) (limit id before after : ℕ) (old new : ShardReader)
    → s.sharding ≡ Some sharding → limit ≡ cell_limit s cell → id ≡ id_of s cell
    → IfSome o (λ m. after + 24 * rows_past old sharding id ≤ before + chunk_cost (fin.get m (shard_name dataset s (shard_of sharding id))) sharding limit id)
    → IfSome o (λ m. OnOk r (AsksOnce sharding id old new before after (16 + span_cost (found_of (fin.get m (shard_name dataset s (shard_of sharding id))) sharding limit id))))
    → IfSome o (λ m. RunsOn (is_ok r) m dataset s (cell ∷ []) before after old new)
sharded_run None r dataset s cell sharding limit id before after old new e is_limit is_id once onward = tt
sharded_run (Some m) r dataset s cell sharding limit id before after old new e is_limit is_id once onward = run_sharded r m dataset s cell sharding limit id before after old new e is_limit is_id once onward

pub own_run : {A E : Type 0} (o : Option Objects) (r : Result A E) (dataset : Name) (s : Scale) (cell : Cell) (room before after : ℕ) (old new : ShardReader) → s.sharding ≡ None → room ≤ chunk_room s → after ≤ before + room
    → IfSome o (λ m. RunsOn (is_ok r) m dataset s (cell ∷ []) before after old new)
own_run None r dataset s cell room before after old new e small h = tt
own_run (Some m) r dataset s cell room before after old new e small h = run_own r m dataset s cell room before after old new e small h

-- what was read to the end
as_read : (whole : Bool) (m : Objects) (dataset : Name) (s : Scale) (cells : List Cell) (before after : ℕ) (old new : ShardReader) → RunsOn true m dataset s cells before after old new → RunsOn whole m dataset s cells before after old new
as_read whole m dataset s cells before after old new runs done begin has = ((runs done begin has).0, λ went. (runs done begin has).1 refl)

pub run_read : (o : Option Objects) (whole : Bool) (dataset : Name) (s : Scale) (cells : List Cell) (before after : ℕ) (old new : ShardReader)
    → IfSome o (λ m. RunsOn true m dataset s cells before after old new) → IfSome o (λ m. RunsOn whole m dataset s cells before after old new)
run_read None whole dataset s cells before after old new runs = tt
run_read (Some m) whole dataset s cells before after old new runs = as_read whole m dataset s cells before after old new runs

-- reading none
pub run_none : (m : Objects) (dataset : Name) (s : Scale) (before : ℕ) (old : ShardReader) → RunsOn true m dataset s [] before before old old
run_none m dataset s before old done begin has =
    let same : done ≡ done ++ [] = sym (append-nil done) in
    let all = subst (λ cells. HasRun m dataset s cells begin before old) same has in
    (all.total, λ went. all)

-- some more behind some cells
pub run_next : (whole : Bool) (m : Objects) (dataset : Name) (s : Scale) (cells more : List Cell) (before mid after : ℕ) (old half new : ShardReader) → RunsOn true m dataset s cells before mid old half
    → RunsOn whole m dataset s more mid after half new → RunsOn whole m dataset s (cells ++ more) before after old new
run_next whole m dataset s cells more before mid after old half new so_far one done begin has =
    let same : done ++ cells ++ more ≡ done ++ (cells ++ more) = append_assoc done cells more in
    let next = one (done ++ cells) begin ((so_far done begin has).1 refl) in
    (subst (λ cs. after ≤ begin + run_cost m dataset s cs) same next.0, λ went. subst (λ cs. HasRun m dataset s cs begin after new) same (next.1 went))

-- a refusal amid the cells
pub run_broken : (m : Objects) (dataset : Name) (s : Scale) (cells rest all : List Cell) (before after : ℕ) (old new half : ShardReader) → cells ++ rest ≡ all
    → RunsOn false m dataset s cells before after old half → RunsOn false m dataset s all before after old new
run_broken m dataset s cells rest all before after old new half is so_far done begin has =
    let front = run-front m dataset s None (done ++ cells) rest in
    let sum : run_cost m dataset s (done ++ cells ++ rest) ≡ run_cost m dataset s (done ++ all) = ap (run_cost m dataset s) (append_assoc done cells rest ∙ ap (λ cs. done ++ cs) is) in
    (omega (arith, (so_far done begin has).0, front, sum), λ went. absurd (cc went))

pub run_stopped : (m : Objects) (dataset : Name) (s : Scale) (cells left rest all : List Cell) (cell : Cell) (before mid after : ℕ) (old half new : ShardReader) → left ≡ cell ∷ rest → cells ++ left ≡ all
    → RunsOn true m dataset s cells before mid old half → RunsOn false m dataset s (cell ∷ []) mid after half new → RunsOn false m dataset s all before after old new
run_stopped m dataset s cells left rest all cell before mid after old half new e is so_far one =
    run_broken m dataset s (cells ++ cell ∷ []) rest all before after old new new (append_assoc cells (cell ∷ []) rest ∙ ap (λ cs. cells ++ cs) (sym e) ∙ is)
    (run_next false m dataset s cells (cell ∷ []) before mid after old half new so_far one)

-- nothing was asked for
pub run_unasked : (m : Objects) (dataset : Name) (s : Scale) (cells : List Cell) (before after : ℕ) (old new : ShardReader) → after ≡ before → RunsOn false m dataset s cells before after old new
run_unasked m dataset s cells before after old new e done begin has = (let front = run-front m dataset s None done cells in omega (arith, e, front, has.total), λ went. absurd (cc went))

-- a reader that begins
pub begun : (m : Objects) (dataset : Name) (s : Scale) (begin : ℕ) (shards : ShardReader) → HasRun m dataset s [] begin begin shards
begun m dataset s begin shards = record { total = omega arith; onward = λ next f. absurd (cc f) }

-- reading cells one after the other costs no more than reading each
least : (b : Bool) (n : ℕ) → (if b then 0 else n) ≤ n
least true n = omega arith
least false n = omega arith

run-few : (m : Objects) (dataset : Name) (s : Scale) (last : Option Cell) (cells : List Cell) → run_from m dataset s last cells ≤ costs m dataset s cells
run-few m dataset s last [] = omega arith
run-few m dataset s last (cell ∷ rest) =
    let h = run-few m dataset s (Some cell) rest in
    let parts = cost-parts m dataset s cell in
    let index = least (follows s last cell) (index_cost m dataset s cell) in
    let all : costs m dataset s (cell ∷ rest) ≡ cell_cost m dataset s cell + costs m dataset s rest = sum_by-cons (λ n. n) (cell_cost m dataset s cell) (map (cell_cost m dataset s) rest) in
    omega (arith, h, parts, index, all)

few_asked : (whole : Bool) (m : Objects) (dataset : Name) (s : Scale) (cells : List Cell) (before after : ℕ) (old new : ShardReader) → RunsOn whole m dataset s cells before after old new
    → after ≤ before + costs m dataset s cells
few_asked whole m dataset s cells before after old new runs =
    let all = (runs [] before (begun m dataset s before old)).0 in
    let few = run-few m dataset s None cells in
    omega (arith, all, few)

-- what cells that were read ask for: those of a box,
pub run_asked : (o : Option Objects) (whole : Bool) (dataset : Name) (s : Scale) (part : Box3) (before after : ℕ) (old new : ShardReader)
    → IfSome o (λ m. RunsOn whole m dataset s (cells_in s part) before after old new) → IfSome o (λ m. after ≤ before + cost m dataset s part)
run_asked None whole dataset s part before after old new runs = tt
run_asked (Some m) whole dataset s part before after old new runs =
    let is = cost-is m dataset s part in
    let few = few_asked whole m dataset s (cells_in s part) before after old new runs in
    omega (arith, is, few)

-- or one
pub one_asked : (o : Option Objects) (whole : Bool) (dataset : Name) (s : Scale) (cell : Cell) (before after : ℕ) (old new : ShardReader)
    → IfSome o (λ m. RunsOn whole m dataset s (cell ∷ []) before after old new) → IfSome o (λ m. after ≤ before + cell_cost m dataset s cell)
one_asked None whole dataset s cell before after old new runs = tt
one_asked (Some m) whole dataset s cell before after old new runs =
    let one = costs-one m dataset s [] cell in
    let none : costs m dataset s [] ≡ 0 = refl in
    let few = few_asked whole m dataset s (cell ∷ []) before after old new runs in
    omega (arith, one, none, few)
