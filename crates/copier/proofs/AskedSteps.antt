-- What reading jobs asks for, one job on.
use Rattle.std.proofs.Common.{◌≡◌, ◌≤◌, ◌+◌, ◌-◌, ℕ, zero, suc, List, [], ◌∷◌, ◌++◌, Bool, true, false, Option, Some, None, IfSome, arith, refl, ap, ◌∙◌, sym, subst, append-nil, append_assoc}
use Rattle.std.specs.Prelude.{flat_map, map}
use Rattle.std.specs.List.{range_with_len}
use Rattle.std.proofs.lemmas.Grind.{flat_map-append}
use Rattle.std.proofs.lemmas.List.FromFn.{map-range_with_len_more}
use Rattle.vol_base.specs.Outside.{Objects}
use Rattle.vol_spec.specs.Grid.{cells_in}
use Rattle.vol_base.specs.declared.boxes.Box3.{Box3}
use Rattle.vol_spec.specs.Grid.{cell_box}
use Rattle.vol_spec.specs.StoredCells.{cell_of}
use Rattle.vol_spec.specs.Types.{Cell, Name}
use Rattle.vol_spec.specs.declared.scale.Scale.{Scale}
use Rattle.vol_spec.proofs.Told.{from_told, in_told}
use Rattle.cutout.specs.Kept.{Keeping}
use Rattle.cutout.specs.Opened.{Opened}
use Rattle.shard_reader.specs.declared.reader.ShardReader.{ShardReader}
use Rattle.cutout.specs.Runs.{HasRun, run_cost, RunsOn}
use Rattle.cutout.proofs.RunSteps.{begun, run-front}
use Rattle.copier.specs.Held.{Held, cells_of, keeping}
use Rattle.copier.specs.Sources.{HasPrepared, cells_under, sources, window_cost}

one : (f : Cell → List Cell) (cell : Cell) → flat_map f (cell ∷ []) ≡ f cell
one f cell = append-nil (f cell)

sources-more : (from to : Scale) (cells : List Cell) (first k : ℕ) → sources from to cells first (k + 1) ≡ sources from to cells first k ++ cells_under from to (cell_of cells (first + k))
sources-more from to cells first k =
    ap (flat_map (cells_under from to)) (map-range_with_len_more (cell_of cells) first k (first + k) refl)
    ∙ flat_map-append (cells_under from to) (map (cell_of cells) (range_with_len first k)) (cell_of cells (first + k) ∷ [])
    ∙ ap (λ r. sources from to cells first k ++ r) (one (cells_under from to) (cell_of cells (first + k)))

behind : (done : List Cell) (from to : Scale) (cells : List Cell) (first k : ℕ) → (done ++ sources from to cells first k) ++ cells_under from to (cell_of cells (first + k)) ≡ done ++ sources from to cells first (k + 1)
behind done from to cells first k =
    append_assoc done (sources from to cells first k) (cells_under from to (cell_of cells (first + k))) ∙ ap (λ cs. done ++ cs) (sym (sources-more from to cells first k))

grows : (m : Objects) (dataset : Name) (from to : Scale) (cells done : List Cell) (first j d : ℕ) → run_cost m dataset from (done ++ sources from to cells first j) ≤ run_cost m dataset from (done ++ sources from to cells first (j + d))
grows m dataset from to cells done first j zero =
    let e : j + 0 ≡ j = omega arith in
    subst (λ n. run_cost m dataset from (done ++ sources from to cells first j) ≤ run_cost m dataset from (done ++ sources from to cells first n)) (sym e) (omega arith)
grows m dataset from to cells done first j (suc d) =
    let h = grows m dataset from to cells done first j d in
    let e : j + d + 1 ≡ j + suc d = omega arith in
    let more : run_cost m dataset from ((done ++ sources from to cells first (j + d)) ++ cells_under from to (cell_of cells (first + (j + d)))) ≡ run_cost m dataset from (done ++ sources from to cells first (j + d + 1)) =
    ap (run_cost m dataset from) (behind done from to cells first (j + d)) in
    let front = run-front m dataset from None (done ++ sources from to cells first (j + d)) (cells_under from to (cell_of cells (first + (j + d)))) in
    subst (λ n. run_cost m dataset from (done ++ sources from to cells first j) ≤ run_cost m dataset from (done ++ sources from to cells first n)) e (omega (arith, h, more, front))

below_all : (m : Objects) (dataset : Name) (from to : Scale) (cells done : List Cell) (first j n : ℕ) → j ≤ n → run_cost m dataset from (done ++ sources from to cells first j) ≤ run_cost m dataset from (done ++ sources from to cells first n)
below_all m dataset from to cells done first j n l =
    let is : j + (n - j) ≡ n = omega (arith, l) in
    subst (λ k. run_cost m dataset from (done ++ sources from to cells first j) ≤ run_cost m dataset from (done ++ sources from to cells first k)) is (grows m dataset from to cells done first j (n - j))

-- one window behind another
pub sources-add : (from to : Scale) (cells : List Cell) (first k n : ℕ) → sources from to cells first k ++ sources from to cells (first + k) n ≡ sources from to cells first (k + n)
sources-add from to cells first k zero =
    let e : k ≡ k + 0 = omega arith in
    append-nil (sources from to cells first k) ∙ ap (sources from to cells first) e
sources-add from to cells first k (suc n) =
    let e : n + 1 ≡ suc n = omega arith in
    let f : k + n + 1 ≡ k + suc n = omega arith in
    let at : first + k + n ≡ first + (k + n) = omega arith in
    ap (λ q. sources from to cells first k ++ sources from to cells (first + k) q) (sym e)
    ∙ sym (behind (sources from to cells first k) from to cells (first + k) n)
    ∙ ap (λ cs. cs ++ cells_under from to (cell_of cells (first + k + n))) (sources-add from to cells first k n)
    ∙ ap (λ q. sources from to cells first (k + n) ++ cells_under from to (cell_of cells q)) at
    ∙ sym (sources-more from to cells first (k + n))
    ∙ ap (sources from to cells first) f

-- so many jobs were read, whatever was read before them
abbrev pub HasRunOn : Objects → Opened → Scale → List Cell → ℕ → ℕ → ℕ → ℕ → Keeping → Keeping → Type 0
HasRunOn m reader to cells first k before after old new = (done : List Cell) (begin : ℕ) → HasRun m reader.dataset reader.scale done begin before old.shards
    → HasRun m reader.dataset reader.scale (done ++ sources reader.scale to cells first k) begin after new.shards

-- none
pub asked_none : (m : Objects) (reader : Opened) (to : Scale) (cells : List Cell) (first before : ℕ) (old : Keeping) → HasRunOn m reader to cells first 0 before before old old
asked_none m reader to cells first before old done begin has = subst (λ cs. HasRun m reader.dataset reader.scale cs begin before old.shards) (sym (append-nil done)) has

-- the cells under a box that is a cell's
pub run_under : (o : Option Objects) (whole : Bool) (dataset : Name) (from to : Scale) (cell : Cell) (b : Box3) (before after : ℕ) (old new : Keeping) → b ≡ cell_box to cell
    → IfSome o (λ m. RunsOn whole m dataset from (cells_in from b) before after old.shards new.shards) → IfSome o (λ m. RunsOn whole m dataset from (cells_under from to cell) before after old.shards new.shards)
run_under o whole dataset from to cell b before after old new e h = subst (λ x. IfSome o (λ m. RunsOn whole m dataset from (cells_in from x) before after old.shards new.shards)) e h

-- one job more
pub asked_job : (m : Objects) (now first_reader : Opened) (to : Scale) (cells : List Cell) (cell : Cell) (first k begin before after : ℕ) (start old new : Keeping) → now ≡ first_reader → cell ≡ cell_of cells (first + k)
    → HasRunOn m first_reader to cells first k begin before start old
    → RunsOn true m now.dataset now.scale (cells_under now.scale to cell) before after old.shards new.shards
    → HasRunOn m first_reader to cells first (k + 1) begin after start new
asked_job m now reader to cells cell first k begin before after start old new same here has runs done at was =
    let one_on : RunsOn true m reader.dataset reader.scale (cells_under reader.scale to cell) before after old.shards new.shards =
    subst (λ (r : Opened). RunsOn true m r.dataset r.scale (cells_under r.scale to cell) before after old.shards new.shards) same runs in
    let next = (one_on (done ++ sources reader.scale to cells first k) at (has done at was)).1 refl in
    let is : (done ++ sources reader.scale to cells first k) ++ cells_under reader.scale to cell ≡ done ++ sources reader.scale to cells first (k + 1) =
    ap (λ c. (done ++ sources reader.scale to cells first k) ++ cells_under reader.scale to c) here ∙ behind done reader.scale to cells first k in
    subst (λ cs. HasRun m reader.dataset reader.scale cs at after new.shards) is next

-- a job that was refused
pub asked_refused : (o : Option Objects) (same_o : Option Objects) (now first_reader : Opened) (to : Scale) (cells : List Cell) (cell : Cell) (first k count begin before after : ℕ) (start old new : Keeping) → same_o ≡ o → now ≡ first_reader → cell ≡ cell_of cells (first + k)
    → k + 1 ≤ count → ((m : Objects) → o ≡ Some m → HasRunOn m first_reader to cells first k begin before start old)
    → IfSome same_o (λ m. RunsOn false m now.dataset now.scale (cells_under now.scale to cell) before after old.shards new.shards)
    → IfSome o (λ m. RunsOn false m first_reader.dataset first_reader.scale (sources first_reader.scale to cells first count) begin after start.shards new.shards)
asked_refused o same_o now reader to cells cell first k count begin before after start old new eo same here low has runs =
    in_told o _ (λ m told done at was.
    let one_on : RunsOn false m reader.dataset reader.scale (cells_under reader.scale to cell) before after old.shards new.shards =
    subst (λ (r : Opened). RunsOn false m r.dataset r.scale (cells_under r.scale to cell) before after old.shards new.shards) same (from_told same_o _ m (eo ∙ told) runs) in
    let next = (one_on (done ++ sources reader.scale to cells first k) at (has m told done at was)).0 in
    let is : run_cost m reader.dataset reader.scale ((done ++ sources reader.scale to cells first k) ++ cells_under reader.scale to cell) ≡ run_cost m reader.dataset reader.scale (done ++ sources reader.scale to cells first (k + 1)) =
    ap (run_cost m reader.dataset reader.scale) (ap (λ c. (done ++ sources reader.scale to cells first k) ++ cells_under reader.scale to c) here ∙ behind done reader.scale to cells first k) in
    let all = below_all m reader.dataset reader.scale to cells done first (k + 1) count low in
    (omega (arith, next, is, all), λ e. absurd (cc e)))

-- all of them
pub asked_jobs : (o : Option Objects) (reader : Opened) (to : Scale) (cells : List Cell) (first k count begin after : ℕ) (start new : Keeping) → k ≡ count
    → ((m : Objects) → o ≡ Some m → HasRunOn m reader to cells first k begin after start new)
    → IfSome o (λ m. RunsOn true m reader.dataset reader.scale (sources reader.scale to cells first count) begin after start.shards new.shards)
asked_jobs o reader to cells first k count begin after start new e has =
    in_told o _ (λ m told done at was.
    let all : HasRun m reader.dataset reader.scale (done ++ sources reader.scale to cells first count) at after new.shards =
    subst (λ n. HasRun m reader.dataset reader.scale (done ++ sources reader.scale to cells first n) at after new.shards) e (has m told done at was) in
    (all.total, λ t. all))

-- the jobs of what is held
pub asked_held : (o : Option Objects) (whole : Bool) (h old : Held) (shards new : ShardReader) (cells : List Cell) (first count before after : ℕ) → keeping h shards ≡ old → cells ≡ cells_of h
    → IfSome o (λ m. RunsOn whole m h.dataset h.from (sources h.from h.to cells first count) before after shards new) → IfSome o (λ m. after ≤ before + window_cost old m first count)
asked_held o whole h old shards new cells first count before after e is runs =
    in_told o _ (λ m told.
    let on : RunsOn whole m h.dataset h.from (sources h.from h.to (cells_of h) first count) before after shards new =
    subst (λ cs. RunsOn whole m h.dataset h.from (sources h.from h.to cs first count) before after shards new) is (from_told o _ m told runs) in
    subst (λ (x : Held). after ≤ before + window_cost x m first count) e (on [] before (begun m h.dataset h.from before shards)).0)

-- and behind jobs that were prepared before
pub more_held : (m : Objects) (whole : Bool) (h old : Held) (shards new : ShardReader) (cells : List Cell) (from n before after first count begin : ℕ) → keeping h shards ≡ old → cells ≡ cells_of h
    → RunsOn whole m h.dataset h.from (sources h.from h.to cells from n) before after shards new
    → first + count ≡ from → HasPrepared old m first count begin before
    → (after ≤ begin + window_cost old m first (count + n)) × (whole ≡ true → HasRun m h.dataset h.from (sources h.from h.to (cells_of h) first (count + n)) begin after new)
more_held m whole h old shards new cells from n before after first count begin e is runs at has =
    let was : HasRun m h.dataset h.from (sources h.from h.to (cells_of h) first count) begin before shards = subst (λ (x : Held). HasPrepared x m first count begin before) (sym e) has in
    let on : RunsOn whole m h.dataset h.from (sources h.from h.to (cells_of h) from n) before after shards new =
    subst (λ cs. RunsOn whole m h.dataset h.from (sources h.from h.to cs from n) before after shards new) is runs in
    let next = on (sources h.from h.to (cells_of h) first count) begin was in
    let all : sources h.from h.to (cells_of h) first count ++ sources h.from h.to (cells_of h) from n ≡ sources h.from h.to (cells_of h) first (count + n) =
    ap (λ q. sources h.from h.to (cells_of h) first count ++ sources h.from h.to (cells_of h) q n) (sym at) ∙ sources-add h.from h.to (cells_of h) first count n in (
      subst (λ (x : Held). after ≤ begin + window_cost x m first (count + n)) e (subst (λ cs. after ≤ begin + run_cost m h.dataset h.from cs) all next.0),
      λ t. subst (λ cs. HasRun m h.dataset h.from cs begin after new) all (next.1 t),
    )
