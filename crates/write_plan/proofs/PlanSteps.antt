-- The jobs of a plan are the cells that its writes meet.
use Rattle.std.proofs.Common.{◌≡◌, ℕ, ◌-◌, ◌^◌, ◌<◌, ◌≤◌, min, Some, None, IsSomeAnd, nat_lt, List, [], ◌∷◌, length, map, get_or, Bool, true, false, cond, refl, sym, ap, ◌∙◌, subst, arith}
use Rattle.std.specs.Prelude.{not, ◌==◌, ◌||◌, All, Contains, filter, if◌then◌else◌, slice_index_or}
use Rattle.std.specs.List.{list_any}
use Rattle.std.proofs.lemmas.Bool.Decides.{nat_tests}
use Rattle.std.proofs.lemmas.List.{get_or-map, length-map}
use Rattle.std.proofs.lemmas.List.Elements.{All-contains, All-contains_itself, All-filter, All-map, Contains-get_or, filter_passes}
use Rattle.vol_base.specs.declared.boxes.Box3.{Box3}
use Rattle.vol_base.specs.Outside.{Objects}
use Rattle.vol_spec.specs.BoxValues.{first_some}
use Rattle.vol_spec.specs.LastWrite.{zeros}
use Rattle.vol_spec.specs.Grid.{cell_box, IsCell, meets}
use Rattle.vol_spec.specs.Raw.{raw_len}
use Rattle.vol_spec.specs.StoredCells.{cell_number, cell_of, met, met_cells, written_raw}
use Rattle.vol_spec.specs.StoredLists.{in_key_order}
use Rattle.vol_spec.specs.declared.scale.Scale.{Scale}
use Rattle.chunk_grid.proofs.GridSteps.{cell_box-short}
use Rattle.chunk_grid.proofs.ListingSteps.{Contains-filter}
use Rattle.write_plan.specs.Jobs.{job_at, jobs_of}
use Rattle.write_plan.specs.Pairs.{ArePairs, AreRead, IsPlan, run_of}
use Rattle.write_plan.specs.Plans.{no_fault, Planned, planned_cells, ready_of}
use Rattle.write_plan.specs.WriteLists.{BoxWrite, IsWriteOf}
use Rattle.write_plan.specs.declared.jobs.Job.{Job}
use Rattle.write_plan.specs.declared.pairs.Pair.{Pair}
use Rattle.vol_spec.proofs.RawSteps.{length-written_raw}
use Rattle.chunk_grid.proofs.OrderSteps.{cells_in_order}
use Rattle.write_plan.specs.PlanLaws.{met_jobs}
use Rattle.write_plan.proofs.FoundSteps.{cell_from}
use Rattle.write_plan.proofs.KeySteps.{cell_at-jobs_of}
use Rattle.write_plan.proofs.RunSteps.{number_from, same_number}

-- a test holds of some element exactly where the filter keeps one
one_kept : {X : Type 0} (b any : Bool) (x : X) (rest : List X) → (any ≡ true → 0 < length rest) → (b || any) ≡ true → 0 < length (cond b (x ∷ rest) rest)
one_kept true any x rest f e = omega arith
one_kept false any x rest f e = f e

any_kept : {X : Type 0} (p : X → Bool) (xs : List X) → list_any p xs ≡ true → 0 < length (filter p xs)
any_kept p [] e = absurd (cc e)
any_kept p (x ∷ xs) e = one_kept (p x) (list_any p xs) x (filter p xs) (any_kept p xs) e

kept_one : {X : Type 0} (b any : Bool) (x : X) (rest : List X) → (0 < length rest → any ≡ true) → 0 < length (cond b (x ∷ rest) rest) → (b || any) ≡ true
kept_one true any x rest f l = refl
kept_one false any x rest f l = f l

kept_any : {X : Type 0} (p : X → Bool) (xs : List X) → 0 < length (filter p xs) → list_any p xs ≡ true
kept_any p [] l = absurd (omega arith)
kept_any p (x ∷ xs) l = kept_one (p x) (list_any p xs) x (filter p xs) (kept_any p xs) l

some : {X : Type 0} (xs : List X) (x : X) → Contains xs x → 0 < length xs
some xs x (k, l, e) = omega arith

-- how many of the writes meet a cell
run_len : (s : Scale) (ws : List BoxWrite) (ps : List Pair) (cell : List ℕ) → ArePairs s ws ps → IsCell s cell → length (run_of ps (cell_number s cell)) ≡ length (filter (λ w. meets s w.0 cell) ws)
run_len s ws ps cell h is =
    let none : Box3 = record { begin = []; size = [] } in
    let d : BoxWrite = (none, []) in
    sym (length-map (run_of ps (cell_number s cell)) (λ (pair : Pair). slice_index_or ws pair.write d)) ∙ ap length (h.runs cell d is)

-- some write meets a cell exactly where its run isn't empty
pub met_by_run : (s : Scale) (ws : List BoxWrite) (ps run : List Pair) (cell : List ℕ) (empty : Bool) → ArePairs s ws ps → IsCell s cell → run ≡ run_of ps (cell_number s cell) → empty ≡ (length run == 0) → not empty ≡ met s ws cell
met_by_run s ws ps run cell empty h is own e = by empty e (met s ws cell) refl
  where
    long : length run ≡ length (filter (λ (w : BoxWrite). meets s w.0 cell) ws)
    long = ap length own ∙ run_len s ws ps cell h is

    by : (b : Bool) → b ≡ (length run == 0) → (m : Bool) → met s ws cell ≡ m → not b ≡ m
    by true e true f =
        let some = any_kept (λ (w : BoxWrite). meets s w.0 cell) ws f in
        let few : length run ≡ 0 = grind (arith, nat_tests) in
        absurd (omega (arith, some, few, long))
    by true e false f = refl
    by false e true f = refl
    by false e false f =
        let some : 0 < length run = grind (arith, nat_tests) in
        let any = kept_any (λ (w : BoxWrite). meets s w.0 cell) ws (omega (arith, some, long)) in
        absurd (cc (sym f ∙ any))

-- a cell has a pair exactly where some write meets it
numbered_met : (s : Scale) (ws : List BoxWrite) (ps : List Pair) (cell : List ℕ) → ArePairs s ws ps → IsCell s cell → Contains (map (λ (pair : Pair). pair.number) ps) (cell_number s cell) → met s ws cell ≡ true
numbered_met s ws ps cell h is (k, l, e) =
    let n : ℕ = cell_number s cell in
    let none : Pair = record { number = n; write = 0 } in
    let low : k < length ps = omega (arith, l, length-map ps (λ (pair : Pair). pair.number)) in
    let own : (get_or ps k none).number ≡ n = sym (get_or-map (λ (pair : Pair). pair.number) ps k none n low) ∙ e in
    let in_run : Contains (run_of ps n) (get_or ps k none) = Contains-filter (λ (pair : Pair). pair.number == n) ps (get_or ps k none) (Contains-get_or ps k none low) (same_number _ _ own) in
    let long = some (run_of ps n) _ in_run in
    kept_any (λ (w : BoxWrite). meets s w.0 cell) ws (omega (arith, long, run_len s ws ps cell h is))

met_numbered : (s : Scale) (ws : List BoxWrite) (ps : List Pair) (cell : List ℕ) → ArePairs s ws ps → IsCell s cell → met s ws cell ≡ true → Contains (map (λ (pair : Pair). pair.number) ps) (cell_number s cell)
met_numbered s ws ps cell h is e =
    let n : ℕ = cell_number s cell in
    let none : Pair = record { number = n; write = 0 } in
    let long : 0 < length (run_of ps n) = omega (arith, any_kept (λ (w : BoxWrite). meets s w.0 cell) ws e, run_len s ws ps cell h is) in
    let first : Pair = get_or (run_of ps n) 0 none in
    let own : first.number ≡ n = number_from _ _ (filter_passes (λ (pair : Pair). pair.number == n) ps 0 none long) in
    let in_ps : Contains ps first = All-filter (λ (pair : Pair). pair.number == n) (Contains ps) ps (All-contains_itself ps) 0 none long in
    listed first own in_ps
  where
    listed : (pair : Pair) → pair.number ≡ cell_number s cell → Contains ps pair → Contains (map (λ (pair : Pair). pair.number) ps) (cell_number s cell)
    listed pair own (k, l, f) = (k, omega (arith, l, length-map ps (λ (pair : Pair). pair.number)), get_or-map (λ (pair : Pair). pair.number) ps k pair (cell_number s cell) l ∙ ap (λ (pair : Pair). pair.number) f ∙ own)

-- the cells that are read off the pairs are those that some write meets
read_met : (s : Scale) (ws : List BoxWrite) (ps : List Pair) (cells : List (List ℕ)) → ArePairs s ws ps → AreRead s ps cells → cells ≡ met_cells s ws
unfolding met_cells
read_met s ws ps cells h read =
    cells_in_order s (met s ws) cells read.order
    (λ k d l. numbered_met s ws ps (get_or cells k d) h (read.order.each k d l) (read.from k d l))
    (λ cell is e.
    let c : Contains (map (λ (pair : Pair). pair.number) ps) (cell_number s cell) = met_numbered s ws ps cell h is e in
    cell_from s cells cell read.order.each is (All-contains (Contains (map (cell_number s) cells)) (map (λ (pair : Pair). pair.number) ps) (cell_number s cell) (All-map (Contains (map (cell_number s) cells)) (λ (pair : Pair). pair.number) ps read.to) c))

pub planned : (s t : Scale) (ws vs : List BoxWrite) (ps qs : List Pair) (cells : List (List ℕ)) (jobs : List Job) → t ≡ s → ws ≡ vs → qs ≡ ps → All (IsWriteOf s) ws → ArePairs s vs ps → AreRead s qs cells
    → jobs ≡ jobs_of s (in_key_order s cells) → IsPlan t ws jobs ps
planned s t ws vs ps qs cells jobs es ew ep fits pairs read is =
    let own : ArePairs s ws ps = subst (λ (xs : List BoxWrite). ArePairs s xs ps) (sym ew) pairs in
    let met : cells ≡ met_cells s ws = read_met s ws ps cells own (subst (λ xs. AreRead s xs cells) ep read) in
    subst (λ (x : Scale). IsPlan x ws jobs ps) (sym es) (record { fits = fits; ready = own; jobs_are = is ∙ ap (λ cs. jobs_of s (in_key_order s cs)) met })

below_from : (a b : ℕ) → nat_lt a b ≡ true → a < b
below_from a b e = grind (arith, nat_tests)

-- a job that is ready, with room for its bytes
pub record IsRoom (s : Scale) (cell : List ℕ) (n : ℕ) : Type 0 where
  pub in_grid : IsCell s cell
  pub len : n ≡ raw_len (cell_box s cell) s.channels s.width

room_at : (s : Scale) (ws : List BoxWrite) (job n : ℕ) (b : Bool) → b ≡ nat_lt job (length (in_key_order s (met_cells s ws))) → IsSomeAnd (if b then Some (written_raw s zeros ws (cell_of (in_key_order s (met_cells s ws)) job)) else None) (λ bytes. length bytes ≡ n)
    → IsRoom s (cell_of (in_key_order s (met_cells s ws)) job) n
room_at s ws job n true e h =
    let low : job < length (in_key_order s (met_cells s ws)) = below_from job (length (in_key_order s (met_cells s ws))) (sym e) in
    record { in_grid = (met_jobs s ws).each job [] low; len = sym h ∙ length-written_raw s zeros ws (cell_of (in_key_order s (met_cells s ws)) job) }
room_at s ws job n false e h = absurd h

-- the cell of a job
own_cell : (s : Scale) (ws : List BoxWrite) (jobs : List Job) (own : Job) (job : ℕ) → jobs ≡ jobs_of s (in_key_order s (met_cells s ws)) → own ≡ job_at jobs job → job < length (in_key_order s (met_cells s ws))
    → own.cell ≡ cell_of (in_key_order s (met_cells s ws)) job
own_cell s ws jobs own job all is low = ap (λ (j : Job). j.cell) (is ∙ ap (λ (js : List Job). job_at js job) all) ∙ cell_at-jobs_of s (in_key_order s (met_cells s ws)) job low

ready_low : (plan : Planned) (job n : ℕ) (b : Bool) → b ≡ nat_lt job (length (planned_cells plan))
    → IsSomeAnd (if b then Some (written_raw plan.scale zeros plan.writes (cell_of (planned_cells plan) job)) else None) (λ bytes. length bytes ≡ n) → job < length (planned_cells plan)
ready_low plan job n true e h = below_from job (length (planned_cells plan)) (sym e)
ready_low plan job n false e h = absurd h

pub room : (plan : Planned) (s : Scale) (ws : List BoxWrite) (jobs : List Job) (own : Job) (job n : ℕ) → plan ≡ record { scale = s; writes = ws } → jobs ≡ jobs_of s (in_key_order s (met_cells s ws)) → own ≡ job_at jobs job
    → IsSomeAnd (ready_of plan job) (λ bytes. length bytes ≡ n) → IsRoom s own.cell n
room plan s ws jobs own job n is all own_is h =
    let whole : Planned = record { scale = s; writes = ws } in
    let ready : IsSomeAnd (ready_of whole job) (λ bytes. length bytes ≡ n) = subst (λ (p : Planned). IsSomeAnd (ready_of p job) (λ bytes. length bytes ≡ n)) is h in
    let low : job < length (in_key_order s (met_cells s ws)) = ready_low whole job n (nat_lt job (length (planned_cells whole))) refl ready in
    subst (λ (c : List ℕ). IsRoom s c n) (sym (own_cell s ws jobs own job all own_is low)) (room_at s ws job n (nat_lt job (length (in_key_order s (met_cells s ws)))) refl ready)

-- no job has a fault
pub none_first : (plan : Planned) (m : Objects) (xs : List ℕ) → first_some (map (no_fault plan m) xs) ≡ None
none_first plan m [] = refl
none_first plan m (x ∷ xs) = none_first plan m xs

-- a job below the number of jobs, and room for its bytes
pub job_in_grid : (s : Scale) (ws : List BoxWrite) (jobs : List Job) (own : Job) (job : ℕ) → jobs ≡ jobs_of s (in_key_order s (met_cells s ws)) → own ≡ job_at jobs job → job < length (in_key_order s (met_cells s ws))
    → IsCell s own.cell
job_in_grid s ws jobs own job all is low = subst (IsCell s) (sym (own_cell s ws jobs own job all is low)) ((met_jobs s ws).each job [] low)

below_true : (a b : ℕ) → a < b → nat_lt a b ≡ true
below_true a b h = grind (arith, nat_tests)

ready_at : (s : Scale) (ws : List BoxWrite) (job n : ℕ) (b : Bool) → b ≡ true → n ≡ raw_len (cell_box s (cell_of (in_key_order s (met_cells s ws)) job)) s.channels s.width
    → IsSomeAnd (if b then Some (written_raw s zeros ws (cell_of (in_key_order s (met_cells s ws)) job)) else None) (λ bytes. length bytes ≡ n)
ready_at s ws job n true e len = length-written_raw s zeros ws (cell_of (in_key_order s (met_cells s ws)) job) ∙ sym len
ready_at s ws job n false e len = absurd (cc e)

-- the bytes of a job that is filled in are those that are ready
pub filled : (plan : Planned) (s : Scale) (ws : List BoxWrite) (jobs : List Job) (own : Job) (job n : ℕ) (raw : List ℕ) → plan ≡ record { scale = s; writes = ws } → jobs ≡ jobs_of s (in_key_order s (met_cells s ws)) → own ≡ job_at jobs job
    → IsSomeAnd (ready_of plan job) (λ bytes. length bytes ≡ n) → raw ≡ written_raw plan.scale zeros plan.writes own.cell → ready_of plan job ≡ Some raw
filled plan s ws jobs own job n raw is all own_is h e =
    let whole : Planned = record { scale = s; writes = ws } in
    let ready : IsSomeAnd (ready_of whole job) (λ bytes. length bytes ≡ n) = subst (λ (p : Planned). IsSomeAnd (ready_of p job) (λ bytes. length bytes ≡ n)) is h in
    let low : job < length (in_key_order s (met_cells s ws)) = ready_low whole job n (nat_lt job (length (planned_cells whole))) refl ready in
    let t : nat_lt job (length (in_key_order s (met_cells s ws))) ≡ true = below_true _ _ low in
    let own_raw : raw ≡ written_raw s zeros ws own.cell = subst (λ (p : Planned). raw ≡ written_raw p.scale zeros p.writes own.cell) is e in
    let cell : own.cell ≡ cell_of (in_key_order s (met_cells s ws)) job = own_cell s ws jobs own job all own_is low in
    let same : ready_of whole job ≡ Some raw = rw t (ap Some (sym (own_raw ∙ ap (λ (c : List ℕ). written_raw s zeros ws c) cell))) in
    subst (λ (p : Planned). ready_of p job ≡ Some raw) (sym is) same

pub job_room : (plan : Planned) (jobs : List Job) (own : Job) (job n : ℕ) → jobs ≡ jobs_of plan.scale (planned_cells plan) → own ≡ job_at jobs job → job < length (planned_cells plan)
    → n ≡ raw_len (cell_box plan.scale own.cell) plan.scale.channels plan.scale.width → IsSomeAnd (ready_of plan job) (λ bytes. length bytes ≡ n)
job_room plan jobs own job n all is low len =
    ready_at plan.scale plan.writes job n (nat_lt job (length (planned_cells plan))) (below_true _ _ low)
    (len ∙ ap (λ (c : List ℕ). raw_len (cell_box plan.scale c) plan.scale.channels plan.scale.width) (own_cell plan.scale plan.writes jobs own job all is low))

-- the counted bytes of a cell
pub record IsCounted (s : Scale) (cell : List ℕ) (n : ℕ) : Type 0 where
  pub len : n ≡ raw_len (cell_box s cell) s.channels s.width
  pub small : n ≤ 2 ^ 27

pub counted_bytes : (s : Scale) (cell : List ℕ) (b : Box3) (n : ℕ) → b ≡ cell_box s cell → n ≡ min (raw_len b s.channels s.width) (2 ^ 128 - 1) → IsCounted s cell n
counted_bytes s cell b n is e =
    let short = cell_box-short s cell in
    let first = s.first_ok in
    let f : n ≡ min (raw_len (cell_box s cell) s.channels s.width) (2 ^ 128 - 1) = e ∙ ap (λ (x : Box3). min (raw_len x s.channels s.width) (2 ^ 128 - 1)) is in
    record { len = omega arith; small = omega arith }
