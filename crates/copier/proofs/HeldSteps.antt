-- What preparing jobs leaves, and what a copier begins with.
use Rattle.std.proofs.Common.{◌≡◌, ℕ, ◌+◌, ◌-◌, ◌^◌, ◌<◌, ◌≤◌, ◌&&◌, nat_le, nat_lt, min, Bool, true, false, List, [], Vec, Global, length, take, map, Option, Some, None, IfSome, Result, Ok, Err, refl, ap, ◌∙◌, sym, subst, arith}
use Rattle.std.specs.Prelude.{All, Contains, ⊤, filter, slice_index_or, replicate, IsSome, IsSomeAnd, if◌then◌else◌}
use Rattle.std.specs.Vec.{with_items}
use Rattle.std.proofs.lemmas.Bool.Decides.{nat_tests}
use Rattle.std.proofs.lemmas.List.{length-map, take-append-le, take_at}
use Rattle.std.proofs.lemmas.List.Elements.{All-contains, filter_passes}
use Rattle.vol_base.specs.Outside.{Objects}
use Rattle.vol_spec.specs.Encodings.{raw_size}
use Rattle.vol_spec.specs.Grid.{IsCell, cells_on, numbers_on}
use Rattle.vol_spec.specs.StoredCells.{AreInOrder, cell_of}
use Rattle.vol_spec.specs.StoredLists.{cell_key, in_key_order}
use Rattle.vol_spec.specs.declared.scale.Scale.{Scale}
use Rattle.chunk_grid.proofs.GridSteps.{cell_box-short}
use Rattle.chunk_grid.proofs.ListingSteps.{Contains-filter, Contains-numbers_on}
use Rattle.chunk_grid.proofs.OrderSteps.{AreInOrder-filter, AreInOrder-numbers_on}
use Rattle.chunk_laws.specs.Told.{is_listed}
use Rattle.write_plan.proofs.KeySteps.{cells_back, distinct_cells, from_key_order, in_order-alike, key_known, length-in_key_order, to_key_order}
use Rattle.write_plan.specs.Jobs.{Prepares, cells_in, job_of, jobs_of, window_of}
use Rattle.write_plan.specs.declared.jobs.Job.{Job}
use Rattle.write_plan.specs.declared.chunks.PrepareFault.{PrepareFault}
use Rattle.write_plan.specs.declared.chunks.PrepareFault.TheVariants.{StoreFault, Damaged}
use Rattle.copier.specs.Held.{AreFilled, AreRead, HasFrames, HasFront, Held, Holds, Readings, ReadsAll, cells_of, first_of, front, holding, ready_of}
use Rattle.copier.specs.HeldLaws.{held_jobs, length-front}
use Rattle.copier.proofs.MarkSteps.{listed_at, listed_from}

-- the same cells in the order of their keys
same_cells : (s : Scale) (xs ys : List (List ℕ)) → ((c : List ℕ) → Contains xs c → Contains ys c) → ((c : List ℕ) → Contains ys c → Contains xs c)
    → ((c d : List ℕ) → Contains xs c → Contains xs d → cell_key s c ≡ cell_key s d → c ≡ d) → in_key_order s xs ≡ in_key_order s ys
unfolding in_key_order
same_cells s xs ys to back known = ap (map (λ (e : List ℕ × List ℕ). e.1)) (in_order-alike s (λ c. c) xs ys to back known)

-- the jobs of cells in the order of their keys are those that a copier of these jobs has
pub held_cells : (to : Scale) (cells : List (List ℕ)) (jobs : List Job) → All (IsCell to) cells → jobs ≡ jobs_of to (in_key_order to cells)
    → in_key_order to (filter (is_listed (cells_in jobs)) (numbers_on (cells_on to))) ≡ in_key_order to cells
held_cells to cells jobs each is =
    let keyed : List (List ℕ) = in_key_order to cells in
    let here : cells_in jobs ≡ keyed = ap cells_in is ∙ cells_back to keyed in
    let listed : List (List ℕ) = filter (is_listed keyed) (numbers_on (cells_on to)) in
    let all : All (IsCell to) listed = (AreInOrder-filter to (is_listed keyed) (numbers_on (cells_on to)) (AreInOrder-numbers_on to)).each in
    ap (λ ks. in_key_order to (filter (is_listed ks) (numbers_on (cells_on to)))) here
    ∙ same_cells to listed cells
    (λ cell c. from_key_order to cells cell (listed_from keyed cell (All-contains (λ cell. is_listed keyed cell ≡ true) listed cell (filter_passes (is_listed keyed) (numbers_on (cells_on to))) c)))
    (λ cell c. Contains-filter (is_listed keyed) (numbers_on (cells_on to)) cell (Contains-numbers_on to cell (All-contains (IsCell to) cells cell each c)) (listed_at keyed cell (to_key_order to cells cell each c)))
    (λ a b ca cb. key_known to a b (All-contains (IsCell to) listed a all ca) (All-contains (IsCell to) listed b all cb))

pub held_of : (h : Held) (jobs : List Job) → jobs ≡ jobs_of h.to (cells_of h) → cells_in jobs ≡ cells_of h
held_of h jobs is = ap cells_in is ∙ cells_back h.to (cells_of h)

pub held_len : (h : Held) (jobs : List Job) → jobs ≡ jobs_of h.to (cells_of h) → length jobs ≡ length (cells_of h)
held_len h jobs is = ap length is ∙ length-map (cells_of h) (job_of h.to)

pub all_cells : (h : Held) (jobs : List Job) → jobs ≡ jobs_of h.to (cells_of h) → All (IsCell h.to) (cells_in jobs)
all_cells h jobs is = subst (All (IsCell h.to)) (sym (held_of h jobs is)) (held_jobs h).each

-- a copier that is new: of the jobs of these cells, none of which is prepared
pub held_new : (dataset : List ℕ) (from to : Scale) (cells : List (List ℕ)) (jobs : List Job) (frames : List (Vec ℕ Global)) → All (IsCell to) cells → jobs ≡ jobs_of to (in_key_order to cells)
    → length frames ≡ min (window_of to) (length jobs) → All (Holds to) frames
    → HasFrames (holding dataset from to jobs 0 0 frames) jobs frames
held_new dataset from to cells jobs frames inside is count each =
    let same = held_cells to cells jobs inside is in
    let len : length jobs ≡ length (in_key_order to cells) = ap length is ∙ length-map (in_key_order to cells) (job_of to) in
    let all : length (map (λ (f : Vec ℕ Global). f.items) frames) ≡ length frames = length-map frames (λ (f : Vec ℕ Global). f.items) in
    let held : length (in_key_order to (filter (is_listed (cells_in jobs)) (numbers_on (cells_on to)))) ≡ length (in_key_order to cells) = ap length same in
    record {
      jobs_are = is ∙ ap (jobs_of to) (sym same);
      room = omega (arith, count, len, all, held);
      within = omega arith;
      filled = λ k l. absurd (omega (arith, l));
      each = each;
    }

pub held_few : (to : Scale) (cells : List (List ℕ)) (jobs : List Job) → AreInOrder to cells → jobs ≡ jobs_of to (in_key_order to cells) → length cells ≤ 2 ^ 22
    → length (in_key_order to (filter (is_listed (cells_in jobs)) (numbers_on (cells_on to)))) ≤ 2 ^ 22
held_few to cells jobs order is few =
    let same = ap length (held_cells to cells jobs order.each is) in
    let len = length-in_key_order to cells order.each (distinct_cells to cells order) in
    omega (arith, same, len, few)

pub held_told : (o : Option Objects) (wanted : Objects → List (List ℕ)) (to : Scale) (cells : List (List ℕ)) (jobs : List Job) → AreInOrder to cells → jobs ≡ jobs_of to (in_key_order to cells)
    → IfSome o (λ m. cells ≡ wanted m) → IfSome o (λ m. in_key_order to (filter (is_listed (cells_in jobs)) (numbers_on (cells_on to))) ≡ in_key_order to (wanted m))
held_told None wanted to cells jobs order is h = tt
held_told (Some m) wanted to cells jobs order is h = held_cells to cells jobs order.each is ∙ ap (in_key_order to) h

-- what reading jobs answers is what preparing them answers
by_cells : (r : Result ⊤ PrepareFault) (readings : Readings) (to : Scale) (cells : List (List ℕ)) (first count : ℕ) (frames : List (List ℕ)) → ReadsAll r readings to cells first count frames
    → Prepares r (first_of readings cells first count)
by_cells (Ok done) readings to cells first count frames e = e.sound
by_cells (Err StoreFault) readings to cells first count frames e = tt
by_cells (Err (Damaged at fault)) readings to cells first count frames e = e

pub prepare_of : (o : Option Objects) (r : Result ⊤ PrepareFault) (readings : Objects → Readings) (h : Held) (cells : List (List ℕ)) (first count : ℕ) (frames : List (List ℕ)) → cells ≡ cells_of h
    → IfSome o (λ m. ReadsAll r (readings m) h.to cells first count frames) → IfSome o (λ m. Prepares r (first_of (readings m) (cells_of h) first count))
prepare_of None r readings h cells first count frames is read = tt
prepare_of (Some m) r readings h cells first count frames is read =
    by_cells r (readings m) h.to (cells_of h) first count frames (subst (λ cs. ReadsAll r (readings m) h.to cs first count frames) is read)

pub same_items : {X : Type 0} (v : Vec X Global) (xs : List X) → length xs ≡ length v.items → (with_items v xs).items ≡ xs
same_items v xs e = take_at xs _ v.len (e ∙ sym v.ok.0)

-- a copier with other frames
pub held_again : (h : Held) (jobs : List Job) (first count : ℕ) (old : List (Vec ℕ Global)) (frames : Vec (Vec ℕ Global) Global) (fs : List (Vec ℕ Global))
    → HasFrames h jobs old → h.frames ≡ map (λ v. v.items) frames.items → length fs ≡ length frames.items → count ≤ length frames.items → AreFilled h.to count (map (λ v. v.items) fs) → All (Holds h.to) fs
    → HasFrames (record h { first = first; count = count; frames = map (λ v. v.items) (with_items frames fs).items }) jobs (with_items frames fs).items
held_again h jobs first count old frames fs held frames_are len within filled each =
    let same : (with_items frames fs).items ≡ fs = same_items frames fs len in
    let all : length (map (λ (v : Vec ℕ Global). v.items) (with_items frames fs).items) ≡ length frames.items = length-map (with_items frames fs).items (λ (v : Vec ℕ Global). v.items) ∙ ap length same ∙ len in
    let before : length h.frames ≡ length frames.items = ap length frames_are ∙ length-map frames.items (λ (v : Vec ℕ Global). v.items) in
    record {
      jobs_are = held.jobs_are;
      room = let room = held.room in omega (arith, room, before, all);
      within = omega (arith, all, within);
      filled = subst (λ xs. AreFilled h.to count (map (λ v. v.items) xs)) (sym same) filled;
      each = subst (All (Holds h.to)) (sym same) each;
    }

pub held_in : (lo hi : Bool) (bytes : List ℕ) → lo ≡ true → hi ≡ true → (if lo && hi then Some bytes else None) ≡ Some bytes
held_in true true bytes e f = refl
held_in true false bytes e f = absurd (cc f)
held_in false hi bytes e f = absurd (cc e)

-- jobs that were read are ready
ready_in : (readings : Readings) (h : Held) (first last : ℕ) (fs : List (List ℕ)) → AreFilled h.to (last - first) fs → AreRead readings h.to (cells_of h) first (last - first) fs
    → (job : ℕ) → first ≤ job → job < last
    → ready_of (record h { first = first; count = last - first; frames = fs }) job ≡ Some (readings.raw (cell_of (cells_of h) job))
ready_in readings h first last fs filled read job low high =
    let place : first + (job - first) ≡ job = omega arith in
    let cell : List ℕ = cell_of (cells_of h) job in
    let frame : List ℕ = slice_index_or fs (job - first) [] in
    let long = filled (job - first) (omega arith) in
    let short = cell_box-short h.to cell in
    let lo : nat_le first job ≡ true = grind (arith, nat_tests) in
    let hi : nat_lt job (first + (last - first)) ≡ true = grind (arith, nat_tests) in
    held_in (nat_le first job) (nat_lt job (first + (last - first))) (front (raw_size h.to cell) frame) lo hi
    ∙ ap Some (take-append-le (raw_size h.to cell) frame (replicate (raw_size h.to cell) 0) (omega (arith, long, short))
    ∙ subst (λ j. take (raw_size h.to (cell_of (cells_of h) j)) frame ≡ readings.raw (cell_of (cells_of h) j)) place (read.bytes (job - first) (omega arith)))

pub ready_held : (o : Option Objects) (readings : Objects → Readings) (h : Held) (cells : List (List ℕ)) (first last : ℕ) (fs fr : List (List ℕ)) → cells ≡ cells_of h → fr ≡ fs → AreFilled h.to (last - first) fs
    → IfSome o (λ m. ReadsAll (Ok tt) (readings m) h.to cells first (last - first) fs)
    → IfSome o (λ m. (job : ℕ) → first ≤ job → job < last
    → ready_of (record h { first = first; count = last - first; frames = fr }) job ≡ Some ((readings m).raw (cell_of (cells_of h) job)))
ready_held None readings h cells first last fs fr is same filled read = tt
ready_held (Some m) readings h cells first last fs fr is same filled read = λ job low high.
    ap (λ xs. ready_of (record h { first = first; count = last - first; frames = xs }) job) same
    ∙ ready_in (readings m) h first last fs filled (subst (λ cs. AreRead (readings m) h.to cs first (last - first) fs) is read) job low high

-- and those from one number up to another are some
pub ready_some : (h : Held) (first last : ℕ) (fr : List (List ℕ)) (job : ℕ) → first ≤ job → job < last
    → IsSome (ready_of (record h { first = first; count = last - first; frames = fr }) job)
ready_some h first last fr job low high =
    let lo : nat_le first job ≡ true = grind (arith, nat_tests) in
    let hi : nat_lt job (first + (last - first)) ≡ true = grind (arith, nat_tests) in
    subst IsSome (sym (held_in (nat_le first job) (nat_lt job (first + (last - first))) (front (raw_size h.to (cell_of (cells_of h) job)) (slice_index_or fr (job - first) [])) lo hi)) refl

-- what is known of a job that is ready
split_some : (lo hi : Bool) (bytes : List ℕ) (n : ℕ) → IsSomeAnd (if lo && hi then Some bytes else None) (λ b. length b ≡ n) → (lo ≡ true) × (hi ≡ true) × (length bytes ≡ n)
split_some true true bytes n h = (refl, refl, h)
split_some true false bytes n h = absurd h
split_some false hi bytes n h = absurd h

pub le_from : (a b : ℕ) → nat_le a b ≡ true → a ≤ b
le_from a b e = grind (arith, nat_tests)

pub lt_from : (a b : ℕ) → nat_lt a b ≡ true → a < b
lt_from a b e = grind (arith, nat_tests)

pub ready_facts : (h : Held) (job n : ℕ) → IsSomeAnd (ready_of h job) (λ b. length b ≡ n) → (h.first ≤ job) × (job < h.first + h.count) × (raw_size h.to (cell_of (cells_of h) job) ≡ n)
ready_facts h job n some =
    let parts = split_some (nat_le h.first job) (nat_lt job (h.first + h.count)) (front (raw_size h.to (cell_of (cells_of h) job)) (slice_index_or h.frames (job - h.first) [])) n some in
    (le_from h.first job parts.0, lt_from job (h.first + h.count) parts.1, sym (length-front (raw_size h.to (cell_of (cells_of h) job)) (slice_index_or h.frames (job - h.first) [])) ∙ parts.2)

ready_is : (h : Held) (job n : ℕ) (frame : List ℕ) → IsSomeAnd (ready_of h job) (λ b. length b ≡ n) → slice_index_or h.frames (job - h.first) [] ≡ frame → n ≤ length frame → ready_of h job ≡ Some (take n frame)
ready_is h job n frame some e long =
    let facts = ready_facts h job n some in
    let size = facts.2 in
    let parts = split_some (nat_le h.first job) (nat_lt job (h.first + h.count)) (front (raw_size h.to (cell_of (cells_of h) job)) (slice_index_or h.frames (job - h.first) [])) n some in
    held_in (nat_le h.first job) (nat_lt job (h.first + h.count)) (front (raw_size h.to (cell_of (cells_of h) job)) (slice_index_or h.frames (job - h.first) [])) parts.0 parts.1
    ∙ ap (λ k. Some (front k (slice_index_or h.frames (job - h.first) []))) size
    ∙ ap (λ xs. Some (front n xs)) e
    ∙ ap Some (take-append-le n frame (replicate n 0) long)

frame_long : (h : Held) (job n : ℕ) (frame : List ℕ) → AreFilled h.to h.count h.frames → IsSomeAnd (ready_of h job) (λ b. length b ≡ n) → slice_index_or h.frames (job - h.first) [] ≡ frame → n ≤ length frame
frame_long h job n frame filled some e =
    let facts = ready_facts h job n some in
    let low = facts.0 in
    let high = facts.1 in
    let size = facts.2 in
    let long = filled (job - h.first) (omega arith) in
    let short = cell_box-short h.to (cell_of (cells_of h) job) in
    let same = ap length e in
    omega (arith, long, short, size, same)

-- the frame of a job that is ready has its bytes in front
pub ready_front : (h : Held) (jobs : List Job) (frames : List (Vec ℕ Global)) (job n : ℕ) → HasFrames h jobs frames → IsSomeAnd (ready_of h job) (λ b. length b ≡ n) → HasFront h.first job n h.frames
ready_front h jobs frames job n held some =
    let facts = ready_facts h job n some in
    let low = facts.0 in
    let high = facts.1 in
    let within = held.within in
    record { low = low; within = omega (arith, low, high, within); long = frame_long h job n (slice_index_or h.frames (job - h.first) []) held.filled some refl }

pub ready_put : (h : Held) (jobs : List Job) (frames : List (Vec ℕ Global)) (job n : ℕ) (raw : List ℕ) → HasFrames h jobs frames → IsSomeAnd (ready_of h job) (λ b. length b ≡ n)
    → raw ≡ take n (slice_index_or h.frames (job - h.first) []) → ready_of h job ≡ Some raw
ready_put h jobs frames job n raw held some put =
    ready_is h job n (slice_index_or h.frames (job - h.first) []) some refl (ready_front h jobs frames job n held some).long ∙ ap Some (sym put)
