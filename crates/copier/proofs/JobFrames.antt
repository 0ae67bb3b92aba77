-- Reading one job more into frames with values or with chunks.
use Rattle.std.proofs.Common.{◌≡◌, ◌≢◌, ℕ, ◌+◌, ◌<◌, ◌≤◌, List, [], ◌∷◌, Vec, Global, length, take, map, min, get_or, Option, Ok, refl, ap, ◌∙◌, sym, subst, arith, ⊎_elim}
use Rattle.std.specs.Prelude.{All, filter, slice_index_or}
use Rattle.std.specs.List.{range_with_len, slice_set}
use Rattle.std.specs.Vec.{with_items}
use Rattle.std.proofs.lemmas.Bool.{cases_eq}
use Rattle.std.proofs.lemmas.List.{length-map, map-set, get_or-set_same, get_or-set_other}
use Rattle.std.proofs.lemmas.List.Elements.{All-map, All-set}
use Rattle.std.proofs.lemmas.List.FromFn.{map-range_with_len_more}
use Rattle.vol_base.specs.declared.faults.Fault.{Fault}
use Rattle.vol_spec.specs.BoxValues.{first_some}
use Rattle.vol_spec.specs.Encodings.{raw_size}
use Rattle.vol_spec.specs.Grid.{IsCell, cells_on, numbers_on}
use Rattle.vol_spec.specs.StoredCells.{cell_of}
use Rattle.vol_spec.specs.StoredLists.{in_key_order}
use Rattle.vol_spec.specs.declared.scale.Scale.{Scale}
use Rattle.vol_spec.proofs.Firsts.{first_some-append}
use Rattle.chunk_laws.specs.Told.{is_listed}
use Rattle.write_plan.specs.Jobs.{cells_in, job_of, jobs_of, window_of}
use Rattle.write_plan.specs.declared.jobs.Job.{Job}
use Rattle.copier.specs.Frames.{HasRoom, KeepChunks, KeepsOwn, holding_frames, values_in}
use Rattle.copier.specs.Held.{AreFilled, AreRead, HasFrames, Held, Holds, IsFilled, Readings, Reads}
use Rattle.copier.specs.declared.frame.JobFrame.{JobFrame}
use Rattle.copier.proofs.HeldSteps.{held_cells, same_items}

-- where a frame is set, each still has room,
pub room_set : (to : Scale) (frames : List JobFrame) (k : ℕ) (v : JobFrame) → All (HasRoom to) frames → HasRoom to v → All (HasRoom to) (slice_set frames k v)
room_set to frames k v h room = All-set (HasRoom to) frames k v room h

-- one more is filled,
pub values_more : (to : Scale) (frames : List JobFrame) (k : ℕ) (v : JobFrame) → k < length frames → AreFilled to k (map (values_in to) frames) → IsFilled to (values_in to v)
    → AreFilled to (k + 1) (map (values_in to) (slice_set frames k v))
values_more to frames k v inside old new j l =
    ap (λ fs. length (slice_index_or fs j [])) (map-set (values_in to) frames k v)
    ∙ ⊎_elim
    (λ (e : j ≡ k).
    ap (λ i. length (slice_index_or (slice_set (map (values_in to) frames) k (values_in to v)) i [])) e
    ∙ ap length (get_or-set_same (map (values_in to) frames) k (values_in to v) [] (omega (arith, inside, length-map frames (values_in to))))
    ∙ new)
    (λ (n : j ≢ k).
    ap length (get_or-set_other (map (values_in to) frames) k j (values_in to v) [] n)
    ∙ old j (omega (arith, n, l)))
    (cases_eq j k)

-- and has its cell's chunk, where it has one
pub chunks_more : (to : Scale) (cells : List (List ℕ)) (first k : ℕ) (frames : List JobFrame) (v : JobFrame) (cell : List ℕ) → cell ≡ cell_of cells (first + k) → k < length frames → KeepChunks to cells first k frames
    → KeepsOwn to cell v → KeepChunks to cells first (k + 1) (slice_set frames k v)
chunks_more to cells first k frames v cell here inside old new j d l =
    ⊎_elim
    (λ (e : j ≡ k).
    subst (KeepsOwn to (cell_of cells (first + j))) (sym (ap (λ i. get_or (slice_set frames k v) i d) e ∙ get_or-set_same frames k v d inside))
    (subst (λ c. KeepsOwn to c v) (here ∙ ap (λ i. cell_of cells (first + i)) (sym e)) new))
    (λ (n : j ≢ k).
    subst (KeepsOwn to (cell_of cells (first + j))) (sym (get_or-set_other frames k j v d n)) (old j d (omega (arith, n, l))))
    (cases_eq j k)

module _ (readings : Readings) (to : Scale) (jobs : List (List ℕ)) (first : ℕ) where
  abbrev fault : ℕ → Option (List ℕ × Fault)
  fault job = readings.fault (cell_of jobs job)

  pub job_more : (k : ℕ) (frames : List JobFrame) (v : JobFrame) (cell : List ℕ) → cell ≡ cell_of jobs (first + k) → k < length frames → AreRead readings to jobs first k (map (values_in to) frames)
      → Reads (Ok tt) readings cell (take (raw_size to cell) (values_in to v)) → AreRead readings to jobs first (k + 1) (map (values_in to) (slice_set frames k v))
  job_more k frames v cell here h old new = record {
    sound =
        ap first_some (map-range_with_len_more fault first k (first + k) refl)
        ∙ first_some-append (map fault (range_with_len first k)) (fault (first + k) ∷ []) old.sound
        ∙ ap (λ o. first_some (o ∷ [])) (ap readings.fault (sym here) ∙ new.0);
    bytes = λ j l.
        ap (λ fs. take (raw_size to (cell_of jobs (first + j))) (slice_index_or fs j [])) (map-set (values_in to) frames k v)
        ∙ ⊎_elim
        (λ (e : j ≡ k).
        ap (λ i. take (raw_size to (cell_of jobs (first + i))) (slice_index_or (slice_set (map (values_in to) frames) k (values_in to v)) i [])) e
        ∙ ap (take (raw_size to (cell_of jobs (first + k)))) (get_or-set_same (map (values_in to) frames) k (values_in to v) [] (omega (arith, h, length-map frames (values_in to))))
        ∙ subst (λ c. take (raw_size to c) (values_in to v) ≡ readings.raw c) here new.1
        ∙ ap (λ i. readings.raw (cell_of jobs (first + i))) (sym e))
        (λ (n : j ≢ k).
        ap (take (raw_size to (cell_of jobs (first + j)))) (get_or-set_other (map (values_in to) frames) k j (values_in to v) [] n)
        ∙ old.bytes j (omega (arith, n, l)))
        (cases_eq j k);
  }

-- a copier that is new: of the jobs of these cells, none of which is prepared
pub frames_new : (dataset : List ℕ) (from to : Scale) (cells : List (List ℕ)) (jobs : List Job) (frames : List JobFrame) → All (IsCell to) cells → jobs ≡ jobs_of to (in_key_order to cells)
    → length frames ≡ min (window_of to) (length jobs) → All (HasRoom to) frames
    → HasFrames (holding_frames dataset from to jobs 0 0 frames) jobs (map (λ f. f.bytes) frames)
frames_new dataset from to cells jobs frames inside is count each =
    let same = held_cells to cells jobs inside is in
    let len : length jobs ≡ length (in_key_order to cells) = ap length is ∙ length-map (in_key_order to cells) (job_of to) in
    let all : length (map (values_in to) frames) ≡ length frames = length-map frames (values_in to) in
    let held : length (in_key_order to (filter (is_listed (cells_in jobs)) (numbers_on (cells_on to)))) ≡ length (in_key_order to cells) = ap length same in
    record {
      jobs_are = is ∙ ap (jobs_of to) (sym same);
      room = omega (arith, count, len, all, held);
      within = omega arith;
      filled = λ k l. absurd (omega (arith, l));
      each = All-map (Holds to) (λ (f : JobFrame). f.bytes) frames each;
    }

-- a copier with other frames
pub frames_again : (h : Held) (jobs : List Job) (first count : ℕ) (old : List (Vec ℕ Global)) (frames : Vec JobFrame Global) (fs : List JobFrame)
    → HasFrames h jobs old → h.frames ≡ map (values_in h.to) frames.items → length fs ≡ length frames.items → count ≤ length frames.items → AreFilled h.to count (map (values_in h.to) fs) → All (HasRoom h.to) fs
    → HasFrames (record h { first = first; count = count; frames = map (values_in h.to) (with_items frames fs).items }) jobs (map (λ f. f.bytes) (with_items frames fs).items)
frames_again h jobs first count old frames fs held frames_are len within filled each =
    let same : (with_items frames fs).items ≡ fs = same_items frames fs len in
    let all : length (map (values_in h.to) (with_items frames fs).items) ≡ length frames.items = length-map (with_items frames fs).items (values_in h.to) ∙ ap length same ∙ len in
    let before : length h.frames ≡ length frames.items = ap length frames_are ∙ length-map frames.items (values_in h.to) in
    record {
      jobs_are = held.jobs_are;
      room = let room = held.room in omega (arith, room, before, all);
      within = omega (arith, all, within);
      filled = subst (λ xs. AreFilled h.to count (map (values_in h.to) xs)) (sym same) filled;
      each = All-map (Holds h.to) (λ (f : JobFrame). f.bytes) (with_items frames fs).items (subst (All (HasRoom h.to)) (sym same) each);
    }
