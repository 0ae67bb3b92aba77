-- What an updater's jobs are stored as, and what storing them answers.
use Rattle.std.proofs.Common.{Result, ◌≡◌, ◌∙◌, ℕ, ◌+◌, ◌<◌, ◌≤◌, ◌^◌, List, [], ◌∷◌, length, map, get_or, Option, Some, None, IfSome, refl, ap, sym, subst, arith}
use Rattle.std.specs.Prelude.{All, Contains, Ok, Err}
use Rattle.std.specs.FinMap as fin
use Rattle.std.specs.Option.{option_map}
use Rattle.std.proofs.lemmas.List.{get_or_default}
use Rattle.std.proofs.lemmas.List.Elements.{All-contains, All-contains_itself, All-cons, All-head, All-nil, All-tail, All-weaker}
use Rattle.vol_base.specs.Bytes.{AreBytes}
use Rattle.vol_base.specs.Outside.{HaveBytes, Objects}
use Rattle.vol_base.specs.declared.boxes.Box3.{Box3}
use Rattle.vol_base.specs.declared.faults.Fault.{Fault}
use Rattle.vol_spec.specs.BoxValues.{first_some}
use Rattle.vol_spec.specs.Chunks.{fault_in}
use Rattle.vol_spec.specs.Copies.{copied_raw}
use Rattle.vol_spec.specs.Cut.{faulty, first_fault}
use Rattle.vol_spec.specs.Grid.{IsCell, cell_box}
use Rattle.vol_spec.specs.StoredBytes.{object_of}
use Rattle.vol_spec.specs.StoredCells.{cell_of, put_in}
use Rattle.vol_spec.specs.StoredLists.{in_key_order, stored_list}
use Rattle.vol_spec.specs.Writable.{IsWritable}
use Rattle.vol_spec.specs.declared.scale.Scale.{Scale}
use Rattle.copier.specs.Held.{cells_of}
use Rattle.copier.specs.HeldLaws.{held_jobs}
use Rattle.shard_writer.proofs.PlannedSteps.{by_place, chunk_by, stored_by_key}
use Rattle.shard_writer.specs.Works as spared
use Rattle.shard_writer.specs.Writing.{PutsFront, joint_len}
use Rattle.shard_writer.specs.Works.{KnowsLens, PutsJobs, PutsSome, WritesAll, first_of_jobs, job_objects, told_objects}
use Rattle.shard_writer.specs.declared.written.Written.{Written}
use Rattle.shard_writer.specs.declared.written.WriteFault.{WriteFault}
use Rattle.shard_writer.specs.declared.written.WriteFault.TheVariants as writes
use Rattle.write_plan.proofs.KeySteps.{distinct_cells, from_key_order, length-in_key_order, to_key_order}
use Rattle.write_plan.specs.Jobs.{KeepsOthers}
use Rattle.copy_laws.proofs.TwinSteps.{own_fault}
use Rattle.update_laws.specs.Overlaid.{after, after_cells, after_raw, overlaid}
use Rattle.update_laws.specs.Laws.{CanUpdate}
use Rattle.update_laws.proofs.NameSteps.{untouched_name}
use Rattle.update_laws.proofs.OwnSteps.{fault_own, overlaid_read, raw_own}
use Rattle.update_laws.proofs.ReadSteps.{updated_sound, updated_value}
use Rattle.update_laws.proofs.UpdateSteps.{AreInOrder-after}
use Rattle.updater.specs.Updates as updater
use Rattle.updater.specs.Updates.{IsApart, work_of}
use Rattle.update_cmd.specs.Updating.{PutsUpdateFront, SparesFaulty, update_fault, update_list}
use Rattle.update_cmd.specs.Putting.{HasUpdateJobs, Updates, unwritten}
use Rattle.update_cmd.specs.declared.fault.UpdateFault.{UpdateFault}
use Rattle.told_writer.specs.Told.{Wrote}

after_chunks : (m : Objects) (dataset : List ℕ) (s : Scale) (ws : List (Box3 × List ℕ)) → after m dataset s ws ≡ map (chunk_by (after_raw m dataset s ws)) (after_cells m dataset s ws)
unfolding after
after_chunks m dataset s ws = refl

-- a fault of writing, as one of an update
abbrev pub update_of : Result Written WriteFault → Result Written UpdateFault
update_of (Ok written) = Ok written
update_of (Err fault) = Err (unwritten fault)

-- what each of some cells has
all_map : {Y : Type 0} (f g : List ℕ → Y) (P : List ℕ → Type 0) (xs : List (List ℕ)) → ((x : List ℕ) → P x → f x ≡ g x) → All P xs → map f xs ≡ map g xs
all_map f g P [] same h = refl
all_map f g P (x ∷ xs) same h = ap (λ y. y ∷ map f xs) (same x (All-head P x xs h)) ∙ ap (λ ys. g x ∷ ys) (all_map f g P xs same (All-tail P x xs h))

not_told : (cell : List ℕ) (o : Option Fault) → option_map (λ (fault : Fault). (let x : List ℕ × Fault = (cell, fault) in x)) o ≡ None → o ≡ None
not_told cell None e = refl
not_told cell (Some fault) e = absurd (cc e)

module _ {X Y : Type 0} (f : X → Option Y) where
  none_each : (xs : List X) → first_some (map f xs) ≡ None → All (λ x. f x ≡ None) xs
  none_each [] e = All-nil (λ x. f x ≡ None)
  none_each (x ∷ xs) e = by (f x) refl e (none_each xs)
    where
      by : (o : Option Y) → f x ≡ o → first_some (o ∷ map f xs) ≡ None → (first_some (map f xs) ≡ None → All (λ x. f x ≡ None) xs) → All (λ x. f x ≡ None) (x ∷ xs)
      by None is e later = All-cons (λ x. f x ≡ None) x xs is (later e)
      by (Some y) is e later = absurd (cc e)

-- an updater of a scale, in the words of its dataset and scale
pub record IsOf (u : updater.Updates) (dataset : List ℕ) (s : Scale) : Type 0 where
  pub own : u.held.dataset ≡ dataset
  pub from : u.held.from ≡ s
  pub to : u.held.to ≡ s

module _ (u : updater.Updates) where
  cell_in : (j : ℕ) → j < length (cells_of u.held) → IsCell u.held.to (cell_of (cells_of u.held) j)
  cell_in j low = (held_jobs u.held).each j [] low

  -- no job reads another's object
  keeps : u.held.from ≡ u.held.to → KeepsOthers u.held.dataset u.held.to (work_of u)
  keeps same = subst (λ s. KeepsOthers u.held.dataset u.held.to (work_of (record { held = record { dataset = u.held.dataset; from = s; to = u.held.to; cells = u.held.cells; first = u.held.first; count = u.held.count; frames = u.held.frames; shards = u.held.shards }; writes = u.writes }))) (sym same)
      (record {
        raws = λ m bytes i j before behind other.
            ap (overlaid u.held.to u.writes (cell_of (cells_of u.held) j)) (raw_own m u.held.dataset u.held.to (cell_of (cells_of u.held) i) bytes (cell_of (cells_of u.held) j) (cell_in j behind) other);
        faults = λ m bytes i j before behind other. fault_own m u.held.dataset u.held.to (cell_of (cells_of u.held) i) bytes (cell_of (cells_of u.held) j) (cell_in j behind) other;
      })

pub apart_of : (u : updater.Updates) (dataset : List ℕ) (s : Scale) → IsOf u dataset s → IsApart u dataset s
apart_of u dataset s is =
    subst (λ name. KeepsOthers name s (work_of u)) is.own
    (subst (λ t. KeepsOthers u.held.dataset t (work_of u)) is.to (keeps u (is.from ∙ sym is.to)))

module _ (m : Objects) (u : updater.Updates) (dataset : List ℕ) (s : Scale) (is : IsOf u dataset s) (jobs : HasUpdateJobs m u dataset s) where
  same : (i : ℕ) → i < length (cells_of u.held) → get_or (cells_of u.held) (0 + i) [] ≡ get_or (cells_of u.held) i []
  same i l = let z : 0 + i ≡ i = omega arith in ap (λ k. get_or (cells_of u.held) k []) z

  -- the bytes of a job are what is stored of its cell
  job_raw : (cell : List ℕ) → overlaid u.held.to u.writes cell (copied_raw m u.held.dataset u.held.from u.held.to cell) ≡ after_raw m dataset s u.writes cell
  job_raw cell =
      ap (λ t. overlaid u.held.to u.writes cell (copied_raw m u.held.dataset t u.held.to cell)) is.from
      ∙ ap (λ t. overlaid t u.writes cell (copied_raw m u.held.dataset s t cell)) is.to
      ∙ ap (λ name. overlaid s u.writes cell (copied_raw m name s s cell)) is.own
      ∙ overlaid_read m dataset s u.writes cell

  -- its objects are those of the cells that are stored
  pub updater_objects : job_objects dataset (work_of u) m ≡ update_list m dataset s u.writes
  updater_objects =
      ap (stored_list dataset u.held.to)
      (by_place (chunk_by (λ cell. overlaid u.held.to u.writes cell (copied_raw m u.held.dataset u.held.from u.held.to cell))) (cells_of u.held) (cells_of u.held) [] 0 same)
      ∙ ap (λ f. stored_list dataset u.held.to (map (chunk_by f) (cells_of u.held))) (λ i cell. job_raw cell i)
      ∙ ap (λ t. stored_list dataset t (map (chunk_by (after_raw m dataset s u.writes)) (cells_of u.held))) is.to
      ∙ ap (λ cells. stored_list dataset s (map (chunk_by (after_raw m dataset s u.writes)) cells)) jobs
      ∙ stored_by_key dataset s (after_raw m dataset s u.writes) (after_cells m dataset s u.writes) (AreInOrder-after m dataset s u.writes)
      ∙ ap (stored_list dataset s) (sym (after_chunks m dataset s u.writes))

  keyed : List (List ℕ)
  keyed = in_key_order s (after_cells m dataset s u.writes)

  keyed_cells : All (IsCell s) (in_key_order s (after_cells m dataset s u.writes))
  keyed_cells =
      All-weaker (Contains (in_key_order s (after_cells m dataset s u.writes))) (IsCell s)
      (λ cell c. All-contains (IsCell s) (after_cells m dataset s u.writes) cell (AreInOrder-after m dataset s u.writes).each (from_key_order s (after_cells m dataset s u.writes) cell c))
      (in_key_order s (after_cells m dataset s u.writes)) (All-contains_itself (in_key_order s (after_cells m dataset s u.writes)))

  -- and its first fault is theirs
  pub updater_fault : first_of_jobs (work_of u) m ≡ update_fault m dataset s u.writes
  updater_fault =
      ap first_some (by_place (λ cell. first_fault m u.held.dataset u.held.from (cell_box u.held.to cell)) (cells_of u.held) (cells_of u.held) [] 0 same)
      ∙ ap (λ name. first_some (map (λ cell. first_fault m name u.held.from (cell_box u.held.to cell)) (cells_of u.held))) is.own
      ∙ ap (λ t. first_some (map (λ cell. first_fault m dataset t (cell_box u.held.to cell)) (cells_of u.held))) is.from
      ∙ ap (λ t. first_some (map (λ cell. first_fault m dataset s (cell_box t cell)) (cells_of u.held))) is.to
      ∙ ap (λ cells. first_some (map (λ cell. first_fault m dataset s (cell_box s cell)) cells)) jobs
      ∙ ap first_some (all_map (λ cell. first_fault m dataset s (cell_box s cell)) (faulty m dataset s) (IsCell s) (in_key_order s (after_cells m dataset s u.writes)) (own_fault m dataset s) keyed_cells)

  pub updater_count : length (cells_of u.held) ≡ length (after_cells m dataset s u.writes)
  updater_count =
      let order = AreInOrder-after m dataset s u.writes in
      ap length jobs ∙ length-in_key_order s (after_cells m dataset s u.writes) order.each (distinct_cells s (after_cells m dataset s u.writes) order)

  -- where there is none, no cell that is stored has one
  all_sound : update_fault m dataset s u.writes ≡ None → All (λ cell. fault_in m dataset s cell ≡ None) (after_cells m dataset s u.writes)
  all_sound none =
      All-weaker (Contains (after_cells m dataset s u.writes)) (λ cell. fault_in m dataset s cell ≡ None)
      (λ cell c.
      not_told cell (fault_in m dataset s cell)
      (All-contains (λ cell. faulty m dataset s cell ≡ None) (in_key_order s (after_cells m dataset s u.writes)) cell (none_each (faulty m dataset s) (in_key_order s (after_cells m dataset s u.writes)) none)
      (to_key_order s (after_cells m dataset s u.writes) cell (AreInOrder-after m dataset s u.writes).each c)))
      (after_cells m dataset s u.writes) (All-contains_itself (after_cells m dataset s u.writes))

  -- the objects of jobs with a fault are those of the cells
  spares_of : (now : Option Objects) → spared.SparesFaulty dataset (work_of u) (Some m) now → SparesFaulty m now dataset s u.writes
  spares_of None spares = tt
  spares_of (Some n) spares = λ cell listed bad.
      let order = AreInOrder-after m dataset s u.writes in
      let one : IsCell s cell = All-contains (IsCell s) (after_cells m dataset s u.writes) cell order.each listed in
      let (k, low, at) = subst (λ cells. Contains cells cell) (sym jobs) (to_key_order s (after_cells m dataset s u.writes) cell order.each listed) in
      let here : cell_of (cells_of u.held) k ≡ cell = get_or_default (cells_of u.held) k [] cell low ∙ at in
      let kept = spares k low
      (λ none.
      bad
      (not_told cell (fault_in m dataset s cell)
      (sym (own_fault m dataset s cell one)
      ∙ ap (λ t. first_fault m dataset s (cell_box t cell)) (sym is.to)
      ∙ ap (λ t. first_fault m dataset t (cell_box u.held.to cell)) (sym is.from)
      ∙ ap (λ name. first_fault m name u.held.from (cell_box u.held.to cell)) (sym is.own)
      ∙ ap (λ c. first_fault m u.held.dataset u.held.from (cell_box u.held.to c)) (sym here)
      ∙ none))) in
      subst (λ t. fin.get n (object_of dataset t cell) ≡ fin.get m (object_of dataset t cell)) is.to
      (subst (λ c. fin.get n (object_of dataset u.held.to c) ≡ fin.get m (object_of dataset u.held.to c)) here kept)

  front_of : (now : Option Objects) → PutsSome dataset (work_of u) (Some m) now → spared.SparesFaulty dataset (work_of u) (Some m) now → PutsUpdateFront m now dataset s u.writes
  front_of now front spares = (subst (λ list. PutsFront list m now) updater_objects front, spares_of now spares)

  -- what storing them answers is an update
  pub updated_wrote : (now : Option Objects) → CanUpdate m dataset s u.writes → (answer : Result Written WriteFault) → Wrote dataset (work_of u) m now answer → Updates (update_of answer) m now dataset s u.writes
  updated_wrote now can (Ok written) wrote = record {
    put = wrote.put ∙ ap (λ list. Some (put_in m list)) updater_objects;
    objects = wrote.objects ∙ ap length updater_objects;
    cells = wrote.cells ∙ updater_count;
    bytes = wrote.bytes ∙ ap joint_len updater_objects;
    sound = all_sound (sym updater_fault ∙ wrote.answer);
    values = λ p c inside l none. updated_value m dataset s u.writes can p c inside l none;
    faultless = λ cell one none. updated_sound m dataset s u.writes can cell one none;
    untouched = λ name apart. untouched_name m dataset s u.writes can name apart;
  }
  updated_wrote now can (Err writes.StoreFault) wrote = front_of now wrote.front wrote.spares
  updated_wrote now can (Err writes.OutOfMemory) wrote = front_of now wrote.front wrote.spares
  updated_wrote now can (Err (writes.Damaged cell fault)) wrote = (sym updater_fault ∙ wrote.answer, front_of now wrote.front wrote.spares)

pub updated_in : (o now : Option Objects) (u : updater.Updates) (dataset : List ℕ) (s : Scale) (answer : Result Written WriteFault) (result : Result Written UpdateFault) → result ≡ update_of answer → IsOf u dataset s → IfSome o (λ m. HasUpdateJobs m u dataset s)
    → IsWritable s → length (cells_of u.held) ≤ 2 ^ 22 → All (λ (write : Box3 × List ℕ). AreBytes write.1) u.writes → IfSome o HaveBytes → IfSome o (λ m. Wrote dataset (work_of u) m now answer) → IfSome o (λ m. Updates result m now dataset s u.writes)
updated_in None now u dataset s answer result same is jobs can few bytes held wrote = tt
updated_in (Some m) now u dataset s answer result same is jobs can few bytes held wrote =
    let count = updater_count m u dataset s is jobs in
    subst (λ r. Updates r m now dataset s u.writes) (sym same)
    (updated_wrote m u dataset s is jobs now (record { few = omega (arith, few, count); writable = can; written = bytes; held = held }) answer wrote)

pub apart_in : (o : Option Objects) (u : updater.Updates) (dataset : List ℕ) (s : Scale) → IsOf u dataset s → IfSome o (λ m. IsApart u dataset s)
apart_in None u dataset s is = tt
apart_in (Some m) u dataset s is = apart_of u dataset s is
