-- What a reducer's jobs are stored as, and what storing them answers.
use Rattle.std.proofs.Common.{◌≡◌, ◌∙◌, ℕ, ◌≤◌, ◌^◌, List, length, map, Option, Some, None, IfSome, false, refl, ap, sym, subst, arith}
use Rattle.std.specs.Prelude.{IfOk, Result, Ok, Err}
use Rattle.vol_base.specs.Outside.{HaveBytes, Objects, any_under}
use Rattle.vol_spec.specs.BoxValues.{first_some}
use Rattle.vol_spec.specs.CellNames.{folder_of}
use Rattle.vol_spec.specs.Cut.{first_fault}
use Rattle.vol_spec.specs.StoredCells.{AreInOrder, put_in}
use Rattle.vol_spec.specs.StoredLists.{in_key_order, stored_list}
use Rattle.vol_spec.specs.Writable.{IsWritable}
use Rattle.vol_spec.specs.declared.scale.Scale.{Scale}
use Rattle.chunk_laws.specs.Told.{HasNoFault}
use Rattle.copy_laws.proofs.CopyValues.{none_anywhere}
use Rattle.coarse_laws.proofs.CoarseLaw.{AreInOrder-reduced_cells, reduced_apart, reduced_sound, reduced_value}
use Rattle.copier.proofs.MarkSteps.{few_pass}
use Rattle.copier.specs.Held.{Held, cells_of}
use Rattle.reduce_laws.specs.Reduced.{IsNext, is_reduced, reduced_cells, reduced_chunks, reduced_raw, source_box}
use Rattle.reduce_laws.specs.declared.method.Method.{Method}
use Rattle.reducer.specs.Works.{IsApart, Reduction, work_of}
use Rattle.shard_writer.proofs.PlannedSteps.{chunk_by}
use Rattle.shard_writer.specs.Works as spared
use Rattle.shard_writer.specs.Writing.{PutsFront, joint_len}
use Rattle.shard_writer.specs.Works.{KnowsLens, PutsJobs, PutsSome, WritesAll, first_of_jobs, job_objects, told_objects}
use Rattle.shard_writer.specs.declared.written.Written.{Written}
use Rattle.shard_writer.specs.declared.written.WriteFault.{WriteFault}
use Rattle.shard_writer.specs.declared.written.WriteFault.TheVariants as writes
use Rattle.write_plan.specs.Pairs.{cell_count}
use Rattle.reshard_cmd.proofs.JobSteps.{as_many_jobs, job_by_job, objects_by_job, spared_by_job}
use Rattle.make_scale.specs.Making.{Puts, Wrote}
use Rattle.vol_base.specs.declared.outside.StoreRefusal.{StoreRefusal}
use Rattle.downsample_cmd.specs.Downsampling.{PutsReducedFront, SparesFaulty, reduced_list, source_fault}
use Rattle.downsample_cmd.specs.Reductions.{HasReducedJobs, said_reduction}
use Rattle.downsample_cmd.proofs.FaultSteps.{first_is, none_is}

-- few cells are reduced,
pub few_reduced : (m : Objects) (dataset : List ℕ) (from to : Scale) → cell_count to ≤ 2 ^ 22 → length (reduced_cells m dataset from to) ≤ 2 ^ 22
unfolding reduced_cells
few_reduced m dataset from to few = few_pass to (is_reduced m dataset from to) few

chunks_made : (method : Method) (m : Objects) (dataset : List ℕ) (from to : Scale) → reduced_chunks method m dataset from to ≡ map (chunk_by (reduced_raw method m dataset from to)) (reduced_cells m dataset from to)
unfolding reduced_chunks
chunks_made method m dataset from to = refl

module _ (m : Objects) (r : Reduction) (to : Scale) (scale : r.held.to ≡ to) (jobs : HasReducedJobs m r to) (next : IsNext r.held.from to) where
  abbrev h : Held
  h = r.held

  abbrev made : List (List ℕ)
  made = reduced_cells m h.dataset h.from to

  order : AreInOrder to made
  order = AreInOrder-reduced_cells r.method m h.dataset h.from to next

  -- its objects are those of the reducer's jobs,
  pub reducer_objects : job_objects h.dataset (work_of r) m ≡ reduced_list r.method m h.dataset h.from to
  reducer_objects =
      objects_by_job h.dataset h.to to (cells_of h) made scale jobs order (reduced_raw r.method m h.dataset h.from)
      ∙ ap (stored_list h.dataset to) (sym (chunks_made r.method m h.dataset h.from to))

  -- and its first fault is theirs
  pub reducer_fault : first_of_jobs (work_of r) m ≡ source_fault m h.dataset h.from to
  reducer_fault = job_by_job h.dataset h.to to (cells_of h) made scale jobs order (λ s. first_some) (λ s cell. first_fault m h.dataset h.from (source_box h.from s cell))

  pub reducer_count : length (cells_of h) ≡ length made
  reducer_count = as_many_jobs h.dataset h.to to (cells_of h) made scale jobs order

  -- where there is a job, the target's folder isn't the source's
  pub reducer_apart : any_under m (folder_of h.dataset to) ≡ false → IsApart r h.dataset to
  reducer_apart none some =
      let count = reducer_count in
      reduced_apart m h.dataset h.dataset h.from to none (omega (arith, count, some))

  -- the objects of jobs with a fault are those of the cells
  spares_of : (now : Option Objects) → spared.SparesFaulty h.dataset (work_of r) (Some m) now → SparesFaulty m now h.dataset h.from to
  spares_of None spares = tt
  spares_of (Some n) spares = spared_by_job h.dataset h.to to (cells_of h) made scale jobs order m n (λ s cell. first_fault m h.dataset h.from (source_box h.from s cell)) spares

  front_of : (now : Option Objects) → PutsSome h.dataset (work_of r) (Some m) now → spared.SparesFaulty h.dataset (work_of r) (Some m) now → PutsReducedFront r.method m now h.dataset h.from to
  front_of now front spares = (subst (λ list. PutsFront list m now) reducer_objects front, spares_of now spares)

  module _ (few : cell_count to ≤ 2 ^ 22) (can : IsWritable to) (none : any_under m (folder_of h.dataset to) ≡ false) (all_bytes : HaveBytes m) where
    -- and what storing them answers is said of the reduction
    pub reduced_wrote : (now : Option Objects) (answer : Result Written WriteFault) → Wrote h.dataset (work_of r) m now answer → Puts (said_reduction r.method m now h.dataset h.from to) answer
    reduced_wrote now (Ok written) wrote =
        let sound = none_is m h.dataset h.from to next (sym reducer_fault ∙ wrote.answer) in
        let most = few_reduced m h.dataset h.from to few in
        record {
          put = wrote.put ∙ ap (λ list. Some (put_in m list)) reducer_objects;
          objects = wrote.objects ∙ ap length reducer_objects;
          cells = wrote.cells ∙ reducer_count;
          bytes = wrote.bytes ∙ ap joint_len reducer_objects;
          source = sound;
          values = λ p c inside l. reduced_value r.method m h.dataset h.from to next h.dataset most can none p c all_bytes inside l;
          target = λ cell is. reduced_sound r.method m h.dataset h.from to next h.dataset most can none cell is;
        }
    reduced_wrote now (Err writes.StoreFault) wrote = front_of now wrote.front wrote.spares
    reduced_wrote now (Err writes.OutOfMemory) wrote = front_of now wrote.front wrote.spares
    reduced_wrote now (Err (writes.Damaged cell fault)) wrote = (first_is m h.dataset h.from to cell fault (sym reducer_fault ∙ wrote.answer), front_of now wrote.front wrote.spares)

-- the same of a reducer that was made for a source and a target
module _ (m : Objects) (r : Reduction) (method : Method) (dataset : List ℕ) (from to : Scale) (way : r.method ≡ method) (own : r.held.dataset ≡ dataset) (read : r.held.from ≡ from) (scale : r.held.to ≡ to)
    (made : cells_of r.held ≡ in_key_order to (reduced_cells m dataset from to)) (next : IsNext from to) where
  jobs : HasReducedJobs m r to
  jobs =
      subst (λ s. cells_of r.held ≡ in_key_order to (reduced_cells m r.held.dataset s to)) (sym read)
      (subst (λ name. cells_of r.held ≡ in_key_order to (reduced_cells m name from to)) (sym own) made)

  fits : IsNext r.held.from to
  fits = subst (λ s. IsNext s to) (sym read) next

  pub due_in : job_objects dataset (work_of r) m ≡ reduced_list method m dataset from to
  due_in =
      subst (λ name. job_objects name (work_of r) m ≡ reduced_list method m name from to) own
      (subst (λ s. job_objects r.held.dataset (work_of r) m ≡ reduced_list method m r.held.dataset s to) read
      (subst (λ w. job_objects r.held.dataset (work_of r) m ≡ reduced_list w m r.held.dataset r.held.from to) way (reducer_objects m r to scale jobs fits)))

  pub apart_in : any_under m (folder_of dataset to) ≡ false → IsApart r dataset to
  apart_in none = subst (λ name. IsApart r name to) own (reducer_apart m r to scale jobs fits (subst (λ name. any_under m (folder_of name to) ≡ false) (sym own) none))

  pub says_in : cell_count to ≤ 2 ^ 22 → IsWritable to → any_under m (folder_of dataset to) ≡ false → HaveBytes m
      → (now : Option Objects) (answer : Result Written WriteFault) → Wrote dataset (work_of r) m now answer → Puts (said_reduction method m now dataset from to) answer
  says_in few can none bytes now answer wrote =
      subst (λ name. Puts (said_reduction method m now name from to) answer) own
      (subst (λ s. Puts (said_reduction method m now r.held.dataset s to) answer) read
      (subst (λ w. Puts (said_reduction w m now r.held.dataset r.held.from to) answer) way
      (reduced_wrote m r to scale jobs fits few can (subst (λ name. any_under m (folder_of name to) ≡ false) (sym own) none) bytes now answer
      (subst (λ name. Wrote name (work_of r) m now answer) (sym own) wrote))))

-- what is said of each reducer that is made, over objects that are told
pub of_reducer : (o : Option Objects) (r : Result Reduction StoreRefusal) (method : Method) (from_dataset dataset : List ℕ) (from to : Scale) (P : Objects → Reduction → Type 0) → from_dataset ≡ dataset → IfOk r (λ x. x.method ≡ method)
    → IfOk r (λ x. x.held.dataset ≡ from_dataset) → IfOk r (λ x. x.held.from ≡ from) → IfOk r (λ x. x.held.to ≡ to) → IfOk r (λ x. IfSome o (λ m. cells_of x.held ≡ in_key_order to (reduced_cells m from_dataset from to)))
    → IfSome o (λ m. any_under m (folder_of dataset to) ≡ false) → IfSome o HaveBytes
    → ((m : Objects) (x : Reduction) → x.method ≡ method → x.held.dataset ≡ dataset → x.held.from ≡ from → x.held.to ≡ to → cells_of x.held ≡ in_key_order to (reduced_cells m dataset from to) → any_under m (folder_of dataset to) ≡ false → HaveBytes m → P m x)
    → IfOk r (λ x. IfSome o (λ m. P m x))
of_reducer o (Err refusal) method from_dataset dataset from to P same way own read scale made none bytes f = tt
of_reducer None (Ok x) method from_dataset dataset from to P same way own read scale made none bytes f = tt
of_reducer (Some m) (Ok x) method from_dataset dataset from to P same way own read scale made none bytes f =
    f m x way (own ∙ same) read scale (subst (λ name. cells_of x.held ≡ in_key_order to (reduced_cells m name from to)) same made) none bytes

-- all is put, of a source that has no fault
pub front_whole : (method : Method) (m : Objects) (now : Option Objects) (dataset : List ℕ) (from to : Scale) → PutsFront (reduced_list method m dataset from to) m now → HasNoFault m dataset from
    → PutsReducedFront method m now dataset from to
front_whole method m now dataset from to front sound = (front, spares now)
  where
    spares : (now : Option Objects) → SparesFaulty m now dataset from to
    spares None = tt
    spares (Some n) = λ cell listed faulty. absurd (faulty (none_anywhere m dataset from (source_box from to cell) sound))
