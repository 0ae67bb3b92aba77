-- What a copier's jobs are stored as, and what storing them answers.
use Rattle.std.proofs.Common.{◌≡◌, ◌∙◌, ℕ, ◌≤◌, ◌^◌, List, length, map, Option, Some, None, IfSome, false, refl, ap, sym, subst, arith}
use Rattle.std.specs.Prelude.{IfOk, Result, Ok, Err}
use Rattle.vol_base.specs.Outside.{HaveBytes, Objects, any_under}
use Rattle.vol_spec.specs.BoxValues.{first_some}
use Rattle.vol_spec.specs.CellNames.{folder_of}
use Rattle.vol_spec.specs.Copies.{AreOfOneVolume, copied_cells, copied_raw, copy, is_copied}
use Rattle.vol_spec.specs.Cut.{first_fault}
use Rattle.vol_spec.specs.Grid.{cell_box}
use Rattle.vol_spec.specs.StoredCells.{AreInOrder, put_in}
use Rattle.vol_spec.specs.StoredLists.{in_key_order, stored_list}
use Rattle.vol_spec.specs.Writable.{IsWritable}
use Rattle.vol_spec.specs.declared.scale.Scale.{Scale}
use Rattle.copy_laws.proofs.CopyLaw.{copied_sound, copied_value}
use Rattle.copy_laws.proofs.CopySteps.{are_apart}
use Rattle.chunk_laws.specs.Told.{HasNoFault}
use Rattle.copy_laws.proofs.CopyValues.{AreInOrder-copied_cells, none_anywhere}
use Rattle.copier.proofs.MarkSteps.{few_pass}
use Rattle.copier.specs.Held.{Held, IsApart, cells_of, work_of}
use Rattle.shard_writer.proofs.PlannedSteps.{chunk_by}
use Rattle.shard_writer.specs.Works as spared
use Rattle.shard_writer.specs.Writing.{PutsFront, joint_len}
use Rattle.shard_writer.specs.Works.{KnowsLens, PutsJobs, PutsSome, WritesAll, first_of_jobs, job_objects, told_objects}
use Rattle.shard_writer.specs.declared.written.Written.{Written}
use Rattle.shard_writer.specs.declared.written.WriteFault.{WriteFault}
use Rattle.shard_writer.specs.declared.written.WriteFault.TheVariants as writes
use Rattle.write_plan.specs.Pairs.{cell_count}
use Rattle.make_scale.specs.Making.{Puts, Wrote}
use Rattle.vol_base.specs.declared.outside.StoreRefusal.{StoreRefusal}
use Rattle.reshard_cmd.specs.Resharding.{PutsCopyFront, SparesFaulty, copy_fault, copy_list}
use Rattle.reshard_cmd.specs.Copies.{HasCopyJobs, said_copy}
use Rattle.reshard_cmd.proofs.FaultSteps.{first_is, none_is}
use Rattle.reshard_cmd.proofs.JobSteps.{as_many_jobs, job_by_job, objects_by_job, spared_by_job}

-- the copy is few cells,
pub few_copied : (m : Objects) (dataset : List ℕ) (from to : Scale) → cell_count to ≤ 2 ^ 22 → length (copied_cells m dataset from to) ≤ 2 ^ 22
unfolding copied_cells
few_copied m dataset from to few = few_pass to (is_copied m dataset from to) few

copy_chunks : (m : Objects) (dataset : List ℕ) (from to : Scale) → copy m dataset from to ≡ map (chunk_by (copied_raw m dataset from to)) (copied_cells m dataset from to)
unfolding copy
copy_chunks m dataset from to = refl

module _ (m : Objects) (h : Held) (to_dataset : List ℕ) (to : Scale) (scale : h.to ≡ to) (jobs : HasCopyJobs m h to) where
  abbrev copied : List (List ℕ)
  copied = copied_cells m h.dataset h.from to

  order : AreInOrder to copied
  order = AreInOrder-copied_cells m h.dataset h.from to

  -- its objects are those of the copier's jobs,
  pub copier_objects : job_objects to_dataset (work_of h) m ≡ copy_list m h.dataset h.from to_dataset to
  copier_objects =
      objects_by_job to_dataset h.to to (cells_of h) copied scale jobs order (copied_raw m h.dataset h.from)
      ∙ ap (stored_list to_dataset to) (sym (copy_chunks m h.dataset h.from to))

  -- and its first fault is theirs
  pub copier_fault : first_of_jobs (work_of h) m ≡ copy_fault m h.dataset h.from to
  copier_fault = job_by_job to_dataset h.to to (cells_of h) copied scale jobs order (λ s. first_some) (λ s cell. first_fault m h.dataset h.from (cell_box s cell))

  pub copier_count : length (cells_of h) ≡ length copied
  copier_count = as_many_jobs to_dataset h.to to (cells_of h) copied scale jobs order

  -- where there is a job, the target's folder isn't the source's
  pub copier_apart : any_under m (folder_of to_dataset to) ≡ false → IsApart h to_dataset to
  copier_apart none some =
      let count = copier_count in
      are_apart m h.dataset to_dataset h.from to none (omega (arith, count, some))

  -- the objects of jobs with a fault are those of the cells
  spares_of : (now : Option Objects) → spared.SparesFaulty to_dataset (work_of h) (Some m) now → SparesFaulty m now h.dataset h.from to_dataset to
  spares_of None spares = tt
  spares_of (Some n) spares = spared_by_job to_dataset h.to to (cells_of h) copied scale jobs order m n (λ s cell. first_fault m h.dataset h.from (cell_box s cell)) spares

  front_of : (now : Option Objects) → PutsSome to_dataset (work_of h) (Some m) now → spared.SparesFaulty to_dataset (work_of h) (Some m) now → PutsCopyFront m now h.dataset h.from to_dataset to
  front_of now front spares = (subst (λ list. PutsFront list m now) copier_objects front, spares_of now spares)

  module _ (volume : AreOfOneVolume h.from to) (few : cell_count to ≤ 2 ^ 22) (can : IsWritable to) (none : any_under m (folder_of to_dataset to) ≡ false) (all_bytes : HaveBytes m) where
    -- and what storing them answers is said of the copy
    pub copied_wrote : (now : Option Objects) (answer : Result Written WriteFault) → Wrote to_dataset (work_of h) m now answer → Puts (said_copy m now h.dataset h.from to_dataset to) answer
    copied_wrote now (Ok written) wrote =
        let sound = none_is m h.dataset h.from to volume (sym copier_fault ∙ wrote.answer) in
        let most = few_copied m h.dataset h.from to few in
        record {
          put = wrote.put ∙ ap (λ list. Some (put_in m list)) copier_objects;
          objects = wrote.objects ∙ ap length copier_objects;
          cells = wrote.cells ∙ copier_count;
          bytes = wrote.bytes ∙ ap joint_len copier_objects;
          source = sound;
          values = λ p c inside l. copied_value m h.dataset to_dataset h.from to volume most can none p c all_bytes sound inside l;
          target = λ cell is. copied_sound m h.dataset to_dataset h.from to volume most can none cell is;
        }
    copied_wrote now (Err writes.StoreFault) wrote = front_of now wrote.front wrote.spares
    copied_wrote now (Err writes.OutOfMemory) wrote = front_of now wrote.front wrote.spares
    copied_wrote now (Err (writes.Damaged cell fault)) wrote = (first_is m h.dataset h.from to cell fault (sym copier_fault ∙ wrote.answer), front_of now wrote.front wrote.spares)

-- the same of a copier that was made for a source and a target
module _ (m : Objects) (h : Held) (from_dataset : List ℕ) (from : Scale) (to_dataset : List ℕ) (to : Scale) (own : h.dataset ≡ from_dataset) (read : h.from ≡ from) (scale : h.to ≡ to) (made : cells_of h ≡ in_key_order to (copied_cells m from_dataset from to)) where
  jobs : HasCopyJobs m h to
  jobs =
      subst (λ s. cells_of h ≡ in_key_order to (copied_cells m h.dataset s to)) (sym read)
      (subst (λ name. cells_of h ≡ in_key_order to (copied_cells m name from to)) (sym own) made)

  pub due_in : job_objects to_dataset (work_of h) m ≡ copy_list m from_dataset from to_dataset to
  due_in =
      subst (λ s. job_objects to_dataset (work_of h) m ≡ copy_list m from_dataset s to_dataset to) read
      (subst (λ name. job_objects to_dataset (work_of h) m ≡ copy_list m name h.from to_dataset to) own (copier_objects m h to_dataset to scale jobs))

  pub apart_in : any_under m (folder_of to_dataset to) ≡ false → IsApart h to_dataset to
  apart_in none = copier_apart m h to_dataset to scale jobs none

  pub says_in : AreOfOneVolume from to → cell_count to ≤ 2 ^ 22 → IsWritable to → any_under m (folder_of to_dataset to) ≡ false → HaveBytes m
      → (now : Option Objects) (answer : Result Written WriteFault) → Wrote to_dataset (work_of h) m now answer → Puts (said_copy m now from_dataset from to_dataset to) answer
  says_in volume few can none bytes now answer wrote =
      subst (λ s. Puts (said_copy m now from_dataset s to_dataset to) answer) read
      (subst (λ name. Puts (said_copy m now name h.from to_dataset to) answer) own
      (copied_wrote m h to_dataset to scale jobs (subst (λ s. AreOfOneVolume s to) (sym read) volume) few can none bytes now answer wrote))

-- what is said of each copier that is made, over objects that are told
pub of_copier : (o : Option Objects) (r : Result Held StoreRefusal) (from_dataset : List ℕ) (from : Scale) (to_dataset : List ℕ) (to : Scale) (P : Objects → Held → Type 0) → IfOk r (λ h. h.dataset ≡ from_dataset) → IfOk r (λ h. h.from ≡ from)
    → IfOk r (λ h. h.to ≡ to) → IfOk r (λ h. IfSome o (λ m. cells_of h ≡ in_key_order to (copied_cells m from_dataset from to))) → IfSome o (λ m. any_under m (folder_of to_dataset to) ≡ false) → IfSome o HaveBytes
    → ((m : Objects) (h : Held) → h.dataset ≡ from_dataset → h.from ≡ from → h.to ≡ to → cells_of h ≡ in_key_order to (copied_cells m from_dataset from to) → any_under m (folder_of to_dataset to) ≡ false → HaveBytes m → P m h)
    → IfOk r (λ h. IfSome o (λ m. P m h))
of_copier o (Err refusal) from_dataset from to_dataset to P own read scale made none bytes f = tt
of_copier None (Ok h) from_dataset from to_dataset to P own read scale made none bytes f = tt
of_copier (Some m) (Ok h) from_dataset from to_dataset to P own read scale made none bytes f = f m h own read scale made none bytes

-- all is put, of a source that has no fault
pub front_whole : (m : Objects) (now : Option Objects) (from_dataset : List ℕ) (from : Scale) (to_dataset : List ℕ) (to : Scale) → PutsFront (copy_list m from_dataset from to_dataset to) m now → HasNoFault m from_dataset from
    → PutsCopyFront m now from_dataset from to_dataset to
front_whole m now from_dataset from to_dataset to front sound = (front, spares now)
  where
    spares : (now : Option Objects) → SparesFaulty m now from_dataset from to_dataset to
    spares None = tt
    spares (Some n) = λ cell listed faulty. absurd (faulty (none_anywhere m from_dataset from (cell_box to cell) sound))
