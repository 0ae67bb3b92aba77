-- The jobs of a scale that is made of another one, one for each cell that is made, in the order of their keys: what they are stored as.
use Rattle.std.proofs.Common.{◌≡◌, ◌≢◌, ◌∙◌, ℕ, ◌+◌, ◌<◌, List, [], length, map, get_or, Option, None, ap, sym, subst, arith}
use Rattle.std.specs.Prelude.{Contains}
use Rattle.std.specs.FinMap as fin
use Rattle.std.specs.List.{range_with_len}
use Rattle.std.proofs.lemmas.List.{get_or_default}
use Rattle.vol_base.specs.Outside.{Objects}
use Rattle.vol_base.specs.declared.faults.Fault.{Fault}
use Rattle.vol_spec.specs.StoredBytes.{object_of}
use Rattle.vol_spec.specs.StoredCells.{AreInOrder, cell_of}
use Rattle.vol_spec.specs.StoredLists.{in_key_order, stored_list}
use Rattle.vol_spec.specs.Types.{Bytes, Cell, Name}
use Rattle.vol_spec.specs.declared.scale.Scale.{Scale}
use Rattle.shard_writer.proofs.PlannedSteps.{by_place, chunk_by, stored_by_key}
use Rattle.write_plan.proofs.KeySteps.{distinct_cells, length-in_key_order, to_key_order}

module _ (dataset : Name) (was to : Scale) (held made : List Cell) (scale : was ≡ to) (jobs : held ≡ in_key_order to made) (order : AreInOrder to made) where
  same : (i : ℕ) → i < length held → get_or held (0 + i) [] ≡ get_or held i []
  same i l = let z : 0 + i ≡ i = omega arith in ap (λ k. get_or held k []) z

  -- what is listed by the jobs is listed by the cells,
  pub job_by_job : {A B : Type 0} (F : Scale → List A → B) (f : Scale → Cell → A) → F was (map (λ job. f was (cell_of held job)) (range_with_len 0 (length held))) ≡ F to (map (f to) (in_key_order to made))
  job_by_job F f = ap (F was) (by_place (f was) held held [] 0 same) ∙ ap (λ s. F s (map (f s) held)) scale ∙ ap (λ cells. F to (map (f to) cells)) jobs

  -- so the objects are those of the cells' chunks,
  pub objects_by_job : (raw : Scale → Cell → Bytes) → stored_list dataset was (map (λ job. chunk_by (raw was) (cell_of held job)) (range_with_len 0 (length held))) ≡ stored_list dataset to (map (chunk_by (raw to)) made)
  objects_by_job raw = job_by_job (stored_list dataset) (λ s. chunk_by (raw s)) ∙ stored_by_key dataset to (raw to) made order

  -- there are as many,
  pub as_many_jobs : length held ≡ length made
  as_many_jobs = ap length jobs ∙ length-in_key_order to made order.each (distinct_cells to made order)

  -- and the objects of jobs with a fault are those of the cells
  pub spared_by_job : (m n : Objects) (fault : Scale → Cell → Option (Cell × Fault)) → ((job : ℕ) → job < length held → fault was (cell_of held job) ≢ None → fin.get n (object_of dataset was (cell_of held job)) ≡ fin.get m (object_of dataset was (cell_of held job)))
      → (cell : Cell) → Contains made cell → fault to cell ≢ None → fin.get n (object_of dataset to cell) ≡ fin.get m (object_of dataset to cell)
  spared_by_job m n fault spares cell listed faulty =
      let (k, low, at) = subst (λ cells. Contains cells cell) (sym jobs) (to_key_order to made cell order.each listed) in
      let is : cell_of held k ≡ cell = get_or_default held k [] cell low ∙ at in
      let kept = spares k low (λ none. faulty (ap (λ s. fault s cell) (sym scale) ∙ ap (fault was) (sym is) ∙ none)) in
      subst (λ s. fin.get n (object_of dataset s cell) ≡ fin.get m (object_of dataset s cell)) scale
      (subst (λ c. fin.get n (object_of dataset was c) ≡ fin.get m (object_of dataset was c)) is kept)
