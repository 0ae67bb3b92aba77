-- Rows of an index that are judged and kept, one row on.
use Rattle.std.proofs.Common.{◌≡◌, ℕ, ◌+◌, ◌<◌, Bool, true, false, if◌then◌else◌, List, [], ◌∷◌, ◌++◌, slice_index, Option, Some, Result, Ok, Err, arith, refl, ap, ◌∙◌, sym, subst}
use Rattle.std.specs.Prelude.{⊤, cond}
use Rattle.std.proofs.lemmas.List.{append_assoc}
use Rattle.std.proofs.lemmas.List.FromFn.{filter_of_map_range_with_len_more}
use Rattle.vol_base.specs.declared.faults.Fault.{Fault}
use Rattle.vol_base.specs.declared.faults.IndexFault.{IndexFault}
use Rattle.vol_spec.specs.Rows.{Columns, id_at, judged_row, start_at}
use Rattle.vol_spec.specs.Verdicts.{belongs}
use Rattle.vol_spec.specs.declared.row.Row.{Row}
use Rattle.vol_spec.specs.declared.sharding.Sharding.{Sharding}
use Rattle.minishard.specs.Walks.{Progress, IsWalked}
use Rattle.index_judge.proofs.RowSteps.{first_here, none_more}
use Rattle.update_laws.proofs.KeptSteps.{ok_id}
use Rattle.update_laws.specs.Kept.{row_fault, rows_fault}
use Rattle.shard_keeper.specs.Keeping.{HasKept, Keeps, KeepsAll, KeepsRows, home_ids}
use Rattle.shard_keeper.specs.declared.fault.KeepFault.{KeepFault}
use Rattle.shard_keeper.specs.declared.fault.KeepFault.TheVariants.{NotRead, OutOfMemory, Damaged}

abbrev fault_at : Columns → ℕ → Option Fault
fault_at c r = row_fault (judged_row c r)

module _ (c : Columns) (sharding : Sharding) (shard m : ℕ) where
  more_ids : (n : ℕ) → home_ids c sharding shard m (n + 1) ≡ home_ids c sharding shard m n ++ cond (belongs sharding shard m (id_at c n)) (id_at c n ∷ []) []
  more_ids n = filter_of_map_range_with_len_more (belongs sharding shard m) (id_at c) 0 n n (omega arith)

  put_behind : (b : Bool) (first ids old : List ℕ) (id : ℕ) → ids ≡ first ++ old → (if b then ids ++ id ∷ [] else ids) ≡ first ++ (old ++ cond b (id ∷ []) [])
  put_behind true first ids old id e = ap (λ xs. xs ++ id ∷ []) e ∙ append_assoc first old (id ∷ [])
  put_behind false first ids old id e = e ∙ ap (λ xs. first ++ xs) (sym (nothing old))
    where
      nothing : (xs : List ℕ) → xs ++ [] ≡ xs
      nothing [] = refl
      nothing (x ∷ xs) = ap (λ ys. x ∷ ys) (nothing xs)

  -- behind a row without a fault
  pub kept_more : (first : List ℕ) (w v : Progress) (old new : List ℕ) (row : Row) → judged_row c w.rows ≡ Ok row → HasKept c sharding shard m first w old → IsWalked c v → v.rows ≡ w.rows + 1
      → new ≡ (if belongs sharding shard m row.id then old ++ row.id ∷ [] else old) → HasKept c sharding shard m first v new
  kept_more first w v old new row is had walked rows put =
      let id : row.id ≡ id_at c w.rows = ok_id w.rows (slice_index c.ids w.rows) (id_at c w.rows) (start_at c w.rows) (slice_index c.sizes w.rows) row is in
      record {
        walked = walked;
        sound = ap (rows_fault c) rows ∙ none_more (fault_at c) w.rows had.sound (ap row_fault is);
        behind = put ∙ ap (λ x. if belongs sharding shard m x then old ++ x ∷ [] else old) id
            ∙ put_behind (belongs sharding shard m (id_at c w.rows)) first old (home_ids c sharding shard m w.rows) (id_at c w.rows) had.behind
            ∙ ap (λ xs. first ++ xs) (sym (more_ids w.rows) ∙ ap (home_ids c sharding shard m) (sym rows));
      }

  -- at a row with a fault
  pub fault_here : (first : List ℕ) (n : ℕ) (w : Progress) (old : List ℕ) (fault : IndexFault) (it : Fault) → judged_row c w.rows ≡ Err fault → w.rows < n → HasKept c sharding shard m first w old
      → row_fault (Err fault) ≡ Some it → rows_fault c n ≡ Some it
  fault_here first n w old fault it is below had same = first_here (fault_at c) n w.rows it below had.sound (ap row_fault is ∙ same)

  -- what going over rows said, by its result
  pub all_kept : (first : List ℕ) (n : ℕ) (r : Result ⊤ KeepFault) (done : ⊤) (w : Progress) (ids : List ℕ) → r ≡ Ok done → Keeps c sharding shard m first n r w ids → HasKept c sharding shard m first w ids
  all_kept first n r done w ids is h = subst (λ x. Keeps c sharding shard m first n x w ids) is h

  stops : (first : List ℕ) (n : ℕ) (fault : KeepFault) (w v : Progress) (ids any : List ℕ) → Keeps c sharding shard m first n (Err fault) w ids → Keeps c sharding shard m first n (Err fault) v any
  stops first n NotRead w v ids any h = tt
  stops first n OutOfMemory w v ids any h = tt
  stops first n (Damaged fault) w v ids any h = h

  pub stopped : (first : List ℕ) (n : ℕ) (r : Result ⊤ KeepFault) (fault : KeepFault) (w v : Progress) (ids any : List ℕ) → r ≡ Err fault → Keeps c sharding shard m first n r w ids → Keeps c sharding shard m first n (Err fault) v any
  stopped first n r fault w v ids any is h = stops first n fault w v ids any (subst (λ x. Keeps c sharding shard m first n x w ids) is h)

  ends : (first : List ℕ) (n : ℕ) (fault : KeepFault) (w : Progress) (ids any : List ℕ) → Keeps c sharding shard m first n (Err fault) w ids → KeepsRows c sharding shard m first n (Err fault) any
  ends first n NotRead w ids any h = tt
  ends first n OutOfMemory w ids any h = tt
  ends first n (Damaged fault) w ids any h = h

  pub ended : (first : List ℕ) (n : ℕ) (r : Result ⊤ KeepFault) (fault : KeepFault) (w : Progress) (ids any : List ℕ) → r ≡ Err fault → Keeps c sharding shard m first n r w ids → KeepsRows c sharding shard m first n (Err fault) any
  ended first n r fault w ids any is h = ends first n fault w ids any (subst (λ x. Keeps c sharding shard m first n x w ids) is h)

  -- before the first row
  pub kept_none : (first : List ℕ) (w : Progress) → w ≡ record { rows = 0; id = 0; end = 0 } → HasKept c sharding shard m first w first
  kept_none first w is = subst (λ w. HasKept c sharding shard m first w first) (sym is) (record { walked = record { id = refl; end = refl }; sound = refl; behind = sym (nothing first) })
    where
      nothing : (xs : List ℕ) → xs ++ [] ≡ xs
      nothing [] = refl
      nothing (x ∷ xs) = ap (λ ys. x ∷ ys) (nothing xs)

  -- behind the last one
  pub kept_last : (first : List ℕ) (n : ℕ) (w : Progress) (ids : List ℕ) → w.rows ≡ n → HasKept c sharding shard m first w ids → KeepsAll c sharding shard m first n ids
  kept_last first n w ids all had = record {
    sound = ap (rows_fault c) (sym all) ∙ had.sound;
    behind = had.behind ∙ ap (λ k. first ++ home_ids c sharding shard m k) all;
  }

  -- the store wasn't read
  pub not_kept : (first : List ℕ) (n : ℕ) (fault : KeepFault) (ids : List ℕ) → fault ≡ NotRead → KeepsRows c sharding shard m first n (Err fault) ids
  not_kept first n fault ids is = subst (λ f. KeepsRows c sharding shard m first n (Err f) ids) (sym is) tt
