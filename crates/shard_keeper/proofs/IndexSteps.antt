-- The index of a minishard, by the object of its shard.
use Rattle.std.proofs.Common.{◌≡◌, ℕ, ◌+◌, ◌*◌, ◌≤◌, List, ◌++◌, length, true, Option, None, Some, IfSome, Result, Ok, Err, refl, ap, ◌∙◌, sym, subst}
use Rattle.std.specs.FinMap as map
use Rattle.vol_base.specs.Outside.{Objects, part}
use Rattle.vol_spec.specs.Rows.{columns_of}
use Rattle.vol_spec.specs.declared.sharding.Sharding.{Sharding}
use Rattle.shard_reader.specs.Reading.{OnIndex}
use Rattle.index_judge.specs.Judging.{IsOpened, Opens}
use Rattle.shard_reader.specs.declared.span.IndexSpan.{IndexSpan}
use Rattle.index_judge.specs.declared.fault.JudgeFault.{JudgeFault}
use Rattle.update_laws.specs.Kept.{fault_behind, minishard_fault, rows_fault}
use Rattle.shard_keeper.specs.Keeping.{KeepsAll, KeepsIndex, KeepsRows, home_ids, ids_behind, index_ids}
use Rattle.shard_keeper.specs.declared.fault.KeepFault.{KeepFault}
use Rattle.shard_keeper.specs.declared.fault.KeepFault.TheVariants.{NotRead, OutOfMemory, Damaged}

module _ (sharding : Sharding) (shard m : ℕ) where
  fault_by_rows : (object : List ℕ) (at count : ℕ) → IsOpened sharding m object at count → minishard_fault object sharding m ≡ rows_fault (columns_of (part object at (24 * count))) count
  fault_by_rows object at count is = ap (fault_behind object sharding m) is.rows ∙ ap (λ xs. rows_fault (columns_of xs) count) (sym is.bytes)

  ids_by_rows : (object : List ℕ) (at count : ℕ) → IsOpened sharding m object at count → index_ids object sharding shard m ≡ home_ids (columns_of (part object at (24 * count))) sharding shard m count
  ids_by_rows object at count is = ap (ids_behind object sharding shard m) is.rows ∙ ap (λ xs. home_ids (columns_of xs) sharding shard m count) (sym is.bytes)

  by_rows : (found : Option (List ℕ)) (span : IndexSpan) (first ids : List ℕ) → Opens sharding m found (Ok (Some span))
      → ((object : List ℕ) → found ≡ Some object → span.at + 24 * span.rows ≤ length object → KeepsAll (columns_of (part object span.at (24 * span.rows))) sharding shard m first span.rows ids)
      → KeepsIndex found sharding shard m first (Ok true) ids
  by_rows None span first ids h keeps = absurd h
  by_rows (Some object) span first ids h keeps =
      let all = keeps object refl h.fits in
      record {
        sound = fault_by_rows object span.at span.rows h ∙ all.sound;
        behind = all.behind ∙ ap (λ xs. first ++ xs) (sym (ids_by_rows object span.at span.rows h));
      }

  by_fault : (found : Option (List ℕ)) (span : IndexSpan) (first ids any : List ℕ) (fault : KeepFault) → Opens sharding m found (Ok (Some span))
      → ((object : List ℕ) → found ≡ Some object → span.at + 24 * span.rows ≤ length object → KeepsRows (columns_of (part object span.at (24 * span.rows))) sharding shard m first span.rows (Err fault) ids)
      → KeepsIndex found sharding shard m first (Err fault) any
  by_fault None span first ids any fault h keeps = absurd h
  by_fault (Some object) span first ids any NotRead h keeps = tt
  by_fault (Some object) span first ids any OutOfMemory h keeps = tt
  by_fault (Some object) span first ids any (Damaged fault) h keeps = fault_by_rows object span.at span.rows h ∙ keeps object refl h.fits

  pub rows_kept : (o now : Option Objects) (name : List ℕ) (r : Result (Option IndexSpan) JudgeFault) (found : Option IndexSpan) (span : IndexSpan) (first ids : List ℕ) → r ≡ Ok found → found ≡ Some span → now ≡ o
      → IfSome o (λ objects. Opens sharding m (map.get objects name) r)
      → OnIndex now name span.at span.rows (λ bytes. KeepsAll (columns_of bytes) sharding shard m first span.rows ids)
      → IfSome o (λ objects. KeepsIndex (map.get objects name) sharding shard m first (Ok true) ids)
  rows_kept None now name r found span first ids is some same h keeps = tt
  rows_kept (Some objects) now name r found span first ids is some same h keeps =
      by_rows (map.get objects name) span first ids (subst (Opens sharding m (map.get objects name)) (is ∙ ap Ok some) h)
      (subst (λ o. OnIndex o name span.at span.rows (λ bytes. KeepsAll (columns_of bytes) sharding shard m first span.rows ids)) same keeps)

  pub fault_told : (o now : Option Objects) (name : List ℕ) (r : Result (Option IndexSpan) JudgeFault) (found : Option IndexSpan) (span : IndexSpan) (first ids any : List ℕ) (fault : KeepFault) → r ≡ Ok found → found ≡ Some span → now ≡ o
      → IfSome o (λ objects. Opens sharding m (map.get objects name) r)
      → OnIndex now name span.at span.rows (λ bytes. KeepsRows (columns_of bytes) sharding shard m first span.rows (Err fault) ids)
      → IfSome o (λ objects. KeepsIndex (map.get objects name) sharding shard m first (Err fault) any)
  fault_told None now name r found span first ids any fault is some same h keeps = tt
  fault_told (Some objects) now name r found span first ids any fault is some same h keeps =
      by_fault (map.get objects name) span first ids any fault (subst (Opens sharding m (map.get objects name)) (is ∙ ap Ok some) h)
      (subst (λ o. OnIndex o name span.at span.rows (λ bytes. KeepsRows (columns_of bytes) sharding shard m first span.rows (Err fault) ids)) same keeps)
