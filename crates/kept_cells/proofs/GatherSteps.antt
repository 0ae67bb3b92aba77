-- What is gathered are the cells that are stored.
use Rattle.std.proofs.Common.{◌≡◌, ◌∙◌, ◌^◌, ◌≤◌, ◌||◌, length, Bool, List, ℕ, Option, Some, None, IfSome, ap, sym, subst, arith}
use Rattle.std.specs.Prelude.{⊤, Result, Ok, Err}
use Rattle.vol_base.specs.Outside.{Objects}
use Rattle.vol_spec.specs.StoredCells.{met, met_cells}
use Rattle.vol_spec.specs.Types.{Name, Writes}
use Rattle.vol_spec.specs.declared.scale.Scale.{Scale}
use Rattle.vol_spec.specs.declared.sharding.Sharding.{Sharding}
use Rattle.update_laws.proofs.JudgedSteps.{all_kept, kept_test, unsharded_test}
use Rattle.update_laws.specs.Judged.{refusal_by, refusal_in, touched_shards}
use Rattle.update_laws.specs.Overlaid.{is_after}
use Rattle.cell_lists.proofs.CountSteps.{Counts-same}
use Rattle.cell_lists.proofs.ListSteps.{Lists-count}
use Rattle.cell_lists.specs.Counted.{Counts}
use Rattle.cell_lists.specs.Lists.{Lists}
use Rattle.cell_lists.specs.declared.found.FoundCells.{FoundCells}
use Rattle.kept_cells.specs.Gathered.{Gathers}
use Rattle.kept_cells.specs.Touched.{JudgesTouched, is_with}
use Rattle.kept_cells.specs.declared.fault.KeepRefusal.{KeepRefusal}
use Rattle.kept_cells.specs.declared.fault.KeepRefusal.TheVariants.{NotRead, OutOfMemory, BadShard, TooManyCells}

-- the cells that are met are few
pub few_met : (s : Scale) (writes : Writes) (found : FoundCells) → Counts s (met s writes) found → length (met_cells s writes) ≤ 2 ^ 22 → found.count ≤ 2 ^ 22
unfolding met_cells
few_met s writes found h few = let same = Lists-count s (met s writes) h.all h.listed in omega (arith, few, same, h.counted)

-- while the cells are few, those that are counted are listed
listed : (s : Scale) (test : List ℕ → Bool) (found : FoundCells) → found.count ≤ 2 ^ 22 → Counts s test found → Lists s test found.cells.items
listed s test found few h = subst (Lists s test) (sym (h.kept few)) h.listed

module _ (dataset : Name) (s : Scale) (writes : Writes) where
  -- in a sharded scale
  sharded_one : (m : Objects) (sharding : Sharding) (r : Result ⊤ KeepRefusal) (found : FoundCells) → s.sharding ≡ Some sharding → JudgesTouched m dataset s sharding writes r found → Gathers r (λ _. Counts s (is_after m dataset s writes) found) m dataset s writes
  unfolding refusal_in
  sharded_one m sharding (Ok done) found is h = (
    ap (λ o. refusal_by o m dataset s writes) is ∙ h.sound,
    Counts-same s (is_with m dataset s sharding writes (touched_shards s sharding writes)) (is_after m dataset s writes) found
        (λ c own. ap (λ b. met s writes c || b) (kept_test m dataset s sharding is writes (all_kept m dataset s sharding is writes h.sound) c own)) h.counted,
  )
  sharded_one m sharding (Err NotRead) found is h = tt
  sharded_one m sharding (Err OutOfMemory) found is h = tt
  sharded_one m sharding (Err (BadShard shard minishard fault)) found is h = ap (λ o. refusal_by o m dataset s writes) is ∙ h
  sharded_one m sharding (Err (TooManyCells cells)) found is h = ap (λ o. refusal_by o m dataset s writes) is ∙ h

  pub sharded_lists : (o : Option Objects) (sharding : Sharding) (r : Result ⊤ KeepRefusal) (done : ⊤) (found : FoundCells) → s.sharding ≡ Some sharding → r ≡ Ok done → found.count ≤ 2 ^ 22 → IfSome o (λ m. JudgesTouched m dataset s sharding writes r found)
      → IfSome o (λ m. (refusal_in m dataset s writes ≡ None) × Lists s (is_after m dataset s writes) found.cells.items)
  sharded_lists None sharding r done found is ok few h = tt
  sharded_lists (Some m) sharding r done found is ok few h =
      let all = sharded_one m sharding (Ok done) found is (subst (λ r. JudgesTouched m dataset s sharding writes r found) ok h) in
      (all.0, listed s (is_after m dataset s writes) found few all.1)

  refused_alike : {A : Type 0} (Is : A → Type 0) (m : Objects) (found : FoundCells) (refusal : KeepRefusal) → Gathers {A = ⊤} (Err refusal) (λ _. Counts s (is_after m dataset s writes) found) m dataset s writes → Gathers {A = A} (Err refusal) Is m dataset s writes
  refused_alike Is m found NotRead h = h
  refused_alike Is m found OutOfMemory h = h
  refused_alike Is m found (BadShard shard minishard fault) h = h
  refused_alike Is m found (TooManyCells cells) h = h

  pub sharded_refused : {A : Type 0} (like : A) (Is : Objects → A → Type 0) (o : Option Objects) (sharding : Sharding) (r : Result ⊤ KeepRefusal) (refusal : KeepRefusal) (found : FoundCells) → s.sharding ≡ Some sharding → r ≡ Err refusal → IfSome o (λ m. JudgesTouched m dataset s sharding writes r found)
      → IfSome o (λ m. Gathers {A = A} (Err refusal) (Is m) m dataset s writes)
  sharded_refused like Is None sharding r refusal found is err h = tt
  sharded_refused like Is (Some m) sharding r refusal found is err h =
      refused_alike (Is m) m found refusal (sharded_one m sharding (Err refusal) found is (subst (λ r. JudgesTouched m dataset s sharding writes r found) err h))

  -- in an unsharded one
  plain_one : (m : Objects) (found : FoundCells) → s.sharding ≡ None → Counts s (met s writes) found → found.count ≤ 2 ^ 22 → (refusal_in m dataset s writes ≡ None) × Lists s (is_after m dataset s writes) found.cells.items
  unfolding refusal_in
  plain_one m found is h few = (
    ap (λ o. refusal_by o m dataset s writes) is,
    listed s (is_after m dataset s writes) found few (Counts-same s (met s writes) (is_after m dataset s writes) found (λ c own. sym (unsharded_test m dataset s writes is c own)) h),
  )

  pub plain_lists : (o : Option Objects) (found : FoundCells) → s.sharding ≡ None → Counts s (met s writes) found → found.count ≤ 2 ^ 22 → IfSome o (λ m. (refusal_in m dataset s writes ≡ None) × Lists s (is_after m dataset s writes) found.cells.items)
  plain_lists None found is h few = tt
  plain_lists (Some m) found is h few = plain_one m found is h few
