-- The cells of the jobs of a plan are those that some write meets.
use Rattle.std.proofs.Common.{◌≡◌, ◌≢◌, ℕ, true, false, List, length, get_or, refl, ap, ◌∙◌, sym, subst}
use Rattle.std.specs.Prelude.{AllPairs}
use Rattle.std.specs.Cmp.Lexicographic.{slice_cmp}
use Rattle.std.specs.Ordering.{is_eq, nat_cmp}
use Rattle.std.specs.declared.cmp.Ordering.TheVariants.{Less}
use Rattle.std.proofs.lemmas.Map.Text.{is_eq-slice_cmp}
use Rattle.std.proofs.lemmas.Slice.Eq.{bytes_eq-Decides}
use Rattle.vol_spec.specs.Grid.{cells_on, numbers_on}
use Rattle.vol_spec.specs.StoredCells.{met, met_cells}
use Rattle.vol_spec.specs.StoredLists.{cell_key, in_key_order}
use Rattle.vol_spec.specs.Types.{Writes}
use Rattle.vol_spec.specs.declared.scale.Scale.{Scale}
use Rattle.chunk_grid.proofs.ListingSteps.{Contains-filter, Contains-numbers_on}
use Rattle.chunk_grid.proofs.OrderSteps.{AreInOrder-met_cells}
use Rattle.chunk_grid.proofs.StoredSteps.{met-listed}
use Rattle.write_plan.proofs.KeySteps.{cells_back, from_key_order, to_key_order}
use Rattle.write_plan.specs.Jobs.{cells_in, jobs_of}
use Rattle.write_plan.specs.PlanLaws.{met_jobs}
use Rattle.cell_lists.specs.Counted.{Counts}
use Rattle.cell_lists.specs.Lists.{Lists}
use Rattle.cell_lists.specs.declared.found.FoundCells.{FoundCells}

not_less : (k : List ℕ) → slice_cmp nat_cmp k k ≡ Less → ⊥
not_less k e =
    let equal : is_eq (slice_cmp nat_cmp k k) ≡ true = is_eq-slice_cmp k k ∙ (bytes_eq-Decides k k).1 refl in
    let not_equal : is_eq (slice_cmp nat_cmp k k) ≡ false = ap is_eq e in
    absurd (cc (sym equal ∙ not_equal))

module _ (s : Scale) (writes : Writes) where
  apart : AllPairs (λ a b. a ≢ b) (in_key_order s (met_cells s writes))
  apart i j d before low same =
      not_less (cell_key s (get_or (in_key_order s (met_cells s writes)) j d)) (subst (λ c. slice_cmp nat_cmp (cell_key s c) (cell_key s (get_or (in_key_order s (met_cells s writes)) j d)) ≡ Less) same ((met_jobs s writes).rising i j d before low))

  met_lists : Lists s (met s writes) (in_key_order s (met_cells s writes))
  unfolding met_cells
  met_lists = record {
    each = (met_jobs s writes).each;
    distinct = apart;
    pass = λ cell c. met-listed s writes cell (from_key_order s (met_cells s writes) cell c);
    all = λ cell is e. to_key_order s (met_cells s writes) cell (AreInOrder-met_cells s writes).each (Contains-filter (met s writes) (numbers_on (cells_on s)) cell (Contains-numbers_on s cell is) e);
  }

  pub met_counted : (found : FoundCells) → found.cells.items ≡ cells_in (jobs_of s (in_key_order s (met_cells s writes))) → found.count ≡ length found.cells.items → Counts s (met s writes) found
  met_counted found are count = record {
    all = in_key_order s (met_cells s writes);
    listed = met_lists;
    counted = count ∙ ap length (are ∙ cells_back s (in_key_order s (met_cells s writes)));
    kept = λ few. are ∙ cells_back s (in_key_order s (met_cells s writes));
  }
