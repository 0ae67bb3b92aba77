-- Pairs of writes and the cells that they meet.
use Rattle.std.proofs.Common.{◌≡◌, ◌↔◌, ⊎_elim, ℕ, ◌<◌, ◌≤◌, length, Ok, Err, refl}
use Rattle.std.proofs.lemmas.Bool.{cases_lt}
use Rattle.vol_spec.specs.StoredCells.{met_cells}
use Rattle.vol_spec.specs.Types.{Writes}
use Rattle.vol_spec.specs.declared.scale.Scale.{Scale}
use Rattle.write_plan.specs.Plans.{pairs, Planned}
use Rattle.write_plan.specs.declared.plan.PlanRefusal.TheVariants as refusals
use Rattle.view_writer.proofs.PlanSteps as views

-- no more cells are met than there are pairs of a write and a cell that it meets
pub few_cells : (s : Scale) (ws : Writes) → length (met_cells s ws) ≤ pairs s ws
few_cells s ws = views.few_cells s ws

-- a plan has few pairs
pub few_pairs : (plan : Planned) (count n : ℕ) → ((cells : ℕ) → (Ok plan ≡ Err (refusals.TooManyCells cells)) ↔ ((n < count) × (cells ≡ count))) → count ≤ n
few_pairs plan count n exact =
    ⊎_elim (λ (more : n < count). let e : Ok plan ≡ Err (refusals.TooManyCells count) = (exact count).1 (more, refl) in cc e) (λ (few : count ≤ n). few) (cases_lt n count)
