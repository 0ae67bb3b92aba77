-- A cell that no write meets.
use Rattle.std.proofs.Common.{◌≡◌, ℕ, false, List, length, sym, subst, ◌∙◌, ap}
use Rattle.vol_base.specs.Boxes.{Covers}
use Rattle.vol_base.specs.Bytes.{AreBytes}
use Rattle.vol_spec.specs.Encodings.{raw_size}
use Rattle.vol_spec.specs.Grid.{IsCell, cell_at, cell_box}
use Rattle.vol_spec.specs.Raw.{raw_at}
use Rattle.vol_spec.specs.StoredCells.{met}
use Rattle.vol_spec.specs.Types.{Writes}
use Rattle.vol_spec.specs.declared.scale.Scale.{Scale}
use Rattle.vol_spec.proofs.RawSteps.{is_written_raw}
use Rattle.chunk_grid.proofs.GridSteps.{cell_at-only, cell_box-IsSome, cell_box-Within}
use Rattle.chunk_grid.proofs.StoredSteps.{last_unmet}
use Rattle.update_laws.specs.Overlaid.{overlaid}

-- where no write meets a cell, its bytes stay
pub overlaid_unmet : (s : Scale) (writes : Writes) (cell bytes : List ℕ) → IsCell s cell → met s writes cell ≡ false → AreBytes bytes → length bytes ≡ raw_size s cell → overlaid s writes cell bytes ≡ bytes
overlaid_unmet s writes cell bytes is unmet small len =
    sym (is_written_raw s (raw_at (cell_box s cell) s.width bytes) writes cell bytes (cell_box-IsSome s cell is) len small
    (λ p c covered h.
    let here : cell ≡ cell_at s p = cell_at-only s p cell is.axes covered in
    sym (last_unmet s (raw_at (cell_box s cell) s.width bytes) writes p c (cell_box-Within s cell p covered) (ap (met s writes) (sym here) ∙ unmet))))
