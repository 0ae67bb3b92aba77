use Rattle.chunk_grid.proofs.LayoutSteps.{clamped_product}
use Rattle.chunk_grid.proofs.layout.byte_len.Goals as goal

pub returns : goal.returns
returns c =
    let e2 = clamped_product _ _ _ _ _ c.saturating_mul.ensures c.saturating_mul-2.ensures in
    let e3 = clamped_product _ _ _ _ _ e2 c.saturating_mul-3.ensures in
    clamped_product _ _ _ _ _ e3 c.saturating_mul-4.ensures
