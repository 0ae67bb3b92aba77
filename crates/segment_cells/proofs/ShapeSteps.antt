-- A cell's segmentation chunk keeps the limits of a shape.
use Rattle.std.proofs.Common.{◌≡◌, ℕ, zero, suc, ◌*◌, ◌^◌, ◌≤◌, ◌==◌, min, List, ap, ◌∙◌, subst, arith, lit<}
use Rattle.vol_base.specs.Grids.{AreSizes}
use Rattle.vol_base.specs.Boxes.{size}
use Rattle.vol_spec.specs.Grid.{IsCell, cell_box}
use Rattle.vol_spec.specs.Limits.{first_bytes, padded_of, padded_voxels}
use Rattle.vol_spec.specs.Raw.{raw_len}
use Rattle.vol_spec.specs.SegSizes.{width_of}
use Rattle.vol_spec.specs.declared.encoding.Encoding.{Encoding}
use Rattle.vol_spec.specs.declared.encoding.Encoding.TheVariants.{Seg}
use Rattle.vol_spec.specs.declared.scale.Scale.{Scale}
use Rattle.chunk_grid.proofs.GridSteps.{cell_box-short}
use Rattle.segment_cells.proofs.SegSteps.{padded_short, size_limits, width_is}

clipped : (a b c n w : ℕ) → min a a * min b b * min c c * n * w ≡ a * b * c * n * w
clipped a b c n w =
    let same = λ (m : ℕ). let e : min m m ≡ m = omega arith in e in
    ap (λ v. v * min b b * min c c * n * w) (same a) ∙ ap (λ v. a * v * min c c * n * w) (same b) ∙ ap (λ v. a * b * v * n * w) (same c)

module _ (s : Scale) (cell block : List ℕ) (seg : s.encoding ≡ Seg block) where
  pub sizes : IsCell s cell → AreSizes (cell_box s cell).size
  sizes is zero h = let l = size_limits s cell block seg is 0 (lit< tt) in (l.0, l.1)
  sizes is (suc zero) h = let l = size_limits s cell block seg is 1 (lit< tt) in (l.0, l.1)
  sizes is (suc (suc zero)) h = let l = size_limits s cell block seg is 2 (lit< tt) in (l.0, l.1)
  sizes is (suc (suc (suc n))) h = absurd (omega arith)

  pub padded : padded_voxels block s.channels (cell_box s cell).size (cell_box s cell).size ≤ 2 ^ 24
  padded =
      let short = padded_short s cell block (λ axis l. (s.block_ok block seg axis l).0) in
      let most = subst (λ (e : Encoding). padded_of e s.channels s.size s.chunk ≤ 2 ^ 24) seg s.padded_ok in
      omega (arith, short, most)

  pub raw : first_bytes (width_of (s.width == 8)) s.channels (cell_box s cell).size (cell_box s cell).size ≤ 2 ^ 27
  raw =
      let b = cell_box s cell in
      let short = cell_box-short s cell in
      let same : first_bytes (width_of (s.width == 8)) s.channels b.size b.size ≡ raw_len b s.channels s.width =
      clipped (size b 0) (size b 1) (size b 2) s.channels (width_of (s.width == 8)) ∙ ap (λ w. size b 0 * size b 1 * size b 2 * s.channels * w) (width_is s cell block seg) in
      omega (arith, short, same, s.first_ok)
