use Rattle.std.proofs.Common.{◌^◌, ◌≤◌, ◌==◌, sym, subst}
use Rattle.vol_base.specs.Grids.{AreSizes}
use Rattle.vol_base.specs.declared.boxes.Box3.{Box3}
use Rattle.vol_spec.specs.Limits.{first_bytes, padded_voxels}
use Rattle.vol_spec.specs.SegSizes.{width_of}
use Rattle.segment_cells.proofs.ShapeSteps.{padded, raw, sizes}
use Rattle.segment_cells.proofs.shapes.shape_of.Goals as goal

pub invariant_of-result : goal.invariant_of-result
invariant_of-result c =
    let s = c.args.scale.now in
    let is = sym c.cell_box.ensures.positions in
    record {
      size_ok = subst (λ (b : Box3). AreSizes b.size) is (sizes s c.args.cell c.args.block c.requires.block c.requires.cell);
      block_ok = s.block_ok c.args.block c.requires.block;
      some_channels = s.some_channels;
      channels_ok = s.channels_ok;
      padded_ok = subst (λ (b : Box3). padded_voxels c.args.block s.channels b.size b.size ≤ 2 ^ 24) is (padded s c.args.cell c.args.block c.requires.block);
      raw_ok = subst (λ (b : Box3). first_bytes (width_of (s.width == 8)) s.channels b.size b.size ≤ 2 ^ 27) is (raw s c.args.cell c.args.block c.requires.block);
    }
