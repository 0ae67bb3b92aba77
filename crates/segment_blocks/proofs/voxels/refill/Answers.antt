use Rattle.std.proofs.Common.{rules, ◌∙◌, ap, length}
use Rattle.std.proofs.lemmas.List.FromFn.{length-map-range_with_len}
use Rattle.vol_spec.specs.SegBlocks.{block_voxels}
use Rattle.vol_spec.specs.SegShapes.{sizes_of}
use Rattle.segment_blocks.specs.Voxels.{voxel_of}
use Rattle.segment_blocks.proofs.Ones.{full_same}
use Rattle.segment_blocks.proofs.Shapes.{limits}
use Rattle.segment_blocks.proofs.voxels.refill.Goals as goal

pub returns-then-not-test_padding : goal.returns-then-not-test_padding
returns-then-not-test_padding c =
    let e = c.test_padding.ensures (search rules) in
    c.requires.voxels ∙ full_same (sizes_of c.args.shape.now) c.args.raw.now c.args.c c.args.k c.args.was c.args.padding c.args.b.now (limits c.args.shape.now) c.requires.is e.0 e.1 e.2

pub fill_voxels-requires-clause-voxels : goal.fill_voxels-requires-clause-voxels
fill_voxels-requires-clause-voxels c = ap length c.requires.voxels ∙ length-map-range_with_len (voxel_of (sizes_of c.args.shape.now) c.args.raw.now c.args.c c.args.k c.args.was) 0 (block_voxels (sizes_of c.args.shape.now))
