use Rattle.std.proofs.Common.{arith, rules, ℕ, List, ◌≡◌, ◌+◌, ◌-◌, ◌*◌, ◌/◌, ◌%◌, ◌<◌, ◌≤◌, ◌∙◌, ap, sym, subst, length, drop, slice_index, length-take, length-drop}
use Rattle.vol_spec.specs.SegBlocks.{block, width}
use Rattle.vol_spec.specs.SegShapes.{sizes_of}
use Rattle.segment_blocks.specs.Voxels.{row_of, voxel_of}
use Rattle.segment_blocks.proofs.Blocks.{lies}
use Rattle.segment_blocks.proofs.Shapes.{facts, limits}
use Rattle.segment_blocks.proofs.VoxelSteps.{row_in, row_more, row_small, row_within, rows_all}
use Rattle.segment_blocks.proofs.voxels.fill_voxels.Goals as goal
use borrow.Rule.Slice.PartMut.{put_mid}

pub find_row-from-requires : goal.find_row-from-requires
find_row-from-requires c =
    (length c.args.raw.now / width (sizes_of c.args.shape.now), lies (sizes_of c.args.shape.now) c.args.c c.args.k (length c.args.raw.now) c.args.b.now (limits c.args.shape.now) c.requires.channel c.requires.block c.requires.is c.requires.raw)

pub overflow_mul-r : goal.overflow_mul-r
overflow_mul-r c =
    let e = row_in (length c.args.voxels.now) c.args.b.now.block_x c.loop-r.r c.loop-r-test.true in
    let f = facts (sizes_of c.args.shape.now) (limits c.args.shape.now) in
    omega (arith, e, c.loop-r.auto.voxels, c.requires.voxels, f.voxels)

pub overflow_mul-r-in-loop-r : goal.overflow_mul-r-in-loop-r
overflow_mul-r-in-loop-r c =
    let e = row_in (length c.args.voxels.now) c.args.b.now.block_x c.loop-r.r c.loop-r-test.true in
    let f = facts (sizes_of c.args.shape.now) (limits c.args.shape.now) in
    omega (arith, e, c.loop-r.auto.voxels, c.requires.voxels, f.voxels)

pub overflow_add-r : goal.overflow_add-r
overflow_add-r c =
    let e = row_in (length c.args.voxels.now) c.args.b.now.block_x c.loop-r.r c.loop-r-test.true in
    let f = facts (sizes_of c.args.shape.now) (limits c.args.shape.now) in
    omega (arith, e, c.loop-r.auto.voxels, c.requires.voxels, f.voxels)

pub offset_bounds-voxels-r : goal.offset_bounds-voxels-r
offset_bounds-voxels-r c =
    let e = row_in (length c.args.voxels.now) c.args.b.now.block_x c.loop-r.r c.loop-r-test.true in
    let f = facts (sizes_of c.args.shape.now) (limits c.args.shape.now) in
    omega (arith, e, c.loop-r.auto.voxels, c.requires.voxels, f.voxels)

pub fill_row-requires-clause-within : goal.fill_row-requires-clause-within
fill_row-requires-clause-within c =
    let l = lies (sizes_of c.args.shape.now) c.args.c c.args.k (length c.args.raw.now) c.args.b.now (limits c.args.shape.now) c.requires.channel c.requires.block c.requires.is c.requires.raw in
    row_within (sizes_of c.args.shape.now) c.args.b.now (length c.args.raw.now) _ _ c.find_row-from.result l c.find_row-from.ensures

pub fill_row-requires-clause-small : goal.fill_row-requires-clause-small
fill_row-requires-clause-small c =
    let l = lies (sizes_of c.args.shape.now) c.args.c c.args.k (length c.args.raw.now) c.args.b.now (limits c.args.shape.now) c.requires.channel c.requires.block c.requires.is c.requires.raw in
    let at = row_small (sizes_of c.args.shape.now) c.args.b.now (length c.args.raw.now) _ _ c.find_row-from.result l c.find_row-from.ensures in
    let f = facts (sizes_of c.args.shape.now) (limits c.args.shape.now) in
    omega (arith, at, c.loop-r.auto.voxels, c.requires.voxels, f.voxels, length-take (c.loop-r.r * c.args.b.now.block_x + c.args.b.now.block_x - c.loop-r.r * c.args.b.now.block_x) (drop (c.loop-r.r * c.args.b.now.block_x) c.loop-r.voxels), length-drop (c.loop-r.r * c.args.b.now.block_x) c.loop-r.voxels)

pub slice_bounds-fill_row-end : goal.slice_bounds-fill_row-end
slice_bounds-fill_row-end c =
    let e = row_in (length c.args.voxels.now) c.args.b.now.block_x c.loop-r.r c.loop-r-test.true in
    let end : c.loop-r.r * c.args.b.now.block_x + c.args.b.now.block_x ≤ length c.loop-r.voxels = omega (arith, e, c.loop-r.auto.voxels) in
    let begin : c.loop-r.r * c.args.b.now.block_x ≤ c.loop-r.r * c.args.b.now.block_x + c.args.b.now.block_x = omega arith in
    search rules

pub loop-r-preserved : goal.loop-r-preserved
loop-r-preserved c =
    let s = sizes_of c.args.shape.now in
    let w : ℕ = c.args.b.now.block_x in
    let r : ℕ = c.loop-r.r in
    let ew : w ≡ block s 0 = c.requires.is.block_x in
    let e = row_in (length c.args.voxels.now) w r c.loop-r-test.true in
    let m : r * w + w - r * w ≡ w = omega arith in
    let old : List ℕ = c.loop-r.voxels in
    let new : List ℕ = c.fill_row.new.row in
    let ln : length new ≡ w = c.fill_row.auto.row ∙ omega (arith, e, c.loop-r.auto.voxels, length-take (r * w + w - r * w) (drop (r * w) old), length-drop (r * w) old) in
    let b = c.args.b.now in
    let here : c.find_row-from.result ≡ row_of b (r % b.block_y) (r / b.block_y) = c.find_row-from.ensures ∙ ap (λ q. row_of b q c.loop-r.line.z) c.loop-r.invariant.1 ∙ ap (λ q. row_of b (r % b.block_y) q) c.loop-r.invariant.2 in
    let all : (n : ℕ) → n < (r + 1) * block s 0 → slice_index (put_mid (r * block s 0) w old new) n ≡ voxel_of s c.args.raw.now c.args.c c.args.k c.args.padding n =
    row_more s c.args.raw.now c.args.c c.args.k c.args.b.now c.args.padding r w c.find_row-from.result old new (limits c.args.shape.now) c.requires.is here (c.loop-r.auto.voxels ∙ c.requires.voxels)
    (subst (λ q. r < q / block s 0) c.requires.voxels (subst (λ q. r < length c.args.voxels.now / q) ew c.loop-r-test.true)) ew ln
    (λ n l. c.loop-r.invariant.0 n (subst (λ q. n < r * q) (sym ew) l))
    (λ x lx. c.fill_row.ensures x (omega (arith, ln, c.fill_row.auto.row))) in (
      λ n ln2. ap (λ q. slice_index (put_mid (r * w) q old new) n) m ∙ ap (λ q. slice_index (put_mid (r * q) w old new) n) ew ∙ all n (subst (λ q. n < (r + 1) * q) ew ln2),
      c.find_next-line.ensures.y,
      c.find_next-line.ensures.z,
    )

pub returns : goal.returns
returns c =
    let s = sizes_of c.args.shape.now in
    let ew : c.args.b.now.block_x ≡ block s 0 = c.requires.is.block_x in
    rows_all s c.args.raw.now c.args.c c.args.k c.args.padding c.loop-r.r c.loop-r.voxels (limits c.args.shape.now) (c.loop-r.auto.voxels ∙ c.requires.voxels)
    (subst (λ q. q / block s 0 ≤ c.loop-r.r) c.requires.voxels (subst (λ q. length c.args.voxels.now / q ≤ c.loop-r.r) ew c.loop-r-test.false))
    (λ n l. c.loop-r.invariant.0 n (subst (λ q. n < c.loop-r.r * q) (sym ew) l))
