use Rattle.std.proofs.Common.{arith, ap, refl, subst, sym}
use Rattle.vol_spec.specs.SegShapes.{sizes_of}
use Rattle.vol_spec.specs.SegSizes.{SegSizes, encoded_limit, padded_in}
use Rattle.segment_blocks.specs.Reserved.{sizes_for}
use Rattle.segment_blocks.specs.Rooms.{Serves}
use Rattle.vol_spec.specs.Encodings.{sizes_in}
use Rattle.segment_cells.proofs.CellSteps.{seg_first}
use Rattle.segment_cells.proofs.OwnCells.{cell_again}
use Rattle.segment_cells.proofs.SegSteps.{padded_in_cell}
use Rattle.segment_cells.proofs.chunks.test_own.Goals as goal

pub is_own_spelling-requires-clause-limit : goal.is_own_spelling-requires-clause-limit
is_own_spelling-requires-clause-limit c =
    let e = ap padded_in c.shape_of-shape.ensures in
    let p = padded_in_cell c.args.scale.now c.args.cell c.args.block c.requires.block in
    omega (arith, e, p, c.requires.writable)

pub is_own_spelling-requires-clause-scratch : goal.is_own_spelling-requires-clause-scratch
is_own_spelling-requires-clause-scratch c = subst (λ (t : SegSizes). Serves (sizes_for c.args.scratch.now) t) (sym c.shape_of-shape.ensures) (c.requires.scratch c.args.cell c.requires.cell)

pub returns-then-not-is_own_spelling-clause-scratch : goal.returns-then-not-is_own_spelling-clause-scratch
returns-then-not-is_own_spelling-clause-scratch c = λ cell is. subst (λ (t : SegSizes). Serves t (sizes_in c.args.scale.now cell)) (sym c.is_own_spelling.ensures.scratch) (c.requires.scratch cell is)

pub own_again-requires-clause-own : goal.own_again-requires-clause-own
own_again-requires-clause-own c = c.if-not-is_own_spelling.ensures.own refl

pub own_again-requires-clause-limit : goal.own_again-requires-clause-limit
own_again-requires-clause-limit c =
    let e = ap padded_in c.shape_of-shape.ensures in
    let p = padded_in_cell c.args.scale.now c.args.cell c.args.block c.requires.block in
    omega (arith, e, p, c.requires.writable)

pub returns-clause-again : goal.returns-clause-again
returns-clause-again c = λ t values fits len holds.
    cell_again c.args.scale.now c.args.cell c.args.block c.requires.block c.args.chunk.now (sizes_of c.shape_of-shape.result) c.shape_of-shape.ensures c.own_again.ensures.again values fits len holds

pub returns-clause-room : goal.returns-clause-room
returns-clause-room c = λ t.
    let first = seg_first c.args.scale.now c.args.cell c.args.block c.requires.block (encoded_limit (sizes_of c.shape_of-shape.result)) (ap encoded_limit c.shape_of-shape.ensures) in
    omega (arith, first, c.own_again.ensures.len)

pub returns-clause-scratch : goal.returns-clause-scratch
returns-clause-scratch c = λ cell is. subst (λ (t : SegSizes). Serves t (sizes_in c.args.scale.now cell)) (sym c.is_own_spelling.ensures.scratch) (c.requires.scratch cell is)
