use Rattle.std.proofs.Common.{arith, refl, ◌≡◌, ◌∙◌, length, sym, subst}
use Rattle.vol_spec.specs.SegBlocks.{block_voxels, in_chunk}
use Rattle.vol_spec.specs.SegShapes.{sizes_of}
use Rattle.segment_blocks.specs.Row.{index_in}
use Rattle.segment_blocks.specs.Walked.{Noted}
use Rattle.segment_blocks.proofs.OwnMarks.{index_room, marks_len, noted_more}
use Rattle.segment_blocks.proofs.Shapes.{facts, limits}
use Rattle.segment_blocks.proofs.own.note_clipped.Goals as goal

pub read_index-requires-clause-place : goal.read_index-requires-clause-place
read_index-requires-clause-place c =
    let f = facts (sizes_of c.args.shape.now) (limits c.args.shape.now) in
    omega (arith, f.voxels, c.requires.is.indices, c.loop-m-test.true)

pub read_index-requires-clause-within : goal.read_index-requires-clause-within
read_index-requires-clause-within c =
    let s = sizes_of c.args.shape.now in
    index_room c.args.bits (block_voxels s) c.loop-m.m (length c.args.values.now) c.requires.some (omega (arith, c.requires.is.indices, c.loop-m-test.true)) c.requires.within

pub loop-m-preserved : goal.loop-m-preserved
loop-m-preserved c = (
  noted_more (in_chunk (sizes_of c.args.shape.now) c.args.k) (index_in c.args.values.now c.args.bits) c.loop-m.marks c.note_index.new.marks c.loop-m.m c.read_index.result c.test_inside-inside.result
      (sym c.test_inside-inside.ensures) c.loop-m.invariant.0 c.read_index.ensures (c.if-not-note_index.ensures.marked refl) (c.if-not-note_index.ensures.below refl) (c.if-not-note_index.ensures.padding refl),
  marks_len c.test_inside-inside.result c.loop-m.marks c.note_index.new.marks c.read_index.result (c.if-not-note_index.ensures.marked refl) ∙ c.loop-m.invariant.1,
)

pub returns-clause-noted : goal.returns-clause-noted
returns-clause-noted c = λ t.
    let m : c.loop-m.m ≡ block_voxels (sizes_of c.args.shape.now) = omega (arith, c.requires.is.indices, c.loop-m-test.false, c.loop-m.auto.m-end) in
    subst (Noted (in_chunk (sizes_of c.args.shape.now) c.args.k) (index_in c.args.values.now c.args.bits) c.loop-m.marks) m c.loop-m.invariant.0
