use Rattle.std.proofs.Common.{arith, refl, true, ◌∙◌}
use Rattle.vol_spec.specs.SegBlocks.{in_chunk}
use Rattle.vol_spec.specs.SegShapes.{sizes_of}
use Rattle.segment_blocks.specs.Row.{index_in}
use Rattle.segment_blocks.proofs.OwnMarks.{marks_len, noted_more}
use Rattle.segment_blocks.proofs.Shapes.{facts, limits}
use Rattle.segment_blocks.proofs.own.note_whole.Goals as goal

pub read_index-requires-clause-place : goal.read_index-requires-clause-place
read_index-requires-clause-place c =
    let f = facts (sizes_of c.args._shape.now) (limits c.args._shape.now) in
    omega (arith, f.voxels, c.requires.n, c.loop-m-test.true)

pub loop-m-preserved : goal.loop-m-preserved
loop-m-preserved c = (
  noted_more (in_chunk (sizes_of c.args._shape.now) c.args._k) (index_in c.args.values.now c.args.bits) c.loop-m.marks c.note_index.new.marks c.loop-m.m c.read_index.result true
      (c.requires.whole c.loop-m.m c.loop-m-test.true) c.loop-m.invariant.0 c.read_index.ensures (c.if-not-note_index.ensures.marked refl) (c.if-not-note_index.ensures.below refl) (c.if-not-note_index.ensures.padding refl),
  marks_len true c.loop-m.marks c.note_index.new.marks c.read_index.result (c.if-not-note_index.ensures.marked refl) ∙ c.loop-m.invariant.1,
)
