use Rattle.std.proofs.Common.{arith, refl}
use Rattle.vol_spec.specs.SegShapes.{sizes_of}
use Rattle.segment_blocks.proofs.Ones.{full_inside}
use Rattle.segment_blocks.proofs.Shapes.{limits}
use Rattle.segment_blocks.proofs.own.note_block.Goals as goal

pub note_whole-requires-clause-whole : goal.note_whole-requires-clause-whole
note_whole-requires-clause-whole c = λ m l.
    let t = c.if-test_whole.ensures refl in
    full_inside (sizes_of c.args.shape.now) c.args.c c.args.k m c.args.b.now (limits c.args.shape.now) c.requires.is t.0 t.1 t.2 (omega (arith, c.requires.is.indices))
