use Rattle.std.proofs.Common.{arith, refl, ap, ◌≡◌, ◌∙◌, length}
use Rattle.vol_spec.specs.SegBlocks.{block_voxels, packed_words}
use Rattle.vol_spec.specs.SegShapes.{sizes_of}
use Rattle.segment_blocks.proofs.OwnMarks.{indices_are, words_few}
use Rattle.segment_blocks.proofs.Shapes.{facts, limits}
use Rattle.segment_blocks.proofs.own.test_packed.Goals as goal

pub count_words-requires-clause-n : goal.count_words-requires-clause-n
count_words-requires-clause-n c =
    let f = facts (sizes_of c.args.shape.now) (limits c.args.shape.now) in
    omega (arith, f.voxels, c.requires.is.indices)

pub test_rest-requires-clause-small : goal.test_rest-requires-clause-small
test_rest-requires-clause-small c =
    let s = sizes_of c.args.shape.now in
    let e = ap (packed_words c.args.bits) c.requires.is.indices in
    omega (arith, e, c.count_words.ensures, words_few s c.args.bits (limits c.args.shape.now) c.requires.bits)

pub returns : goal.returns
returns c = λ t.
    let s = sizes_of c.args.shape.now in
    let e : c.count_words.result ≡ packed_words c.args.bits (block_voxels s) = c.count_words.ensures ∙ ap (packed_words c.args.bits) c.requires.is.indices in
    indices_are s c.args.k c.args.bits (length c.args.marks.now) c.args.values.now c.note_block.new.marks (c.note_block.ensures.marks ∙ c.clear_marks.auto.marks) (c.if-not-note_block.ensures.noted refl) (c.if-not-test_marks.ensures refl)
    (λ m l d. c.test_rest.ensures t m (omega (arith, c.requires.is.indices)) (omega (arith, d, e)))
