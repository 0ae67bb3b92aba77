use Rattle.std.proofs.Common.{◌∙◌, length, sym}
use Rattle.equal_values.proofs.Homes.{home_below}
use Rattle.vol_spec.specs.SegShapes.{sizes_of}
use Rattle.segment_blocks.specs.Hashes.{hash_of}
use Rattle.segment_blocks.specs.Stored.{hash_at, indexed}
use Rattle.segment_blocks.proofs.Members.{indexed_is}
use Rattle.segment_blocks.proofs.known.add_block.Goals as goal

pub returns-then-not-test_single : goal.returns-then-not-test_single
unfolding hash_of
returns-then-not-test_single c =
    let s = sizes_of c.args.shape.now in
    let raw = c.args._raw.now in
    let heads = length c.args.heads.now in
    let more = sym c.test_single.ensures ∙ c.if-not-test_single.true in
    c.add.ensures (hash_at s raw c.args._c heads) (indexed s raw c.args._c) c.requires.index (λ j. home_below _ heads c.requires.some) (sym c.requires.hash) (indexed_is s raw c.args._c c.args.k more c.requires.placed)
