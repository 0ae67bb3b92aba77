use Rattle.std.proofs.Common.{length, sym}
use Rattle.equal_values.proofs.Homes.{home_below}
use Rattle.vol_spec.specs.SegShapes.{sizes_of}
use Rattle.segment_blocks.specs.Hashes.{hash_of}
use Rattle.segment_blocks.specs.Said.{said}
use Rattle.segment_blocks.specs.Stored.{hash_at, indexed}
use Rattle.segment_blocks.proofs.Members.{indexed_is}
use Rattle.segment_blocks.proofs.Settling.{is_placed}
use Rattle.segment_blocks.proofs.own.add_spelled.Goals as goal

pub returns : goal.returns
unfolding hash_of
returns c =
    let s = sizes_of c.args._shape.now in
    let raw = said s c.args._chunk.now in
    let heads = length c.args.heads.now in
    c.add.ensures (hash_at s raw c.args._c heads) (indexed s raw c.args._c) c.requires.index (λ j. home_below _ heads c.requires.some) (sym c.requires.hash) (indexed_is s raw c.args._c c.args.k c.requires.several (is_placed s raw c.args._c c.args.k c.requires.placed))
