use Rattle.std.proofs.Common.{◌∙◌, ap, length, sym}
use Rattle.vol_spec.specs.SegShapes.{sizes_of}
use Rattle.vol_spec.specs.SegWritten.{table}
use Rattle.segment_blocks.specs.Hashes.{hash_of}
use Rattle.segment_blocks.specs.Said.{said}
use Rattle.segment_blocks.proofs.Equal.{same_is}
use Rattle.segment_blocks.proofs.Members.{indexed_is}
use Rattle.segment_blocks.proofs.Settling.{owner_none}
use Rattle.segment_blocks.proofs.own.find_same.Goals as goal

pub find_equal-requires-clause-shared : goal.find_equal-requires-clause-shared
find_equal-requires-clause-shared c = λ j e.
    let b = c.args.spelled.now in
    let s = sizes_of b.shape.now in
    let raw = said s b.chunk.now in
    let same = same_is (table s raw b.c j) (table s raw b.c b.k) e in
    ap (λ t. hash_of t (length c.args.heads.now)) same ∙ sym c.requires.hash

pub returns-in-None-clause-none : goal.returns-in-None-clause-none
returns-in-None-clause-none c = λ e.
    let b = c.args.spelled.now in
    let s = sizes_of b.shape.now in
    let raw = said s b.chunk.now in
    owner_none s raw b.c b.k (λ j l p t. c.in-None.ensures j l (indexed_is s raw b.c j c.requires.several p) t)
