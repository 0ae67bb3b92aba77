use Rattle.std.proofs.Common.{◌+◌, ◌*◌, ◌∙◌, ap, length, sym}
use Rattle.vol_spec.specs.SegShapes.{sizes_of}
use Rattle.vol_spec.specs.SegWritten.{packed_len, table, values_place}
use Rattle.segment_blocks.specs.Hashes.{hash_of}
use Rattle.segment_blocks.proofs.Equal.{same_is}
use Rattle.segment_blocks.proofs.Members.{indexed_is, indexed_places}
use Rattle.segment_blocks.proofs.Settling.{owner_none}
use Rattle.segment_blocks.proofs.Spots.{again_place}
use Rattle.segment_blocks.proofs.known.locate_table.Goals as goal

pub find_equal-requires-clause-shared : goal.find_equal-requires-clause-shared
find_equal-requires-clause-shared c = λ j e.
    let b = c.args.known.now in
    let s = sizes_of b.shape.now in
    let same = same_is (table s b.raw.now b.c j) (table s b.raw.now b.c b.k) e in
    ap (λ t. hash_of t (length c.args.heads.now)) same ∙ sym c.requires.hash

pub returns-in-Some : goal.returns-in-Some
returns-in-Some c =
    let b = c.args.known.now in
    let s = sizes_of b.shape.now in
    let found = c.in-Some.ensures in
    let placed = indexed_places s b.raw.now b.c c.in-Some.j found.1 in
    let same = again_place s b.raw.now b.c b.k c.in-Some.j (found.0, placed, found.2) in
    c.requires.before c.in-Some.j found.0 ∙ ap (λ q. 4 * q) same

pub returns-in-None : goal.returns-in-None
returns-in-None c =
    let b = c.args.known.now in
    let s = sizes_of b.shape.now in
    let more = sym c.test_single.ensures ∙ c.if-test_single.false in
    let o = owner_none s b.raw.now b.c b.k (λ j l p t. c.in-None.ensures j l (indexed_is s b.raw.now b.c j more p) t) in
    c.requires.here ∙ ap (λ q. 4 * (values_place s b.raw.now b.c q + packed_len s b.raw.now b.c q)) (sym o)
