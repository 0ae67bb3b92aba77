use Rattle.std.proofs.Common.{arith, refl, ◌≡◌, ◌+◌, ◌*◌, ◌<◌, ◌∙◌, ap, sym, subst, ℕ, List, length, length-set, set, slice_index, take, drop, ◌++◌}
use Rattle.std.proofs.lemmas.List.{get_or_default, take_at}
use Rattle.vol_spec.specs.SegShapes.{sizes_of}
use Rattle.equal_values.specs.Chains.{IsIndex}
use Rattle.segment_blocks.specs.Said.{said}
use Rattle.segment_blocks.specs.Stored.{AreStored, HasTables, hash_at, indexed}
use Rattle.segment_blocks.proofs.Offsets.{table_le}
use Rattle.segment_blocks.proofs.OwnWalks.{placed_walked, shared_walked}
use Rattle.segment_blocks.proofs.Settling.{candidate_stored, placed_ends, set_below}
use Rattle.segment_blocks.proofs.Shapes.{facts, limits}
use Rattle.segment_blocks.proofs.Spots.{again_next, again_place}
use Rattle.segment_blocks.proofs.own.place_block.Goals as goal

pub overflow_cast-read-2 : goal.overflow_cast-read-2
overflow_cast-read-2 c =
    let s = sizes_of c.args.shape.now in
    let f = facts s (limits c.args.shape.now) in
    omega (arith, f.voxels, table_le s (said s c.args.chunk.now) c.args.c c.args.k, c.requires.candidate.len)

pub find_same-requires-clause-stored : goal.find_same-requires-clause-stored
find_same-requires-clause-stored c =
    let s = sizes_of c.args.shape.now in
    let raw : List ℕ = said s c.args.chunk.now in
    let base : AreStored s raw c.args.c c.args.channel.now (set c.args.room.now.at.items c.args.k c.args.read.table) (set c.args.room.now.lens.items c.args.k c.args.read.entries) (c.args.k + 1) =
    candidate_stored s raw c.args.c c.args.channel.now c.args.room.now.at.items c.args.room.now.lens.items c.args.room.now.heads.items c.args.room.now.next.items c.args.k c.args.read.table c.args.read.entries c.requires.tables (omega (arith, c.requires.room.at, c.requires.block)) (omega (arith, c.requires.room.lens, c.requires.block)) c.requires.candidate in
    subst (λ q. AreStored s raw c.args.c c.args.channel.now q c.deref-3.result.now (c.args.k + 1)) (sym c.deref-2.ensures.value)
    (subst (λ q. AreStored s raw c.args.c c.args.channel.now (set c.args.room.now.at.items c.args.k c.args.read.table) q (c.args.k + 1)) (sym c.deref-3.ensures.value) base)

pub add_spelled-requires-clause-small : goal.add_spelled-requires-clause-small
add_spelled-requires-clause-small c =
    let f = facts (sizes_of c.args.shape.now) (limits c.args.shape.now) in
    omega (arith, c.requires.block, f.blocks)

pub returns-else-index-read-clause-at : goal.returns-else-index-read-clause-at
returns-else-index-read-clause-at c =
    let s = sizes_of c.args.shape.now in
    c.requires.indices ∙ ap (λ q. 4 * q) (sym (again_next s (said s c.args.chunk.now) c.args.c c.args.k c.in-Some.j (c.in-Some.ensures.before, c.in-Some.ensures.placed, c.in-Some.ensures.same)))

pub returns-else-index-read-clause-spot : goal.returns-else-index-read-clause-spot
returns-else-index-read-clause-spot c =
    let s = sizes_of c.args.shape.now in
    let raw : List ℕ = said s c.args.chunk.now in
    let j : ℕ = c.in-Some.j in
    let k : ℕ = c.args.k in
    let at : List ℕ = c.args.room.now.at.items in
    let lj : j < k = c.in-Some.ensures.before in
    let len : j < length (set at k c.args.read.table) = omega (arith, length-set at k c.args.read.table, c.requires.room.at, c.requires.block, lj) in
    let here : c.index.result.now ≡ slice_index at j = c.index.ensures ∙ get_or_default (set at k c.args.read.table) j c.index.result.now 0 len ∙ set_below at k c.args.read.table j lj in
    let e : c.args.read.table ≡ slice_index at j = omega (arith, here, c.if-index-read.false) in
    e ∙ c.requires.tables.spots j lj ∙ ap (λ q. 4 * q) (again_place s raw c.args.c k j (lj, c.in-Some.ensures.placed, c.in-Some.ensures.same))

pub returns-else-index-read-clause-tables : goal.returns-else-index-read-clause-tables
returns-else-index-read-clause-tables c =
    let s = sizes_of c.args.shape.now in
    let raw : List ℕ = said s c.args.chunk.now in
    let j : ℕ = c.in-Some.j in
    let k : ℕ = c.args.k in
    let at : List ℕ = c.args.room.now.at.items in
    let lens : List ℕ = c.args.room.now.lens.items in
    let lj : j < k = c.in-Some.ensures.before in
    let len : j < length (set at k c.args.read.table) = omega (arith, length-set at k c.args.read.table, c.requires.room.at, c.requires.block, lj) in
    let here : c.index.result.now ≡ slice_index at j = c.index.ensures ∙ get_or_default (set at k c.args.read.table) j c.index.result.now 0 len ∙ set_below at k c.args.read.table j lj in
    let e : c.args.read.table ≡ slice_index at j = omega (arith, here, c.if-index-read.false) in
    shared_walked s raw c.args.c c.args.channel.now at lens c.args.room.now.heads.items c.args.room.now.next.items k j c.args.read.table c.args.read.entries c.requires.tables
    (omega (arith, c.requires.room.at, c.requires.block)) (omega (arith, c.requires.room.lens, c.requires.block)) lj c.in-Some.ensures.placed c.in-Some.ensures.same e c.requires.candidate

pub returns-else-read-clause-at : goal.returns-else-read-clause-at
returns-else-read-clause-at c =
    let s = sizes_of c.args.shape.now in
    let ends = placed_ends s (said s c.args.chunk.now) c.args.c c.args.k c.args.read.indices c.args.read.entries (c.in-None.ensures.none refl) c.requires.indices c.requires.candidate.len in
    ap (λ q. c.args.read.indices + q * c.args.read.entries) c.find_width.ensures ∙ ends.1

pub returns-else-read-clause-tables : goal.returns-else-read-clause-tables
returns-else-read-clause-tables c =
    let s = sizes_of c.args.shape.now in
    let raw : List ℕ = said s c.args.chunk.now in
    let at : List ℕ = c.args.room.now.at.items in
    let lens : List ℕ = c.args.room.now.lens.items in
    let heads : List ℕ = c.args.room.now.heads.items in
    let next : List ℕ = c.args.room.now.next.items in
    let k : ℕ = c.args.k in
    let f : ℕ = c.args.read.table in
    let n : ℕ = c.args.read.entries in
    let put : List ℕ = set at k f in
    let eh : take c.args.room.now.heads.len (c.add_spelled.new.heads ++ drop (length c.add_spelled.new.heads) heads) ≡ c.add_spelled.new.heads = take_at c.add_spelled.new.heads _ _ (omega (arith, c.add_spelled.auto.heads, c.deref_mut.ensures.len)) in
    let en : take c.args.room.now.next.len (c.add_spelled.new.next ++ drop (length c.add_spelled.new.next) next) ≡ c.add_spelled.new.next = take_at c.add_spelled.new.next _ _ (omega (arith, c.add_spelled.auto.next, c.deref_mut-in-None.ensures.len)) in
    let index : IsIndex (hash_at s raw c.args.c (length c.add_spelled.new.heads)) (indexed s raw c.args.c) c.add_spelled.new.heads c.add_spelled.new.next (k + 1) =
    subst (λ q. IsIndex (hash_at s raw c.args.c q) (indexed s raw c.args.c) c.add_spelled.new.heads c.add_spelled.new.next (k + 1)) (sym c.add_spelled.auto.heads) c.add_spelled.ensures in
    let spot : f ≡ c.args.read.indices = omega (arith, c.if-read.false) in
    subst (λ q. HasTables s raw c.args.c c.args.channel.now put (set lens k n) q (take c.args.room.now.next.len (c.add_spelled.new.next ++ drop (length c.add_spelled.new.next) next)) (k + 1)) (sym eh)
    (subst (λ q. HasTables s raw c.args.c c.args.channel.now put (set lens k n) c.add_spelled.new.heads q (k + 1)) (sym en)
    (placed_walked s raw c.args.c c.args.channel.now at lens heads c.add_spelled.new.heads next c.add_spelled.new.next k f n c.requires.tables (omega (arith, c.requires.room.at, c.requires.block)) (omega (arith, c.requires.room.lens, c.requires.block)) (c.in-None.ensures.none refl)
    c.requires.candidate (spot ∙ c.requires.indices) index))
