use Rattle.std.proofs.Common.{arith, ◌≡◌, ◌+◌, ◌*◌, ◌<◌, ◌∙◌, ap, sym, subst, ℕ, List, length, length-set, set, slice_index, take, drop, ◌++◌}
use Rattle.std.proofs.lemmas.List.{take_at}
use Rattle.vol_spec.specs.SegShapes.{sizes_of}
use Rattle.equal_values.specs.Chains.{IsIndex}
use Rattle.segment_blocks.specs.Stored.{AreStored, HasTables, hash_at, indexed}
use Rattle.segment_blocks.proofs.Offsets.{offsets_fit, table_le}
use Rattle.segment_blocks.proofs.Settling.{candidate_stored, extends_twice, is_placed, placed_ends, placed_tables, set_below, set_here, shared_tables}
use Rattle.segment_blocks.proofs.Shapes.{facts, limits, some_voxels}
use Rattle.segment_blocks.proofs.Spots.{again_next, again_place, again_tells, first_tells}
use Rattle.segment_blocks.proofs.writing.settle.Goals as goal

pub overflow_cast-ends : goal.overflow_cast-ends
overflow_cast-ends c =
    let s = sizes_of c.args.shape.now in
    let h = limits c.args.shape.now in
    let f = offsets_fit s c.args.raw.now c.args.c c.args.k h c.requires.limit c.requires.block (some_voxels s h) in
    omega (arith, f, c.requires.indices)

pub overflow_cast-ends-2 : goal.overflow_cast-ends-2
overflow_cast-ends-2 c =
    let s = sizes_of c.args.shape.now in
    let f = facts s (limits c.args.shape.now) in
    omega (arith, f.voxels, table_le s c.args.raw.now c.args.c c.args.k, c.requires.candidate.len)

pub locate_table-spot-requires-clause-stored : goal.locate_table-spot-requires-clause-stored
locate_table-spot-requires-clause-stored c =
    let s = sizes_of c.args.shape.now in
    let base : AreStored s c.args.raw.now c.args.c c.args.out.now (set c.args.room.now.at.items c.args.k c.args.ends.indices) (set c.args.room.now.lens.items c.args.k c.args.ends.entries) (c.args.k + 1) =
    candidate_stored s c.args.raw.now c.args.c c.args.out.now c.args.room.now.at.items c.args.room.now.lens.items c.args.room.now.heads.items c.args.room.now.next.items c.args.k c.args.ends.indices c.args.ends.entries c.requires.tables (omega (arith, c.requires.room.at, c.requires.block)) (omega (arith, c.requires.room.lens, c.requires.block)) c.requires.candidate in
    subst (λ q. AreStored s c.args.raw.now c.args.c c.args.out.now q c.deref-3.result.now (c.args.k + 1)) (sym c.deref-2.ensures.value)
    (subst (λ q. AreStored s c.args.raw.now c.args.c c.args.out.now (set c.args.room.now.at.items c.args.k c.args.ends.indices) q (c.args.k + 1)) (sym c.deref-3.ensures.value) base)

pub locate_table-spot-requires-clause-before : goal.locate_table-spot-requires-clause-before
locate_table-spot-requires-clause-before c = λ j l.
    ap (λ q. slice_index q j) c.deref-2.ensures.value ∙ set_below c.args.room.now.at.items c.args.k c.args.ends.indices j l ∙ c.requires.tables.spots j l

pub add_block-requires-clause-small : goal.add_block-requires-clause-small
add_block-requires-clause-small c =
    let f = facts (sizes_of c.args.shape.now) (limits c.args.shape.now) in
    omega (arith, c.requires.block, f.blocks)

pub add_block-requires-clause-placed : goal.add_block-requires-clause-placed
add_block-requires-clause-placed c =
    let s = sizes_of c.args.shape.now in
    let tables = c.requires.tables in
    let h = limits c.args.shape.now in
    is_placed s c.args.raw.now c.args.c c.args.k (first_tells s c.args.raw.now c.args.c _ _ _ _ _ c.args.k c.locate_table-spot.result c.args.ends.indices h c.requires.block tables c.locate_table-spot.ensures c.requires.indices c.if-spot-ends.true)

pub returns-then-spot-ends-clause-at : goal.returns-then-spot-ends-clause-at
returns-then-spot-ends-clause-at c =
    let s = sizes_of c.args.shape.now in
    let h = limits c.args.shape.now in
    let o = first_tells s c.args.raw.now c.args.c _ _ _ _ _ c.args.k c.locate_table-spot.result c.args.ends.indices h c.requires.block c.requires.tables c.locate_table-spot.ensures c.requires.indices c.if-spot-ends.true in
    let ends = placed_ends s c.args.raw.now c.args.c c.args.k c.args.ends.indices c.args.ends.entries o c.requires.indices c.requires.candidate.len in
    ap (λ q. c.args.ends.indices + q * c.args.ends.entries) c.find_width.ensures ∙ ends.1

pub returns-then-spot-ends-clause-tables : goal.returns-then-spot-ends-clause-tables
returns-then-spot-ends-clause-tables c =
    let s = sizes_of c.args.shape.now in
    let at : List ℕ = c.args.room.now.at.items in
    let lens : List ℕ = c.args.room.now.lens.items in
    let heads : List ℕ = c.args.room.now.heads.items in
    let next : List ℕ = c.args.room.now.next.items in
    let k : ℕ = c.args.k in
    let x : ℕ = c.args.ends.indices in
    let y : ℕ = c.locate_table-spot.result in
    let n : ℕ = c.args.ends.entries in
    let o = first_tells s c.args.raw.now c.args.c _ _ _ _ _ k y x (limits c.args.shape.now) c.requires.block c.requires.tables c.locate_table-spot.ensures c.requires.indices c.if-spot-ends.true in
    let eh : take c.args.room.now.heads.len (c.add_block.new.heads ++ drop (length c.add_block.new.heads) heads) ≡ c.add_block.new.heads = take_at c.add_block.new.heads _ _ (omega (arith, c.add_block.auto.heads, c.deref_mut.ensures.len)) in
    let en : take c.args.room.now.next.len (c.add_block.new.next ++ drop (length c.add_block.new.next) next) ≡ c.add_block.new.next = take_at c.add_block.new.next _ _ (omega (arith, c.add_block.auto.next, c.deref_mut-then-spot-ends.ensures.len)) in
    let index : IsIndex (hash_at s c.args.raw.now c.args.c (length c.add_block.new.heads)) (indexed s c.args.raw.now c.args.c) c.add_block.new.heads c.add_block.new.next (k + 1) =
    subst (λ q. IsIndex (hash_at s c.args.raw.now c.args.c q) (indexed s c.args.raw.now c.args.c) c.add_block.new.heads c.add_block.new.next (k + 1)) (sym c.add_block.auto.heads) c.add_block.ensures in
    let room : k < length (set at k x) = omega (arith, length-set at k x, c.requires.room.at, c.requires.block) in
    let put : List ℕ = set (set at k x) k y in
    subst (λ q. HasTables s c.args.raw.now c.args.c c.args.out.now put (set lens k n) q (take c.args.room.now.next.len (c.add_block.new.next ++ drop (length c.add_block.new.next) next)) (k + 1)) (sym eh)
    (subst (λ q. HasTables s c.args.raw.now c.args.c c.args.out.now put (set lens k n) c.add_block.new.heads q (k + 1)) (sym en)
    (placed_tables s c.args.raw.now c.args.c c.args.out.now at put lens (set lens k n) heads c.add_block.new.heads next c.add_block.new.next k x n c.requires.tables o (extends_twice at lens k x y n)
    (set_here (set at k x) k y room ∙ c.if-spot-ends.true) (set_here lens k n (omega (arith, c.requires.room.lens, c.requires.block))) c.requires.candidate c.requires.indices index))

pub returns-else-spot-ends-clause-at : goal.returns-else-spot-ends-clause-at
returns-else-spot-ends-clause-at c =
    let s = sizes_of c.args.shape.now in
    let b = again_tells s c.args.raw.now c.args.c c.args.k c.locate_table-spot.result c.args.ends.indices c.locate_table-spot.ensures c.requires.indices c.if-spot-ends.false in
    c.requires.indices ∙ ap (λ q. 4 * q) (sym (again_next s c.args.raw.now c.args.c c.args.k b.0 b.1))

pub returns-else-spot-ends-clause-tables : goal.returns-else-spot-ends-clause-tables
returns-else-spot-ends-clause-tables c =
    let s = sizes_of c.args.shape.now in
    let at : List ℕ = c.args.room.now.at.items in
    let lens : List ℕ = c.args.room.now.lens.items in
    let k : ℕ = c.args.k in
    let x : ℕ = c.args.ends.indices in
    let y : ℕ = c.locate_table-spot.result in
    let b = again_tells s c.args.raw.now c.args.c k y x c.locate_table-spot.ensures c.requires.indices c.if-spot-ends.false in
    let ey : y ≡ slice_index at b.0 = c.locate_table-spot.ensures ∙ ap (λ q. 4 * q) (sym (again_place s c.args.raw.now c.args.c k b.0 b.1)) ∙ sym (c.requires.tables.spots b.0 b.1.0) in
    shared_tables s c.args.raw.now c.args.c c.args.out.now at (set (set at k x) k y) lens (set lens k c.args.ends.entries) c.args.room.now.heads.items c.args.room.now.next.items k b.0 c.args.ends.entries c.requires.tables
    b.1.0 b.1.1 b.1.2 (extends_twice at lens k x y c.args.ends.entries)
    (set_here (set at k x) k y (omega (arith, length-set at k x, c.requires.room.at, c.requires.block)) ∙ ey)
    (set_here lens k c.args.ends.entries (omega (arith, c.requires.room.lens, c.requires.block)))
    c.requires.candidate.len
