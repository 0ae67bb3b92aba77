use Rattle.std.proofs.Common.{append_assoc, arith, ◌≡◌, ◌+◌, ◌*◌, ◌/◌, ◌^◌, ◌<◌, ◌∙◌, ◌++◌, ap, sym, subst, ℕ, List, length, set, take, drop}
use Rattle.std.specs.Prelude.{flat_map}
use Rattle.std.proofs.lemmas.List.{get_or_default, take_at}
use Rattle.vol_spec.specs.BoxValues.{bytes_of}
use Rattle.vol_spec.specs.SegShapes.{sizes_of}
use Rattle.vol_spec.specs.SegSizes.{width_of}
use Rattle.vol_spec.specs.SegWritten.{bits_for, block_bits, owner, packed_bytes, table, table_place, values_place}
use Rattle.segment_blocks.specs.Stored.{HasHeaders}
use Rattle.segment_blocks.proofs.Bodies.{bodies_more, candidate_of, front_kept, headers_more}
use Rattle.segment_blocks.proofs.Offsets.{block_room, offsets_fit}
use Rattle.segment_blocks.proofs.Settling.{entry_bytes, owner_le, tables_kept}
use Rattle.segment_blocks.proofs.Shapes.{limits, some_voxels}
use Rattle.segment_blocks.proofs.Tabulated.{table_narrow}
use Rattle.segment_blocks.proofs.writing.encode_block.Goals as goal

pub write_block-ends-requires-clause-room : goal.write_block-ends-requires-clause-room
write_block-ends-requires-clause-room c =
    let s = sizes_of c.args.shape.now in
    let h = limits c.args.shape.now in
    let n : ℕ = length (table s c.args.raw.now c.args.c c.args.k) in
    let r = block_room s c.args.raw.now c.args.c c.args.k h c.requires.block (some_voxels s h) in
    let e = entry_bytes c.args.shape.now.wide n in
    omega (arith, r, e, c.requires.at, c.requires.out)

pub settle-next-requires-clause-tables : goal.settle-next-requires-clause-tables
settle-next-requires-clause-tables c =
    let s = sizes_of c.args.shape.now in
    let h = limits c.args.shape.now in
    let k : ℕ = c.args.k in
    let w : ℕ = width_of c.args.shape.now.wide in
    let pb : List ℕ = packed_bytes s c.args.raw.now c.args.c k in
    let tb : List ℕ = flat_map (bytes_of w) (table s c.args.raw.now c.args.c k) in
    let f = offsets_fit s c.args.raw.now c.args.c k h c.requires.limit c.requires.block (some_voxels s h) in
    let r = block_room s c.args.raw.now c.args.c k h c.requires.block (some_voxels s h) in
    let front : take c.args.at c.write_block-ends.new.out ≡ take c.args.at c.args.out.now =
    front_kept c.args.at (c.write_block-ends.result.indices + w * c.write_block-ends.result.entries) c.args.out.now c.write_block-ends.new.out (pb ++ tb) (omega (arith, c.write_block-ends.ensures.indices)) (omega (arith, c.requires.at, r, c.requires.out))
    (c.write_block-ends.ensures.bytes ∙ append_assoc (take c.args.at c.args.out.now) pb tb) in
    tables_kept s c.args.raw.now c.args.c c.args.out.now c.write_block-ends.new.out c.args.room.now.at.items c.args.room.now.lens.items c.args.room.now.heads.items c.args.room.now.next.items k c.write_block-ends.auto.out
    (subst (λ q. take q c.write_block-ends.new.out ≡ take q c.args.out.now) c.requires.at front) c.requires.begun.tables

pub settle-next-requires-clause-candidate : goal.settle-next-requires-clause-candidate
settle-next-requires-clause-candidate c =
    let s = sizes_of c.args.shape.now in
    let h = limits c.args.shape.now in
    let k : ℕ = c.args.k in
    let w : ℕ = width_of c.args.shape.now.wide in
    let pb : List ℕ = packed_bytes s c.args.raw.now c.args.c k in
    let tb : List ℕ = flat_map (bytes_of w) (table s c.args.raw.now c.args.c k) in
    let r = block_room s c.args.raw.now c.args.c k h c.requires.block (some_voxels s h) in
    let e = entry_bytes c.args.shape.now.wide (length (table s c.args.raw.now c.args.c k)) in
    let en : w * c.write_block-ends.result.entries ≡ w * length (table s c.args.raw.now c.args.c k) = ap (λ q. w * q) c.write_block-ends.ensures.entries in
    candidate_of s c.args.raw.now c.args.c c.args.out.now c.write_block-ends.new.out k c.write_block-ends.result.indices c.write_block-ends.result.entries
    (omega (arith, c.write_block-ends.ensures.indices, c.requires.at)) c.write_block-ends.ensures.entries (omega (arith, r, c.requires.out))
    (omega (arith, c.write_block-ends.ensures.indices, c.requires.at, r, e, en, c.requires.out, c.write_block-ends.auto.out))
    (table_narrow s c.args.raw.now c.args.c k (λ i. omega (arith, c.type_inv.raw i)))
    (c.write_block-ends.ensures.bytes ∙ ap (λ q. take q c.args.out.now ++ pb ++ tb) c.requires.at)

pub overflow_cast-at : goal.overflow_cast-at
overflow_cast-at c =
    let s = sizes_of c.args.shape.now in
    let h = limits c.args.shape.now in
    let f = offsets_fit s c.args.raw.now c.args.c c.args.k h c.requires.limit c.requires.block (some_voxels s h) in
    omega (arith, f, c.requires.at)

pub put_header-requires-clause-table : goal.put_header-requires-clause-table
put_header-requires-clause-table c =
    let s = sizes_of c.args.shape.now in
    let h = limits c.args.shape.now in
    let o = owner_le s c.args.raw.now c.args.c c.args.k in
    let f : table_place s c.args.raw.now c.args.c c.args.k < 2 ^ 24 = offsets_fit s c.args.raw.now c.args.c (owner s c.args.raw.now c.args.c c.args.k) h c.requires.limit (omega (arith, o, c.requires.block)) (some_voxels s h) in
    let len : c.args.k < length c.settle-next.new.room.at.items = omega (arith, c.settle-next.ensures.same.at, c.requires.room.at, c.requires.block) in
    let at : c.index.result.now ≡ 4 * table_place s c.args.raw.now c.args.c c.args.k =
    c.index.ensures ∙ get_or_default c.settle-next.new.room.at.items c.args.k c.index.result.now 0 len ∙ c.settle-next.ensures.tables.spots c.args.k (omega arith) in
    omega (arith, at, f)

pub returns-clause-begun : goal.returns-clause-begun
returns-clause-begun c =
    let s = sizes_of c.args.shape.now in
    let h = limits c.args.shape.now in
    let k : ℕ = c.args.k in
    let w : ℕ = width_of c.args.shape.now.wide in
    let pb : List ℕ = packed_bytes s c.args.raw.now c.args.c k in
    let tb : List ℕ = flat_map (bytes_of w) (table s c.args.raw.now c.args.c k) in
    let r = block_room s c.args.raw.now c.args.c k h c.requires.block (some_voxels s h) in
    let old : List ℕ = c.args.room.now.headers.items in
    let f : ℕ = c.index.result.now / 4 + 2 ^ 24 * c.find_bits-bits.result in
    let g : ℕ = c.args.at / 4 in
    let len : k < length c.settle-next.new.room.at.items = omega (arith, c.settle-next.ensures.same.at, c.requires.room.at, c.requires.block) in
    let at : c.index.result.now ≡ 4 * table_place s c.args.raw.now c.args.c k = c.index.ensures ∙ get_or_default c.settle-next.new.room.at.items k c.index.result.now 0 len ∙ c.settle-next.ensures.tables.spots k (omega arith) in
    let bits : c.find_bits-bits.result ≡ block_bits s c.args.raw.now c.args.c k = c.find_bits-bits.ensures ∙ ap bits_for c.write_block-ends.ensures.entries in
    let ef : f ≡ table_place s c.args.raw.now c.args.c k + 2 ^ 24 * block_bits s c.args.raw.now c.args.c k = omega (arith, at, bits) in
    let eg : g ≡ values_place s c.args.raw.now c.args.c k = omega (arith, c.requires.at) in
    let put : c.put_header.new.headers ≡ set (set old (2 * k) f) (2 * k + 1) g = c.put_header.ensures ∙ ap (λ q. set (set q (2 * k) f) (2 * k + 1) g) (c.deref_mut-3.ensures.value ∙ c.settle-next.ensures.headers) in
    let items = take_at c.put_header.new.headers (drop (length c.put_header.new.headers) c.settle-next.new.room.headers.items) c.settle-next.new.room.headers.len (omega (arith, c.put_header.auto.headers, c.deref_mut-3.ensures.len)) in
    record {
      tables = c.settle-next.ensures.tables;
      headers = subst (λ q. HasHeaders s c.args.raw.now c.args.c q (k + 1)) (sym (items ∙ put)) (headers_more s c.args.raw.now c.args.c old k f g (omega (arith, c.requires.room.headers, c.requires.block)) ef eg c.requires.begun.headers);
      bodies = bodies_more s c.args.raw.now c.args.c c.args.out.now c.write_block-ends.new.out k c.write_block-ends.result.indices c.write_block-ends.result.entries
          (omega (arith, c.write_block-ends.ensures.indices, c.requires.at)) c.write_block-ends.ensures.entries (omega (arith, r, c.requires.out))
          (c.write_block-ends.ensures.bytes ∙ ap (λ q. take q c.args.out.now ++ pb ++ tb) c.requires.at) c.requires.begun.bodies;
    }
