use Rattle.std.proofs.Common.{arith, rules, ℕ, ◌≡◌, ◌+◌, ◌*◌, ◌/◌, ◌<◌, ◌≤◌, ◌∙◌, ap, sym, subst, length, slice_index}
use Rattle.std.specs.Prelude.{map}
use Rattle.std.specs.List.{Contains}
use Rattle.std.proofs.Math.Nat.{mul-le-mul_left}
use Rattle.vol_spec.specs.Raw.{digit}
use Rattle.vol_spec.specs.SegBlocks.{block_voxels, width}
use Rattle.vol_spec.specs.SegShapes.{sizes_of}
use Rattle.vol_spec.specs.SegSizes.{width_of}
use Rattle.vol_spec.specs.SegWritten.{distinct, raw_value, table}
use Rattle.segment_blocks.specs.Voxels.{place_in}
use Rattle.segment_blocks.proofs.Blocks.{lies}
use Rattle.segment_blocks.proofs.Lines.{room_of, width_le, width_some}
use Rattle.segment_blocks.proofs.Offsets.{table_some}
use Rattle.segment_blocks.proofs.Shapes.{limits, some_voxels, spots}
use Rattle.segment_blocks.proofs.Tabulated.{first_place, front_first, places_are, table_is, voxels_there}
use Rattle.segment_blocks.proofs.voxels.tabulate.Goals as goal

pub find_line-requires-clause-lies : goal.find_line-requires-clause-lies
find_line-requires-clause-lies c =
    (length c.args.raw.now / width (sizes_of c.args.shape.now), lies (sizes_of c.args.shape.now) c.args.c c.args.k (length c.args.raw.now) c.args.b.now (limits c.args.shape.now) c.requires.channel c.requires.block c.requires.is c.requires.raw)

pub find_line-requires-clause-y : goal.find_line-requires-clause-y
find_line-requires-clause-y c =
    let p = spots (sizes_of c.args.shape.now) c.args.k (limits c.args.shape.now) c.requires.block in
    omega (arith, c.requires.is.count_y, c.requires.is.y, p.y, (limits c.args.shape.now).block_1)

pub find_line-requires-clause-z : goal.find_line-requires-clause-z
find_line-requires-clause-z c =
    let p = spots (sizes_of c.args.shape.now) c.args.k (limits c.args.shape.now) c.requires.block in
    omega (arith, c.requires.is.count_z, p.z, (limits c.args.shape.now).block_2)

pub read_value-first-requires : goal.read_value-first-requires
read_value-first-requires c =
    let s = sizes_of c.args.shape.now in
    let w : ℕ = width_of c.args.shape.now.wide in
    let p = spots s c.args.k (limits c.args.shape.now) c.requires.block in
    let l = lies s c.args.c c.args.k (length c.args.raw.now) c.args.b.now (limits c.args.shape.now) c.requires.channel c.requires.block c.requires.is c.requires.raw in
    let room = room_of c.args.b.now w c.find_line.result (length c.args.raw.now) 0 0 (width_some c.args.shape.now.wide) (width_le c.args.shape.now.wide) l (omega (arith, c.requires.is.count_y, c.requires.is.y, p.y, (limits c.args.shape.now).block_1)) (omega (arith, c.requires.is.count_z, p.z, (limits c.args.shape.now).block_2)) c.find_line.ensures in
    let some : 1 ≤ c.args.b.now.count_x = omega (arith, c.requires.is.count_x, c.requires.is.x, p.x, (limits c.args.shape.now).block_0) in
    let more : w * (c.find_line.result + 1) ≤ w * (c.find_line.result + c.args.b.now.count_x) = mul-le-mul_left w (omega arith) in
    omega (arith, more, room.end)

pub bounds-table-0 : goal.bounds-table-0
bounds-table-0 c =
    let pn : 0 < block_voxels (sizes_of c.args.shape.now) = some_voxels (sizes_of c.args.shape.now) (limits c.args.shape.now) in
    let some : 0 < length c.find_table-count.new.values = omega (arith, c.find_table-count.auto.values, c.requires.table, pn) in
    search rules

pub returns-clause-table : goal.returns-clause-table
returns-clause-table c =
    let s = sizes_of c.args.shape.now in
    let pn = some_voxels s (limits c.args.shape.now) in
    let first : c.read_value-first.result ≡ raw_value s c.args.raw.now c.args.c c.args.k 0 = c.read_value-first.ensures ∙ ap (digit c.args.raw.now (width s)) (c.find_line.ensures ∙ first_place s c.args.c c.args.k c.args.b.now c.requires.is) in
    c.find_table-count.ensures.table ∙ ap distinct c.fill_voxels.ensures ∙ table_is s c.args.raw.now c.args.c c.args.k c.read_value-first.result (limits c.args.shape.now) c.requires.block pn first

pub returns-clause-places : goal.returns-clause-places
returns-clause-places c =
    let s = sizes_of c.args.shape.now in
    let pn = some_voxels s (limits c.args.shape.now) in
    let is = returns-clause-table c in
    let some = table_some s c.args.raw.now c.args.c c.args.k (limits c.args.shape.now) c.requires.block pn in
    let head : slice_index c.find_table-count.new.values 0 ≡ slice_index (table s c.args.raw.now c.args.c c.args.k) 0 = front_first c.find_table-count.new.values c.find_table-count.result (subst (λ q. 0 < length q) (sym is) some) ∙ ap (λ q. slice_index q 0) is in
    ap (λ q. map (place_in q) c.refill.new.voxels) is
    ∙ places_are s c.args.raw.now c.args.c c.args.k (slice_index c.find_table-count.new.values 0) c.refill.new.voxels (limits c.args.shape.now) c.requires.block pn head c.refill.ensures

pub returns-clause-there : goal.returns-clause-there
returns-clause-there c =
    let s = sizes_of c.args.shape.now in
    let pn = some_voxels s (limits c.args.shape.now) in
    let is = returns-clause-table c in
    let some = table_some s c.args.raw.now c.args.c c.args.k (limits c.args.shape.now) c.requires.block pn in
    let head : slice_index c.find_table-count.new.values 0 ≡ slice_index (table s c.args.raw.now c.args.c c.args.k) 0 = front_first c.find_table-count.new.values c.find_table-count.result (subst (λ q. 0 < length q) (sym is) some) ∙ ap (λ q. slice_index q 0) is in
    subst (λ q. (n : ℕ) → n < length c.refill.new.voxels → Contains q (slice_index c.refill.new.voxels n)) (sym is)
    (voxels_there s c.args.raw.now c.args.c c.args.k (slice_index c.find_table-count.new.values 0) c.refill.new.voxels (limits c.args.shape.now) c.requires.block head c.refill.ensures)
