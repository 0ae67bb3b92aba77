use Rattle.std.proofs.Common.{arith, rules, ℕ, ◌+◌, ◌*◌, ◌/◌, ◌≤◌, length}
use Rattle.std.proofs.Math.Nat.{mul-le-mul_left}
use Rattle.vol_spec.specs.SegBlocks.{width}
use Rattle.vol_spec.specs.SegShapes.{sizes_of}
use Rattle.vol_spec.specs.SegSizes.{width_of}
use Rattle.segment_blocks.proofs.Blocks.{lies}
use Rattle.segment_blocks.proofs.Lines.{room_of, width_le, width_some}
use Rattle.segment_blocks.proofs.Ones.{block_one, block_several}
use Rattle.segment_blocks.proofs.Shapes.{limits, spots}
use Rattle.segment_blocks.proofs.one.find_one.Goals as goal

pub find_line-requires-clause-lies : goal.find_line-requires-clause-lies
find_line-requires-clause-lies c =
    (length c.args.raw.now / width (sizes_of c.args.shape.now), lies (sizes_of c.args.shape.now) c.args.c c.args.k (length c.args.raw.now) c.args.b.now (limits c.args.shape.now) c.requires.channel c.requires.block c.requires.is c.requires.raw)

pub find_line-requires-clause-y : goal.find_line-requires-clause-y
find_line-requires-clause-y c =
    let p = spots (sizes_of c.args.shape.now) c.args.k (limits c.args.shape.now) c.requires.block in
    omega (arith, c.requires.is.count_y, c.requires.is.y, p.y, (limits c.args.shape.now).block_1)

pub find_line-requires-clause-z : goal.find_line-requires-clause-z
find_line-requires-clause-z c =
    let p = spots (sizes_of c.args.shape.now) c.args.k (limits c.args.shape.now) c.requires.block in
    omega (arith, c.requires.is.count_z, p.z, (limits c.args.shape.now).block_2)

pub read_value-value-requires : goal.read_value-value-requires
read_value-value-requires c =
    let s = sizes_of c.args.shape.now in
    let w : ℕ = width_of c.args.shape.now.wide in
    let p = spots s c.args.k (limits c.args.shape.now) c.requires.block in
    let l = lies s c.args.c c.args.k (length c.args.raw.now) c.args.b.now (limits c.args.shape.now) c.requires.channel c.requires.block c.requires.is c.requires.raw in
    let room = room_of c.args.b.now w c.find_line.result (length c.args.raw.now) 0 0 (width_some c.args.shape.now.wide) (width_le c.args.shape.now.wide) l (omega (arith, c.requires.is.count_y, c.requires.is.y, p.y, (limits c.args.shape.now).block_1)) (omega (arith, c.requires.is.count_z, p.z, (limits c.args.shape.now).block_2)) c.find_line.ensures in
    let some : 1 ≤ c.args.b.now.count_x = omega (arith, c.requires.is.count_x, c.requires.is.x, p.x, (limits c.args.shape.now).block_0) in
    let more : w * (c.find_line.result + 1) ≤ w * (c.find_line.result + c.args.b.now.count_x) = mul-le-mul_left w (omega arith) in
    omega (arith, more, room.end)

pub test_block-requires : goal.test_block-requires
test_block-requires c =
    lies (sizes_of c.args.shape.now) c.args.c c.args.k (length c.args.raw.now) c.args.b.now (limits c.args.shape.now) c.requires.channel c.requires.block c.requires.is c.requires.raw

pub returns-then-test_block-clause-one : goal.returns-then-test_block-clause-one
returns-then-test_block-clause-one c = block_one (sizes_of c.args.shape.now) c.args.raw.now c.args.c c.args.k c.read_value-value.result c.args.b.now (limits c.args.shape.now) c.requires.block c.requires.is (c.test_block.ensures.0 (search rules))

pub returns-else-test_block-clause-several : goal.returns-else-test_block-clause-several
returns-else-test_block-clause-several c = λ none.
    block_several (sizes_of c.args.shape.now) c.args.raw.now c.args.c c.args.k c.read_value-value.result c.find_line.result c.args.b.now (limits c.args.shape.now) c.requires.block c.requires.is c.find_line.ensures c.read_value-value.ensures
    (λ one.
    let all = c.test_block.ensures.1 one in
    let some = c.if-test_block.false in
    cc)
