use Rattle.std.proofs.Common.{arith, lit<}
use Rattle.voxel_raw.proofs.Parts.{lies_in}
use Rattle.voxel_raw.proofs.Products.{facts}
use Rattle.voxel_raw.proofs.boxes.find_place.Goals as goal

pub overflow_mul-row : goal.overflow_mul-row
overflow_mul-row c =
    let f = facts c.args.b.now c.args.part.now c.args.channels c.args.w c.args.len c.requires.holds c.requires.some c.requires.channels in
    omega (arith, f.row)

pub overflow_mul-plane : goal.overflow_mul-plane
overflow_mul-plane c =
    let f = facts c.args.b.now c.args.part.now c.args.channels c.args.w c.args.len c.requires.holds c.requires.some c.requires.channels in
    omega (arith, f.plane)

pub overflow_mul-volume : goal.overflow_mul-volume
overflow_mul-volume c =
    let f = facts c.args.b.now c.args.part.now c.args.channels c.args.w c.args.len c.requires.holds c.requires.some c.requires.channels in
    omega (arith, f.volume)

pub offset-requires-clause-low : goal.offset-requires-clause-low
offset-requires-clause-low c = (lies_in _ _ c.requires.some c.requires.holds.within 0 (lit< tt)).0

pub offset-requires-2-clause-low : goal.offset-requires-2-clause-low
offset-requires-2-clause-low c = (lies_in _ _ c.requires.some c.requires.holds.within 1 (lit< tt)).0

pub offset-requires-3-clause-low : goal.offset-requires-3-clause-low
offset-requires-3-clause-low c = (lies_in _ _ c.requires.some c.requires.holds.within 2 (lit< tt)).0

pub overflow_mul-result : goal.overflow_mul-result
overflow_mul-result c =
    let f = facts c.args.b.now c.args.part.now c.args.channels c.args.w c.args.len c.requires.holds c.requires.some c.requires.channels in
    rw c.offset.ensures (omega (arith, f.run, f.row))
