use Rattle.std.proofs.Common.{◌+◌, ◌-◌, arith, lit<}
use Rattle.vol_base.specs.Boxes.{size}
use Rattle.cutout.proofs.LayerSteps.{depth, div_small}
use Rattle.cutout.proofs.layers.end_layer.Goals as goal

pub overflow_add-result : goal.overflow_add-result
overflow_add-result c =
    let d = depth c.args.scale.now c.args.part.now c.requires in
    let small = (c.args.scale.now.size_ok 2 (lit< tt)).1 in
    omega (arith, d.within, small, c.planes_before.ensures)

pub overflow_add-result-2 : goal.overflow_add-result-2
overflow_add-result-2 c =
    let d = depth c.args.scale.now c.args.part.now c.requires in
    let small = (c.args.scale.now.size_ok 2 (lit< tt)).1 in
    let less = div_small (c.planes_before.result + size c.args.part.now 2 - 1) _ d.chunk in
    omega (arith, d.within, small, less, c.planes_before.ensures)

pub returns-clause-small : goal.returns-clause-small
returns-clause-small c =
    let d = depth c.args.scale.now c.args.part.now c.requires in
    let small = (c.args.scale.now.size_ok 2 (lit< tt)).1 in
    let less = div_small (c.planes_before.result + size c.args.part.now 2 - 1) _ d.chunk in
    omega (arith, d.within, small, less, c.planes_before.ensures)
