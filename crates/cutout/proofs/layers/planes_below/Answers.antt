use Rattle.std.proofs.Common.{arith, lit<}
use Rattle.cutout.proofs.LayerSteps.{depth}
use Rattle.cutout.proofs.layers.planes_below.Goals as goal

pub returns : goal.returns
returns c =
    let d = depth c.args.scale.now c.args.part.now c.requires in
    let small = (c.args.scale.now.size_ok 2 (lit< tt)).1 in
    omega (arith, d.within, small, c.planes_before.ensures, c.saturating_mul-planes.ensures, c.saturating_sub.ensures, c.min.ensures)
