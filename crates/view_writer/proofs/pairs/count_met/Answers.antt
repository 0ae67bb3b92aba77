use Rattle.std.proofs.Common.{length, ap, arith}
use Rattle.vol_spec.specs.Grid.{cells_in}
use Rattle.write_plan.proofs.SizeSteps.{cells_in-small}
use Rattle.write_plan.specs.WriteLists.{write_of}
use Rattle.view_writer.proofs.pairs.count_met.Goals as goal

pub overflow_cast-result : goal.overflow_cast-result
overflow_cast-result c =
    let small = cells_in-small c.args.scale.now (write_of c.args.writes.now c.args.write) (c.requires.fits c.args.write _ c.requires.within) in
    let bytes = ap length c.bytes-len.ensures in
    let part = ap (λ b. length (cells_in c.args.scale.now b)) c.part.ensures in
    omega (arith, small, bytes, part)
