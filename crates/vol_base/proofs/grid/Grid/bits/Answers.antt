use Rattle.std.proofs.Common.{◌≡◌, arith, ap, length}
use Rattle.vol_base.specs.Grids.{pairs}
use Rattle.vol_base.proofs.GridBits.{bits_from, bits_step, bits_from-0}
use Rattle.vol_base.proofs.grid.Grid.bits.Goals as goal

pub loop-bit-init : goal.loop-bit-init
loop-bit-init c = record { counted = omega (arith, bits_from-0 c.args.self.now.size); small = omega arith }

pub loop-bit-preserved : goal.loop-bit-preserved
loop-bit-preserved c =
    let step = bits_step c.args.self.now.size c.loop-bit.bit c.loop-bit.count (length (pairs c.args.self.now.size)) c.counts-x.result c.counts-y.result c.counts-z.result (omega arith) c.loop-bit.invariant.counted c.counts-x.ensures c.counts-y.ensures c.counts-z.ensures in
    let was = c.loop-bit.invariant.small in
    record { counted = step.0; small = omega arith }

pub returns : goal.returns
returns c =
    let end : c.loop-bit.bit ≡ 40 = omega arith in
    let none : bits_from c.args.self.now.size c.loop-bit.bit ≡ 0 = ap (bits_from c.args.self.now.size) end in
    omega (arith, c.loop-bit.invariant.counted)
