use Rattle.std.proofs.Common.{arith, slice_index, ◌≤◌, ◌^◌}
use Rattle.vol_base.proofs.Axes.{by_axis}
use Rattle.morton_code.proofs.codes.count_bits.Goals as goal

pub returns-clause-sizes : goal.returns-clause-sizes
returns-clause-sizes c = by_axis (λ axis. slice_index c.args.grid.now.size axis ≤ 2 ^ c.bits_below.result)
    (omega (arith, c.max.ensures, c.max-2.ensures, c.bits_below.ensures.size))
    (omega (arith, c.max.ensures, c.max-2.ensures, c.bits_below.ensures.size))
    (omega (arith, c.max.ensures, c.max-2.ensures, c.bits_below.ensures.size))
