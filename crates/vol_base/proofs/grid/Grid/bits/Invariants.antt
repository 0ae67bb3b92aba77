use Rattle.std.proofs.Common.{◌≡◌, ◌+◌, ◌*◌, ◌≤◌, length}
use Rattle.vol_base.specs.Grids.{pairs}
use Rattle.vol_base.proofs.GridBits.{bits_from}
use Rattle.vol_base.proofs.grid.Grid.bits.Given as goal

abbrev pub invariant-loop-bit : goal.invariant-loop-bit
invariant-loop-bit l = record {
  counted : l.count + bits_from l.self.size l.bit ≡ length (pairs l.self.size);
  small : l.count ≤ 3 * l.bit;
}
